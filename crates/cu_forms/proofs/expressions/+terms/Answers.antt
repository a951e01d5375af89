use Rattle.std.proofs.Common.{◌≡◌, ◌∙◌, ◌<◌, ◌≤◌, ◌++◌, ◌∷◌, [], List, None, Option, Some, IfNone, IfOk, IfSome, true, false, ap, ap₂, map, refl, rules, subst, sym, codes}
use Rattle.std.proofs.lemmas.List.Elements.{All-get_or}
use Rattle.std.specs.List.{All}
use Rattle.std.specs.Option.{option_map}
use Rattle.std.specs.declared.alloc.Global.{Global}
use Rattle.std.specs.declared.vec.Vec.{Vec}
use denote.Param.Weighed.{most}
use Rattle.cu_fixity.specs.Grouping.{Infix, Operand}
use Rattle.cu_fixity.specs.Owners.{PartIsOf, part_size}
use Rattle.cu_fixity.specs.declared.part.Part.{Part}
use Rattle.cu_kernel.specs.LocalTerm as kernel
use Rattle.cu_kernel.specs.LocalTermsOf.{local_term_of}
use Rattle.cu_lex.specs.Reading.{position_of}
use Rattle.cu_locals.specs.Entries.{block_brings}
use Rattle.cu_locals.specs.Text.{text}
use Rattle.cu_syntax.proofs.Elements.{largest}
use Rattle.cu_syntax.specs.Names.{name_meaning}
use Rattle.cu_syntax.specs.Owners.{AlternativeIsOf, BodyIsOf, DeclarationIsOf, DeclarationNodeIsOf, ExpressionIsOf, ExpressionNodeIsOf, GuardIsOf, QualifierIsOf}
use Rattle.cu_syntax.specs.Smaller.{alternative_size, declaration_size, expression_size, guard_size, items_size, qualifier_size}
use Rattle.cu_syntax.specs.declared.declarations.Declaration.{Declaration}
use Rattle.cu_syntax.specs.declared.declarations.DeclarationNode.TheVariants as declaration
use Rattle.cu_syntax.specs.declared.expressions.Alternative.{Alternative}
use Rattle.cu_syntax.specs.declared.expressions.Expression.{Expression}
use Rattle.cu_syntax.specs.declared.expressions.ExpressionNode.TheVariants as node
use Rattle.cu_syntax.specs.declared.expressions.Qualifier.{Qualifier}
use Rattle.cu_translation.specs.Around.{referent}
use Rattle.cu_translation.specs.LocalNames.{At, variable_entries}
use Rattle.cu_translation.specs.Blocks.{bound}
use Rattle.cu_translation.specs.Meaning.{entries_meaning, referent_meaning}
use Rattle.cu_translation.specs.Table as table
use Rattle.cu_translation.specs.Terms.{applied, no_term, referred}
use Rattle.cu_uses.specs.Gathered.{pattern_binds}
use Rattle.cu_forms.specs.Forms.{alternative_form, application_form, scope_after, block_form, block_term, body_form, free_form, comprehension_form, expression_form, guard_form, inside, let_form, operand_form, operators_term, right_form}
use Rattle.cu_forms.specs.Inside.Blocks.{guard_meaning, guards_term, row_meaning}
use Rattle.cu_forms.specs.Inside.Calls.{built_in_term, referred_on}
use Rattle.cu_forms.specs.Inside.Expressions.{Opens, alternatives_term, generated_term, is_function_rule}
use Rattle.cu_forms.specs.Inside.Lists.{distinction, list_term, tuple_term}
use Rattle.cu_forms.specs.Operands.{item_meaning, operated_term, part_item}
use Rattle.cu_forms.proofs.CallLemmas.{if_ok, pushed_all, pushed_one}
use Rattle.cu_forms.proofs.DefinitionLemmas.{binding_defines, defined_all, defined_none, defined_one, defines, defines_nothing, one_more, bound_at, at_place, rule_defines}
use Rattle.cu_forms.proofs.ExpressionLemmas.{called_by_name, called_by_term, formed, guards_are, operand_is, right_formed, section_is}
use Rattle.cu_forms.proofs.QualifierLemmas.{block_below, condition_below, generator_below, reached, sees_more, wraps_block, wraps_condition, wraps_element, wraps_generator, wraps_none}
use Rattle.cu_forms.proofs.expressions.+terms.Goals as goal

pub term-returns-in-Variable : goal.term-returns-in-Variable
term-returns-in-Variable g t c w local tells sees is =
    let of = subst (ExpressionNodeIsOf w.owner w.names) c.in-Variable.is (c.in_ok-name.ensures.owned w.owner w.names is) in
    if_ok c.alone.result (λ u e. e ∙ ap (λ r. referred r []) (c.referent.ensures w local tells sees of.1) ∙ formed w local c.args.e c.in_ok-name.field-0 (node.Variable c.in-Variable.field-0 c.in-Variable.name) (c.in_ok-name.ensures.meaning w.names) c.in-Variable.is) c.alone.ensures

pub term-returns-in-Constructor : goal.term-returns-in-Constructor
term-returns-in-Constructor g t c w local tells sees is =
    let of = subst (ExpressionNodeIsOf w.owner w.names) c.in-Constructor.is (c.in_ok-name.ensures.owned w.owner w.names is) in
    if_ok c.alone-in-Constructor.result (λ u e. e ∙ ap (λ r. referred r []) (c.value.ensures w tells of.1) ∙ formed w local c.args.e c.in_ok-name.field-0 (node.Constructor c.in-Constructor.field-0 c.in-Constructor.name) (c.in_ok-name.ensures.meaning w.names) c.in-Constructor.is) c.alone-in-Constructor.ensures

pub term-returns-in-TupleConstructor : goal.term-returns-in-TupleConstructor
term-returns-in-TupleConstructor g t c w local tells sees is =
    let of = subst (ExpressionNodeIsOf w.owner w.names) c.in-TupleConstructor.is (c.in_ok-name.ensures.owned w.owner w.names is) in
    if_ok c.alone-in-TupleConstructor.result (λ u e. e ∙ ap (λ r. referred r []) (c.prelude.ensures w tells) ∙ formed w local c.args.e c.in_ok-name.field-0 (node.TupleConstructor c.in-TupleConstructor.field-0 c.in-TupleConstructor.count) (c.in_ok-name.ensures.meaning w.names) c.in-TupleConstructor.is) c.alone-in-TupleConstructor.ensures

pub term-returns-in-Literal : goal.term-returns-in-Literal
term-returns-in-Literal g t c w local tells sees is =
    let of = subst (ExpressionNodeIsOf w.owner w.names) c.in-Literal.is (c.in_ok-name.ensures.owned w.owner w.names is) in
    if_ok c.literal.result (λ u e. e ∙ formed w local c.args.e c.in_ok-name.field-0 (node.Literal c.in-Literal.field-0 c.in-Literal.found) (c.in_ok-name.ensures.meaning w.names) c.in-Literal.is) (c.literal.ensures w tells)

pub term-returns-in-Application : goal.term-returns-in-Application
term-returns-in-Application g t c w local tells sees is =
    let of = subst (ExpressionNodeIsOf w.owner w.names) c.in-Application.is (c.in_ok-name.ensures.owned w.owner w.names is) in
    if_ok c.application.result (λ u e. e ∙ formed w local c.args.e c.in_ok-name.field-0 (node.Application c.in-Application.field-0 c.in-Application.function c.in-Application.arguments) (c.in_ok-name.ensures.meaning w.names) c.in-Application.is)
    (subst (λ (xs : List Expression). All (ExpressionIsOf w.owner w.names) xs → IfOk c.application.result (λ u. local_term_of u ≡ application_form w local c.in-Application.function xs)) c.as_slice.ensures.value
    (c.application.ensures w local tells sees of.1) of.2)

pub term-returns-in-Operators : goal.term-returns-in-Operators
term-returns-in-Operators g t c w local tells sees is =
    let of = subst (ExpressionNodeIsOf w.owner w.names) c.in-Operators.is (c.in_ok-name.ensures.owned w.owner w.names is) in
    if_ok c.operators.result (λ u e. e ∙ formed w local c.args.e c.in_ok-name.field-0 (node.Operators c.in-Operators.items) (c.in_ok-name.ensures.meaning w.names) c.in-Operators.is) (c.operators.ensures w local tells sees of)

pub term-returns-in-Lambda : goal.term-returns-in-Lambda
term-returns-in-Lambda g t c w local tells sees is =
    let of = subst (ExpressionNodeIsOf w.owner w.names) c.in-Lambda.is (c.in_ok-name.ensures.owned w.owner w.names is) in
    c.local_function.ensures w tells ∙ formed w local c.args.e c.in_ok-name.field-0 (node.Lambda c.in-Lambda.place c.in-Lambda._parameters c.in-Lambda.field-2) (c.in_ok-name.ensures.meaning w.names) c.in-Lambda.is

pub term-returns-in-Let : goal.term-returns-in-Let
term-returns-in-Let g t c w local tells sees is =
    let of = subst (ExpressionNodeIsOf w.owner w.names) c.in-Let.is (c.in_ok-name.ensures.owned w.owner w.names is) in
    if_ok c.let_in.result (λ u e. e ∙ formed w local c.args.e c.in_ok-name.field-0 (node.Let c.in-Let.field-0 c.in-Let.ds c.in-Let.body) (c.in_ok-name.ensures.meaning w.names) c.in-Let.is)
    (subst (λ (xs : List Declaration). All (DeclarationIsOf w.owner w.names) xs → IfOk c.let_in.result (λ u. local_term_of u ≡ let_form w local xs c.in-Let.body)) c.as_slice-in-Let.ensures.value
    (λ all. c.let_in.ensures w local tells sees all of.2) of.1)

pub term-returns-in_ok-other-in-If : goal.term-returns-in_ok-other-in-If
term-returns-in_ok-other-in-If g t c w local tells sees is =
    let of = subst (ExpressionNodeIsOf w.owner w.names) c.in-If.is (c.in_ok-name.ensures.owned w.owner w.names is) in
    if_ok c.if_then_else.result
    (λ u e. e
    ∙ ap (λ x. distinction w.around.names x (local_term_of c.in_ok-chosen-in-If.chosen) (local_term_of c.in_ok-other-in-If.other)) (c.in_ok-condition-in-If.ensures w local tells sees of.1)
    ∙ ap₂ (distinction w.around.names (expression_form w local c.in-If.condition)) (c.in_ok-chosen-in-If.ensures w local tells sees of.2) (c.in_ok-other-in-If.ensures w local tells sees of.3)
    ∙ formed w local c.args.e c.in_ok-name.field-0 (node.If c.in-If.field-0 c.in-If.condition c.in-If.chosen c.in-If.other) (c.in_ok-name.ensures.meaning w.names) c.in-If.is)
    (c.if_then_else.ensures w tells)

pub term-returns-in_ok-rows-in-Case : goal.term-returns-in_ok-rows-in-Case
term-returns-in_ok-rows-in-Case g t c w local tells sees is =
    let of = subst (ExpressionNodeIsOf w.owner w.names) c.in-Case.is (c.in_ok-name.ensures.owned w.owner w.names is) in
    let rows = subst (λ (xs : List Alternative). All (AlternativeIsOf w.owner w.names) xs → map row_meaning c.in_ok-rows-in-Case.rows.items ≡ map (alternative_form w local) xs) c.as_slice-in-Case.ensures.value
    (c.in_ok-rows-in-Case.ensures w local tells sees) of.2 in
    if_ok c.distinguished.result
    (λ u e. e ∙ ap₂ (λ x ys. kernel.Case (table.mode c.in-Case.word) x (alternatives_term ys)) (c.in_ok-subject-in-Case.ensures w local tells sees of.1) rows ∙ formed w local c.args.e c.in_ok-name.field-0 (node.Case c.in-Case.field-0 c.in-Case.word c.in-Case.subject c.in-Case.cases) (c.in_ok-name.ensures.meaning w.names) c.in-Case.is)
    c.distinguished.ensures

pub term-returns-in_ok-found-in-Tuple : goal.term-returns-in_ok-found-in-Tuple
term-returns-in_ok-found-in-Tuple g t c w local tells sees is =
    let of = subst (ExpressionNodeIsOf w.owner w.names) c.in-Tuple.is (c.in_ok-name.ensures.owned w.owner w.names is) in
    let found = subst (λ (xs : List Expression). All (ExpressionIsOf w.owner w.names) xs → map local_term_of c.in_ok-found-in-Tuple.found.items ≡ map (expression_form w local) xs) c.as_slice-in-Tuple.ensures.value
    (c.in_ok-found-in-Tuple.ensures w local tells sees) of.1 in
    if_ok c.tuple.result (λ u e. e ∙ ap (tuple_term w.around.names) found ∙ formed w local c.args.e c.in_ok-name.field-0 (node.Tuple c.in-Tuple.field-0 c.in-Tuple.components) (c.in_ok-name.ensures.meaning w.names) c.in-Tuple.is) (c.tuple.ensures w tells)

pub term-returns-in_ok-found-in-List : goal.term-returns-in_ok-found-in-List
term-returns-in_ok-found-in-List g t c w local tells sees is =
    let of = subst (ExpressionNodeIsOf w.owner w.names) c.in-List.is (c.in_ok-name.ensures.owned w.owner w.names is) in
    let found = subst (λ (xs : List Expression). All (ExpressionIsOf w.owner w.names) xs → map local_term_of c.in_ok-found-in-List.found.items ≡ map (expression_form w local) xs) c.as_slice-in-List.ensures.value
    (c.in_ok-found-in-List.ensures w local tells sees) of.1 in
    if_ok c.list.result (λ u e. e ∙ ap (list_term w.around.names) found ∙ formed w local c.args.e c.in_ok-name.field-0 (node.List c.in-List.field-0 c.in-List.elements) (c.in_ok-name.ensures.meaning w.names) c.in-List.is) (c.list.ensures w tells)

pub term-returns-in_ok-found-in-LeftSection : goal.term-returns-in_ok-found-in-LeftSection
term-returns-in_ok-found-in-LeftSection g t c w local tells sees is =
    let of = subst (ExpressionNodeIsOf w.owner w.names) c.in-LeftSection.is (c.in_ok-name.ensures.owned w.owner w.names is) in
    let x = referent w.around local (name_meaning w.names c.in-LeftSection.operator) in
    if_ok c.left_section.result
    (λ u e. e ∙ ap (λ r. referred_on r (option_map referent_meaning c.in_ok-first-in-LeftSection.first) (local_term_of c.in_ok-found-in-LeftSection.found ∷ [])) (c.referent-in-LeftSection.ensures w local tells sees of.2)
    ∙ ap₂ (λ n y. referred_on x n (y ∷ [])) (c.in_ok-first-in-LeftSection.ensures w local tells sees of.1) (c.in_ok-found-in-LeftSection.ensures w local tells sees of.1)
    ∙ section_is x (operand_form w local c.in-LeftSection.operand) ∙ formed w local c.args.e c.in_ok-name.field-0 (node.LeftSection c.in-LeftSection.field-0 c.in-LeftSection.operand c.in-LeftSection.operator) (c.in_ok-name.ensures.meaning w.names) c.in-LeftSection.is)
    c.left_section.ensures

pub term-returns-in_ok-found-in-RightSection : goal.term-returns-in_ok-found-in-RightSection
term-returns-in_ok-found-in-RightSection g t c w local tells sees is =
    let of = subst (ExpressionNodeIsOf w.owner w.names) c.in-RightSection.is (c.in_ok-name.ensures.owned w.owner w.names is) in
    if_ok c.right_section.result
    (λ u e. e ∙ ap₂ (λ r y. built_in_term w.around.names (codes "flip") (referred r [] ∷ y ∷ [])) (c.referent-in-RightSection.ensures w local tells sees of.1)
    (c.in_ok-found-in-RightSection.ensures w local tells sees of.2) ∙ formed w local c.args.e c.in_ok-name.field-0 (node.RightSection c.in-RightSection.field-0 c.in-RightSection.operator c.in-RightSection.operand) (c.in_ok-name.ensures.meaning w.names) c.in-RightSection.is)
    (c.right_section.ensures w tells)

pub term-returns-in-Enumeration : goal.term-returns-in-Enumeration
term-returns-in-Enumeration g t c w local tells sees is =
    let of = subst (ExpressionNodeIsOf w.owner w.names) c.in-Enumeration.is (c.in_ok-name.ensures.owned w.owner w.names is) in
    if_ok c.enumeration.result (λ u e. e ∙ formed w local c.args.e c.in_ok-name.field-0 (node.Enumeration c.in-Enumeration.field-0 c.in-Enumeration.numbers) (c.in_ok-name.ensures.meaning w.names) c.in-Enumeration.is) (c.enumeration.ensures w local tells sees of.1)

pub term-returns-in-Comprehension : goal.term-returns-in-Comprehension
term-returns-in-Comprehension g t c w local tells sees is =
    let of = subst (ExpressionNodeIsOf w.owner w.names) c.in-Comprehension.is (c.in_ok-name.ensures.owned w.owner w.names is) in
    if_ok c.comprehension.result (λ u e. e ∙ formed w local c.args.e c.in_ok-name.field-0 (node.Comprehension c.in-Comprehension.field-0 c.in-Comprehension.element c.in-Comprehension.qualifiers) (c.in_ok-name.ensures.meaning w.names) c.in-Comprehension.is)
    (subst (λ (xs : List Qualifier). All (QualifierIsOf w.owner w.names) xs → IfOk c.comprehension.result (λ u. local_term_of u ≡ comprehension_form w local c.in-Comprehension.element xs)) c.as_slice-in-Comprehension.ensures.value
    (c.comprehension.ensures w local tells sees of.1) of.2)

pub terms-term-requires : goal.terms-term-requires
terms-term-requires g t c =
    λ κs e. (search (rules, largest expression_size c.args.es.now c.loop-e.e-index, c.loop-e-test.true), search (rules, e))

pub terms-loop-e-preserved : goal.terms-loop-e-preserved
terms-loop-e-preserved g t c w local tells sees all =
    let P = ExpressionIsOf w.owner w.names in
    let f = expression_form w local in
    let i = c.loop-e.e-index in
    let x = c.e-item.result in
    let of = subst P (sym c.e-item.is) (All-get_or P c.args.es.now i x c.loop-e-test.true all) in
    pushed_one local_term_of f c.args.es.now i x c.loop-e.found.items c.push.new.self.items c.in_ok-term.field-0 (map f c.args.es.now) c.loop-e-test.true
    c.in_ok-push.ensures.items (c.in_ok-term.ensures w local tells sees of ∙ ap f c.e-item.is) (c.loop-e.invariant w local tells sees all)

pub terms-returns : goal.terms-returns
terms-returns g t c w local tells sees all =
    let f = expression_form w local in
    pushed_all local_term_of f c.args.es.now c.loop-e.e-index c.loop-e.found.items (map f c.args.es.now) c.loop-e-test.false (c.loop-e.invariant w local tells sees all)

pub operands-part-requires : goal.operands-part-requires
operands-part-requires g t c =
    λ κs e. (search (rules, largest (part_size expression_size) c.args.ordered.now c.loop-one.one-index, c.loop-one-test.true), search (rules, e))

pub operands-loop-one-preserved : goal.operands-loop-one-preserved
operands-loop-one-preserved g t c w local tells sees all =
    let P = PartIsOf ExpressionIsOf w.owner w.names in
    let f = part_item w local in
    let i = c.loop-one.one-index in
    let x = c.one-item.result in
    let of = subst P (sym c.one-item.is) (All-get_or P c.args.ordered.now i x c.loop-one-test.true all) in
    pushed_one item_meaning f c.args.ordered.now i x c.loop-one.found.items c.push.new.self.items c.in_ok-part.field-0 (map f c.args.ordered.now) c.loop-one-test.true
    c.in_ok-push.ensures.items (c.in_ok-part.ensures w local tells sees of ∙ ap f c.one-item.is) (c.loop-one.invariant w local tells sees all)

pub operands-returns : goal.operands-returns
operands-returns g t c w local tells sees all =
    let f = part_item w local in
    pushed_all item_meaning f c.args.ordered.now c.loop-one.one-index c.loop-one.found.items (map f c.args.ordered.now) c.loop-one-test.false (c.loop-one.invariant w local tells sees all)

pub alternatives-alternative-requires : goal.alternatives-alternative-requires
alternatives-alternative-requires g t c =
    λ κs e. (search (rules, largest alternative_size c.args.cases.now c.loop-case.case-index, c.loop-case-test.true), search (rules, e))

pub alternatives-loop-case-preserved : goal.alternatives-loop-case-preserved
alternatives-loop-case-preserved g t c w local tells sees all =
    let P = AlternativeIsOf w.owner w.names in
    let f = alternative_form w local in
    let i = c.loop-case.case-index in
    let x = c.case-item.result in
    let of = subst P (sym c.case-item.is) (All-get_or P c.args.cases.now i x c.loop-case-test.true all) in
    pushed_one row_meaning f c.args.cases.now i x c.loop-case.rows.items c.push.new.self.items c.in_ok-alternative.field-0 (map f c.args.cases.now) c.loop-case-test.true
    c.in_ok-push.ensures.items (c.in_ok-alternative.ensures w local tells sees of ∙ ap f c.case-item.is) (c.loop-case.invariant w local tells sees all)

pub alternatives-returns : goal.alternatives-returns
alternatives-returns g t c w local tells sees all =
    let f = alternative_form w local in
    pushed_all row_meaning f c.args.cases.now c.loop-case.case-index c.loop-case.rows.items (map f c.args.cases.now) c.loop-case-test.false (c.loop-case.invariant w local tells sees all)

pub guards-guard-requires : goal.guards-guard-requires
guards-guard-requires g t c =
    λ κs e. (search (rules, largest guard_size c.args.cases.now c.loop-case.case-index, c.loop-case-test.true), search (rules, e))

pub guards-loop-case-preserved : goal.guards-loop-case-preserved
guards-loop-case-preserved g t c w local tells sees all =
    let P = GuardIsOf w.owner w.names in
    let f = guard_form w local in
    let i = c.loop-case.case-index in
    let x = c.case-item.result in
    let of = subst P (sym c.case-item.is) (All-get_or P c.args.cases.now i x c.loop-case-test.true all) in
    pushed_one guard_meaning f c.args.cases.now i x c.loop-case.rows.items c.push.new.self.items c.in_ok-guard.field-0 (map f c.args.cases.now) c.loop-case-test.true
    c.in_ok-push.ensures.items (c.in_ok-guard.ensures w local tells sees of ∙ ap f c.case-item.is) (c.loop-case.invariant w local tells sees all)

pub guards-returns : goal.guards-returns
guards-returns g t c w local tells sees all =
    let f = guard_form w local in
    pushed_all guard_meaning f c.args.cases.now c.loop-case.case-index c.loop-case.rows.items (map f c.args.cases.now) c.loop-case-test.false (c.loop-case.invariant w local tells sees all)

pub application-returns-in-Some : goal.application-returns-in-Some
application-returns-in-Some g t c w local tells sees is all =
    let es = c.args.arguments.now in
    if_ok c.referred.result
    (λ u e. e
    ∙ ap₂ (referred_on (referent_meaning c.in-Some.means)) (c.in_ok-first.ensures w local tells sees all) (c.in_ok-found.ensures w local tells sees all)
    ∙ called_by_name w local c.args.function es (referent_meaning c.in-Some.means) (sym (ap (option_map referent_meaning) c.in-Some.is) ∙ c.in_ok-means.ensures w local tells sees is))
    c.referred.ensures

pub application-returns-in_ok-function-in-None : goal.application-returns-in_ok-function-in-None
application-returns-in_ok-function-in-None g t c w local tells sees is all =
    let es = c.args.arguments.now in
    if_ok c.applied.result
    (λ u e. e ∙ ap₂ applied (c.in_ok-function-in-None.ensures w local tells sees is) (c.in_ok-found.ensures w local tells sees all)
    ∙ called_by_term w local c.args.function es (sym (ap (option_map referent_meaning) c.in-None.is) ∙ c.in_ok-means.ensures w local tells sees is))
    c.applied.ensures

pub operators-operands-requires : goal.operators-operands-requires
operators-operands-requires g t c =
    let n = items_size c.args.items.now in
    let some = subst (λ (o : Option (Vec (Part Expression) Global)). IfSome o (λ parts. most (part_size expression_size) parts.items < n)) c.in-Some.is c.in_ok-ordered.ensures.smaller in
    let small : most (part_size expression_size) c.as_slice.result.now < n = subst (λ (xs : List (Part Expression)). most (part_size expression_size) xs < n) (sym c.as_slice.ensures.value) some in
    λ κs e. (search (rules, small), search (rules, e))

pub operators-returns-in_ok-found-in-Some : goal.operators-returns-in_ok-found-in-Some
operators-returns-in_ok-found-in-Some g t c w local tells sees of =
    let P = PartIsOf ExpressionIsOf w.owner w.names in
    let owned = subst (λ (o : Option (Vec (Part Expression) Global)). IfSome o (λ parts. All P parts.items)) c.in-Some.is (c.in_ok-ordered.ensures.owned w.owner w.names of) in
    let all = subst (All P) (sym c.as_slice.ensures.value) owned in
    let some = subst (λ (o : Option (Vec (Part Expression) Global)). IfSome o (λ parts. operated_term w.around.names (map (part_item w local) parts.items) ≡ operators_term w local c.args.items.now)) c.in-Some.is
    (c.in_ok-ordered.ensures.term w local tells sees of) in
    if_ok c.grouped.result
    (λ u e. e ∙ ap (operated_term w.around.names) (c.in_ok-found-in-Some.ensures w local tells sees all ∙ ap (map (part_item w local)) c.as_slice.ensures.value) ∙ some)
    (c.grouped.ensures w tells)

pub operators-returns-in-None : goal.operators-returns-in-None
operators-returns-in-None g t c w local tells sees of =
    if_ok c.no_term.result
    (λ u e. e ∙ subst (λ (o : Option (Vec (Part Expression) Global)). IfNone o (no_term ≡ operators_term w local c.args.items.now)) c.in-None.is (c.in_ok-ordered.ensures.refused w local tells sees of))
    c.no_term.ensures

pub part-returns-in_ok-found-in-Operand : goal.part-returns-in_ok-found-in-Operand
part-returns-in_ok-found-in-Operand g t c w local tells sees of =
    let is = subst (PartIsOf ExpressionIsOf w.owner w.names) c.in-Operand.is of in
    ap Operand (c.in_ok-found-in-Operand.ensures w local tells sees is) ∙ ap (part_item w local) (sym c.in-Operand.is)

pub part-returns-in-Minus : goal.part-returns-in-Minus
part-returns-in-Minus g t c w local tells sees of =
    ap (part_item w local) (sym c.in-Minus.is)

pub part-returns-in-Operator : goal.part-returns-in-Operator
part-returns-in-Operator g t c w local tells sees of =
    let is = subst (PartIsOf ExpressionIsOf w.owner w.names) c.in-Operator.is of in
    ap Infix (c.referent.ensures w local tells sees is) ∙ ap (part_item w local) (sym c.in-Operator.is)

pub operand-returns : goal.operand-returns
operand-returns g t c w local tells sees of =
    operand_is w local c.args.e c.in_ok-term.term c.in_ok-name.name c.in_ok-number.number (c.in_ok-term.ensures w local tells sees of) (c.in_ok-name.ensures w local tells sees of) (c.in_ok-number.ensures w.names)

pub alternative-returns : goal.alternative-returns
alternative-returns g t c w local tells sees of =
    let entries = c.in_ok-entries.ensures (text w.owner w.names sees.differ) of.1 in
    let inner = sees_more w local (variable_entries (pattern_binds w.names c.args.case.pattern)) c.args.scope.now c.inside-inner.result c.as_slice.result.now c.in_ok-entries.entries.items sees c.as_slice.ensures.value
    entries.known entries.meaning c.inside-inner.ensures in
    ap₂ (λ p u. (p, u)) (c.in_ok-matched.ensures w tells of.1) (c.in_ok-right.ensures w (scope_after w local c.args.case.pattern) tells inner of.2)

pub let_in-returns : goal.let_in-returns
let_in-returns g t c w local tells sees all is =
    let brought = c.in_ok-entries.ensures (text w.owner w.names sees.differ) all in
    let inner = sees_more w local (block_brings w.names c.args.ds.now) c.args.scope.now c.inside-inner.result c.as_slice.result.now c.in_ok-entries.entries.items sees c.as_slice.ensures.value
    brought.known brought.meaning c.inside-inner.ensures in
    let scope = inside w local c.args.ds.now in
    let free = free_form w.names c.args.ds.now in
    if_ok c.in_block.result
    (λ u e. e ∙ ap₂ (block_term w free) (c.in_ok-bounds.ensures w scope tells inner all) (c.in_ok-found.ensures w scope tells inner is))
    (c.in_block.ensures w tells)

pub local_block-returns : goal.local_block-returns
local_block-returns g t c w local tells sees all =
    let brought = c.in_ok-entries.ensures (text w.owner w.names sees.differ) all in
    let inner = sees_more w local (block_brings w.names c.args.ds.now) c.args.scope.now c.inside-inner.result c.as_slice.result.now c.in_ok-entries.entries.items sees c.as_slice.ensures.value
    brought.known brought.meaning c.inside-inner.ensures in
    record {
      entries = brought.meaning;
      known = brought.known;
      free = c.in_ok-free.ensures w.names;
      bounds = c.in_ok-bounds.ensures w (inside w local c.args.ds.now) tells inner all;
    }

pub enumeration-returns : goal.enumeration-returns
enumeration-returns g t c w local tells sees of =
    if_ok c.numbered.result
    (λ u e. e ∙ ap (λ x. table.enumeration w.around.names x (option_map local_term_of c.in_ok-second.second) (option_map local_term_of c.in_ok-last.last)) (c.in_ok-first.ensures w local tells sees of.0)
    ∙ ap₂ (table.enumeration w.around.names (expression_form w local c.args.numbers.first)) (c.in_ok-second.ensures w local tells sees of.1) (c.in_ok-last.ensures w local tells sees of.2))
    (c.numbered.ensures w tells)

pub maybe-returns-in-None : goal.maybe-returns-in-None
maybe-returns-in-None g t c w local tells sees of =
    ap (option_map (expression_form w local)) (sym c.in-None.is)

pub maybe-returns-in_ok-found-in-Some : goal.maybe-returns-in_ok-found-in-Some
maybe-returns-in_ok-found-in-Some g t c w local tells sees of =
    ap Some (c.in_ok-found-in-Some.ensures w local tells sees (subst (λ (m : Option Expression). IfSome m (ExpressionIsOf w.owner w.names)) c.in-Some.is of)) ∙ ap (option_map (expression_form w local)) (sym c.in-Some.is)

pub right_side-returns : goal.right_side-returns
right_side-returns g t c w local tells sees of =
    let ok = c.in_ok-node.ensures.owned w.owner w.names of in
    let ds = c.as_slice-ds.result.now in
    let all = subst (All (DeclarationIsOf w.owner w.names)) (sym c.as_slice-ds.ensures.value) ok.2 in
    let brought = c.in_ok-entries.ensures (text w.owner w.names sees.differ) all in
    let inner = sees_more w local (block_brings w.names ds) c.args.scope.now c.inside-inner.result c.as_slice.result.now c.in_ok-entries.entries.items sees c.as_slice.ensures.value
    brought.known brought.meaning c.inside-inner.ensures in
    let scope = inside w local ds in
    let free = free_form w.names ds in
    if_ok c.in_block.result
    (λ u e. e ∙ ap₂ (block_term w free) (c.in_ok-bounds.ensures w scope tells inner all) (c.in_ok-found.ensures w scope tells inner ok.1)
    ∙ ap (λ xs. block_form w local xs (body_form w (inside w local xs) c.in_ok-node.node.body)) c.as_slice-ds.ensures.value
    ∙ right_formed w local c.args.right c.in_ok-node.node (c.in_ok-node.ensures.meaning w.names))
    (c.in_block.ensures w tells)

pub body-returns-in-Plain : goal.body-returns-in-Plain
body-returns-in-Plain g t c w local tells sees of =
    if_ok c.term.result (λ u e. e ∙ ap (body_form w local) (sym c.in-Plain.is)) (c.term.ensures w local tells sees (subst (BodyIsOf w.owner w.names) c.in-Plain.is of))

pub body-returns-in_ok-rows-in-Guarded : goal.body-returns-in_ok-rows-in-Guarded
body-returns-in_ok-rows-in-Guarded g t c w local tells sees of =
    let all = subst (All (GuardIsOf w.owner w.names)) (sym c.as_slice.ensures.value) (subst (BodyIsOf w.owner w.names) c.in-Guarded.is of) in
    if_ok c.guarded.result
    (λ u e. e ∙ ap (guards_term w.around.names) (c.in_ok-rows-in-Guarded.ensures w local tells sees all ∙ ap (map (guard_form w local)) c.as_slice.ensures.value)
    ∙ guards_are w local c.in-Guarded.cases.items ∙ ap (body_form w local) (sym c.in-Guarded.is))
    (c.guarded.ensures w tells)

pub guard-returns : goal.guard-returns
guard-returns g t c w local tells sees of =
    ap₂ (λ u v. (u, v)) (c.in_ok-condition.ensures w local tells sees of.1) (c.in_ok-chosen.ensures w local tells sees of.2)

pub lets-loop-d-init : goal.lets-loop-d-init
lets-loop-d-init g t c w local tells sees all =
    defined_none w local None c.new-found.result.items c.args.ds.now refl c.new-found.ensures.items

pub lets-define-requires : goal.lets-define-requires
lets-define-requires g t c =
    λ κs e. (search (rules, largest declaration_size c.args.ds.now c.loop-d.d-index, c.loop-d-test.true), search (rules, e))

pub lets-loop-d-preserved : goal.lets-loop-d-preserved
lets-loop-d-preserved g t c w local tells sees all =
    let P = DeclarationIsOf w.owner w.names in
    let i = c.loop-d.d-index in
    let d = c.d-item.result in
    let of = subst P (sym c.d-item.is) (All-get_or P c.args.ds.now i d c.loop-d-test.true all) in
    let before = c.loop-d.invariant w local tells sees all in
    defined_one w local c.loop-d.begun c.in_ok-begun.begun c.loop-d.found.items c.define.new.found.items c.args.ds.now i d c.d-item.is c.loop-d-test.true before
    (c.in_ok-begun.ensures w local tells sees before.known of)

pub lets-returns : goal.lets-returns
lets-returns g t c w local tells sees all =
    defined_all w local c.loop-d.begun c.loop-d.found.items c.args.ds.now c.loop-d.d-index c.loop-d-test.false (c.loop-d.invariant w local tells sees all)

pub define-returns-in-FreeVariables : goal.define-returns-in-FreeVariables
define-returns-in-FreeVariables g t c w local tells sees known is =
    let bounds = c.args.found.now.items in
    defines w local c.args.following.begun None c.args.following.d c.in_ok-_names.field-0 (declaration.FreeVariables c.in-FreeVariables.field-0 c.in-FreeVariables._names) bounds bounds (c.in_ok-_names.ensures.meaning w.names) c.in-FreeVariables.is (defines_nothing bounds) refl tt

pub define-returns-in-Signature : goal.define-returns-in-Signature
define-returns-in-Signature g t c w local tells sees known is =
    let bounds = c.args.found.now.items in
    defines w local c.args.following.begun None c.args.following.d c.in_ok-_names.field-0 (declaration.Signature c.in-Signature.field-0 c.in-Signature._names c.in-Signature.field-2) bounds bounds (c.in_ok-_names.ensures.meaning w.names) c.in-Signature.is (defines_nothing bounds) refl tt

pub define-returns-then-is_of_function : goal.define-returns-then-is_of_function
define-returns-then-is_of_function g t c w local tells sees known is =
    let of = subst (DeclarationNodeIsOf w.owner w.names) c.in-FunctionRule.is (c.in_ok-_names.ensures.owned w.owner w.names is) in
    let bounds = c.args.found.now.items in
    let here = c.in-FunctionRule in
    let which = sym (ap (is_function_rule c.args.following.begun here.name.text) c.as_slice.ensures.value) ∙ sym c.is_of_function.ensures ∙ c.if-is_of_function.true in
    rule_defines w local sees.differ c.args.following.begun c.begun_by-next.result c.args.following.d c.in_ok-_names.field-0 here.place here.name here.parameters here.right true bounds bounds (c.in_ok-_names.ensures.meaning w.names) here.is
    known of.1 which c.begun_by-next.ensures (defines_nothing bounds)

pub define-returns-in_ok-push-in-FunctionRule : goal.define-returns-in_ok-push-in-FunctionRule
define-returns-in_ok-push-in-FunctionRule g t c w local tells sees known is =
    let of = subst (DeclarationNodeIsOf w.owner w.names) c.in-FunctionRule.is (c.in_ok-_names.ensures.owned w.owner w.names is) in
    let before = c.args.found.now.items in
    let here = c.in-FunctionRule in
    let which = sym (ap (is_function_rule c.args.following.begun here.name.text) c.as_slice.ensures.value) ∙ sym c.is_of_function.ensures ∙ c.if-is_of_function.false in
    let p = c.of.result in
    let u = c.in_ok-definition-in-FunctionRule.definition in
    rule_defines w local sees.differ c.args.following.begun c.begun_by-next.result c.args.following.d c.in_ok-_names.field-0 here.place here.name here.parameters here.right false before c.push.new.self.items (c.in_ok-_names.ensures.meaning w.names) here.is
    known of.1 which c.begun_by-next.ensures
    (one_more before c.push.new.self.items (at_place p u) (bound (At (position_of here.name.place)) (right_form w local here.right)) c.in_ok-push-in-FunctionRule.ensures.items
    (bound_at w local here.name here.right p u c.of.ensures (c.in_ok-definition-in-FunctionRule.ensures w local tells sees of.3)))

pub define-returns-in_ok-add_selections-in-PatternBinding : goal.define-returns-in_ok-add_selections-in-PatternBinding
define-returns-in_ok-add_selections-in-PatternBinding g t c w local tells sees known is =
    let of = subst (DeclarationNodeIsOf w.owner w.names) c.in-PatternBinding.is (c.in_ok-_names.ensures.owned w.owner w.names is) in
    let before = c.args.found.now.items in
    let here = c.in-PatternBinding in
    binding_defines w local c.args.following.begun c.args.following.d c.in_ok-_names.field-0 here.field-0 here.p here.right c.of-in-PatternBinding.result c.in_ok-definition-in-PatternBinding.definition before c.push-in-PatternBinding.new.self.items
    c.add_selections.new.found.items (c.in_ok-_names.ensures.meaning w.names) here.is c.in_ok-push-in-PatternBinding.ensures.items (c.of-in-PatternBinding.ensures ∙ c.place.ensures.position w.names)
    (c.in_ok-definition-in-PatternBinding.ensures w local tells sees of.2) (c.in_ok-add_selections-in-PatternBinding.ensures w tells sees.differ of.1)

pub comprehension-loop-q-init : goal.comprehension-loop-q-init
comprehension-loop-q-init g t c w local tells sees all =
    wraps_none w local c.args.element c.new-entries.result.items c.new-layers.result.items c.args.qualifiers.now c.new-entries.ensures.items c.new-layers.ensures.items

pub comprehension-generated-requires : goal.comprehension-generated-requires
comprehension-generated-requires g t c =
    let i = c.loop-q.q-index in
    let q = c.q-item.result in
    let qs = c.args.qualifiers.now in
    let e = expression_size c.args.element in
    let within = subst (λ x. qualifier_size x ≤ most qualifier_size qs) (sym c.q-item.is) (largest qualifier_size qs i q c.loop-q-test.true) in
    let small = generator_below e (most qualifier_size qs) q c.in-Generator.place c.in-Generator.field-1 c.in-Generator.elements c.in-Generator.is within in
    λ κs d. (search (rules, small), search (rules, d))

pub comprehension-term-requires : goal.comprehension-term-requires
comprehension-term-requires g t c =
    let i = c.loop-q.q-index in
    let q = c.q-item.result in
    let qs = c.args.qualifiers.now in
    let e = expression_size c.args.element in
    let within = subst (λ x. qualifier_size x ≤ most qualifier_size qs) (sym c.q-item.is) (largest qualifier_size qs i q c.loop-q-test.true) in
    let small = condition_below e (most qualifier_size qs) q c.in-Condition.field-0 c.in-Condition.condition c.in-Condition.is within in
    λ κs d. (search (rules, small), search (rules, d))

pub comprehension-local_block-requires : goal.comprehension-local_block-requires
comprehension-local_block-requires g t c =
    let i = c.loop-q.q-index in
    let q = c.q-item.result in
    let qs = c.args.qualifiers.now in
    let e = expression_size c.args.element in
    let within = subst (λ x. qualifier_size x ≤ most qualifier_size qs) (sym c.q-item.is) (largest qualifier_size qs i q c.loop-q-test.true) in
    let small = block_below e (most qualifier_size qs) q c.in-Declarations.field-0 c.in-Declarations.ds c.as_slice-in-Declarations.result.now c.as_slice-in-Declarations.ensures.value c.in-Declarations.is within in
    λ κs d. (search (rules, small), search (rules, d))

pub comprehension-returns-in-Generator : goal.comprehension-returns-in-Generator
comprehension-returns-in-Generator g t c w local tells sees is all =
    let before = c.loop-q.invariant w local tells sees all in
    let inner = sees_more w local (entries_meaning w.names c.loop-q.entries.items) c.args.scope.now c.inside-inner.result c.as_slice.result.now c.loop-q.entries.items sees c.as_slice.ensures.value before.known refl c.inside-inner.ensures in
    let P = QualifierIsOf w.owner w.names in
    let i = c.loop-q.q-index in
    let q = c.q-item.result in
    let here = subst P (sym c.q-item.is) (All-get_or P c.args.qualifiers.now i q c.loop-q-test.true all) in
    let scope = reached w local c.loop-q.entries.items in
    let of = subst P c.in-Generator.is here in
    if_ok c.around_rest.result
    (λ u e. e ∙ wraps_generator w local c.args.element c.in-Generator.elements c.loop-q.entries.items c.loop-q.layers.items c.args.qualifiers.now i q c.in-Generator.place c.in-Generator.field-1 (local_term_of c.in_ok-rest-in-Generator.rest)
    c.q-item.is c.loop-q-test.true c.in-Generator.is (c.in_ok-rest-in-Generator.ensures w scope tells inner of.2) before)
    (c.around_rest.ensures w tells)

pub comprehension-loop-q-preserved-in-Condition : goal.comprehension-loop-q-preserved-in-Condition
comprehension-loop-q-preserved-in-Condition g t c w local tells sees all =
    let before = c.loop-q.invariant w local tells sees all in
    let inner = sees_more w local (entries_meaning w.names c.loop-q.entries.items) c.args.scope.now c.inside-inner.result c.as_slice.result.now c.loop-q.entries.items sees c.as_slice.ensures.value before.known refl c.inside-inner.ensures in
    let P = QualifierIsOf w.owner w.names in
    let i = c.loop-q.q-index in
    let q = c.q-item.result in
    let here = subst P (sym c.q-item.is) (All-get_or P c.args.qualifiers.now i q c.loop-q-test.true all) in
    let scope = reached w local c.loop-q.entries.items in
    let of = subst P c.in-Condition.is here in
    wraps_condition w local c.args.element c.in-Condition.condition c.loop-q.entries.items c.loop-q.layers.items c.push.new.self.items c.args.qualifiers.now i q c.in-Condition.field-0 c.in_ok-found-in-Condition.found
    c.q-item.is c.loop-q-test.true c.in-Condition.is (c.in_ok-found-in-Condition.ensures w scope tells inner of.1) c.in_ok-push-in-Condition.ensures.items before

pub comprehension-loop-q-preserved : goal.comprehension-loop-q-preserved
comprehension-loop-q-preserved g t c w local tells sees all =
    let before = c.loop-q.invariant w local tells sees all in
    let inner = sees_more w local (entries_meaning w.names c.loop-q.entries.items) c.args.scope.now c.inside-inner.result c.as_slice.result.now c.loop-q.entries.items sees c.as_slice.ensures.value before.known refl c.inside-inner.ensures in
    let P = QualifierIsOf w.owner w.names in
    let i = c.loop-q.q-index in
    let q = c.q-item.result in
    let here = subst P (sym c.q-item.is) (All-get_or P c.args.qualifiers.now i q c.loop-q-test.true all) in
    let scope = reached w local c.loop-q.entries.items in
    let of = subst P c.in-Declarations.is here in
    let all_of = subst (All (DeclarationIsOf w.owner w.names)) (sym c.as_slice-in-Declarations.ensures.value) of.1 in
    let opened = subst (λ (xs : List Declaration). Opens w scope xs c.in_ok-local-in-Declarations.local) c.as_slice-in-Declarations.ensures.value (c.in_ok-local-in-Declarations.ensures w scope tells inner all_of) in
    wraps_block w local c.args.element c.loop-q.entries.items c.in_ok-entries-in-Declarations.entries.items c.loop-q.layers.items c.push-in-Declarations.new.self.items c.args.qualifiers.now i q c.in-Declarations.field-0 c.in-Declarations.ds c.in_ok-local-in-Declarations.local
    c.q-item.is c.loop-q-test.true c.in-Declarations.is opened c.in_ok-push-in-Declarations.ensures.items (c.in_ok-entries-in-Declarations.ensures ∙ ap (λ es. c.in_ok-local-in-Declarations.local.entries.items ++ es) c.as_slice-in-Declarations-2.ensures.value) before

pub comprehension-returns : goal.comprehension-returns
comprehension-returns g t c w local tells sees is all =
    let before = c.loop-q.invariant w local tells sees all in
    let inner = sees_more w local (entries_meaning w.names c.loop-q.entries.items) c.args.scope.now c.inside-inner-2.result c.as_slice-2.result.now c.loop-q.entries.items sees c.as_slice-2.ensures.value before.known refl c.inside-inner-2.ensures in
    let scope = reached w local c.loop-q.entries.items in
    if_ok c.around_rest-2.result
    (λ u e. e ∙ wraps_element w local c.args.element c.loop-q.entries.items c.loop-q.layers.items c.args.qualifiers.now c.loop-q.q-index (local_term_of c.in_ok-rest.rest) c.loop-q-test.false
    (c.in_ok-rest.ensures w tells ∙ ap (λ y. list_term w.around.names (y ∷ [])) (c.in_ok-found.ensures w scope tells inner is)) before)
    (c.around_rest-2.ensures w tells)

pub generated-returns : goal.generated-returns
generated-returns g t c w local tells sees of =
    if_ok c.mapped.result (λ u e. e ∙ ap (generated_term w.around (position_of c.args.place)) (c.in_ok-found.ensures w local tells sees of)) (c.mapped.ensures w tells)
