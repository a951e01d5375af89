use Rattle.std.proofs.Common.{rules, arith, ◌+◌, List, [], OnOk, IfSome, None, Some, refl, subst, sym, ◌∙◌, drop}
use Rattle.std.specs.List.{All}
use Rattle.std.proofs.lemmas.List.{take_rest}
use Rattle.std.proofs.lemmas.List.Elements.{All-cons, All-drop, All-get_or, All-nil}
use Rattle.cu_lex.specs.Reading.{position_of}
use Rattle.cu_syntax.proofs.Elements.{largest}
use Rattle.cu_syntax.specs.declared.declarations.Declaration.{Declaration}
use Rattle.cu_syntax.specs.declared.declarations.DeclarationNode.TheVariants as declaration
use Rattle.cu_syntax.specs.declared.declarations.Guard.{Guard}
use Rattle.cu_syntax.specs.declared.expressions.Alternative.{Alternative}
use Rattle.cu_syntax.specs.declared.expressions.Expression.{Expression}
use Rattle.cu_syntax.specs.declared.expressions.ExpressionNode.TheVariants as expression
use Rattle.cu_syntax.specs.declared.expressions.OperatorItem.{OperatorItem}
use Rattle.cu_syntax.specs.declared.expressions.Qualifier.{Qualifier}
use Rattle.cu_syntax.specs.declared.expressions.Qualifier.TheVariants as qualifier
use Rattle.cu_syntax.specs.declared.patterns.Pattern.{Pattern}
use Rattle.cu_syntax.specs.ExpressionMeaning.{expression_meaning}
use Rattle.cu_syntax.specs.Declarations.{right_meaning}
use Rattle.cu_syntax.specs.Names.{name_meaning}
use Rattle.cu_syntax.specs.Owners.{AlternativeIsOf, BodyIsOf, DeclarationIsOf, DeclarationNodeIsOf, ExpressionIsOf, ExpressionNodeIsOf, GuardIsOf, OperatorItemIsOf, PatternIsOf, QualifierIsOf}
use Rattle.cu_syntax.specs.Patterns.{pattern_meaning}
use Rattle.cu_syntax.specs.Smaller.{alternative_size, declaration_size, expression_size, guard_size, operator_item_size, qualifier_size}
use Rattle.cu_translation.specs.Sites.{Bound, Defined, in_block, in_function, past_all, with}
use Rattle.cu_uses.specs.Gathered.{pattern_binds, patterns_bind}
use Rattle.cu_uses.proofs.FoundLemmas.{on_ok}
use Rattle.cu_locals.specs.BegunFound.{begun_meaning}
use Rattle.cu_sites.specs.Inside.Entering.{Enters, Notes, Writes}
use Rattle.cu_sites.specs.Inside.Walked.{IsComprehension, alternatives_have, applied_has, block_of, body_has, comprehension_has, declarations_have, expressions_have, guards_have, let_has, operands_have, qualifiers_have, qualifiers_of, right_has}
use Rattle.cu_sites.proofs.SpotLemmas.{at_after, block_after, definition_written, writes_both, writes_none, written_start}
use Rattle.cu_sites.proofs.WalkLemmas.{alternatives_end, alternatives_prefix, applied_to_nothing, applied_writes, bound_node_has, declaration_walks, declarations_end, declarations_prefix, declarations_start, expressions_end, expressions_prefix, follow_is, guards_end, guards_prefix, maybe_none, maybe_some, operands_end, operands_prefix, past_block, qualifier_writes, qualifiers_end, qualifiers_prefix, qualifiers_start, right_writes, rule_node_has}
use Rattle.cu_sites.proofs.PartLemmas.{alternative_written, at_pushed, begun_next, begun_none, bound_inside, comprehension_is, defined_inside, enters_names, free_written, generator_written, inner_is, inner_rule_written, lambda_written, no_elements, operation_written, rule_begins, rule_defines, rule_goes_on, some_elements}
use Rattle.cu_sites.proofs.sites.Sites.+walk.Goals as goal

pub applied-returns-in-Variable : goal.applied-returns-in-Variable
applied-returns-in-Variable t c w spot at all is =
    let of = subst (ExpressionNodeIsOf w.owner w.names) c.in-Variable.is (c.in_ok-name.ensures.owned w.owner w.names is) in
    on_ok c.use_of.result (applied_writes w spot c.args.arguments.now c.args.e c.in_ok-name.field-0 (expression.Variable c.in-Variable.field-0 c.in-Variable.name) c.args.self.now c.use_of.new.self (c.in_ok-name.ensures.meaning w.names) c.in-Variable.is) (c.use_of.ensures w spot at of.1 all)

pub applied-returns-in-Constructor : goal.applied-returns-in-Constructor
applied-returns-in-Constructor t c w spot at all is =
    applied_writes w spot c.args.arguments.now c.args.e c.in_ok-name.field-0 (expression.Constructor c.in-Constructor.field-0 c.in-Constructor.field-1) c.args.self.now c.args.self.now (c.in_ok-name.ensures.meaning w.names) c.in-Constructor.is (writes_none w c.args.self.now)

pub applied-returns-in-Literal : goal.applied-returns-in-Literal
applied-returns-in-Literal t c w spot at all is =
    applied_writes w spot c.args.arguments.now c.args.e c.in_ok-name.field-0 (expression.Literal c.in-Literal.field-0 c.in-Literal.field-1) c.args.self.now c.args.self.now (c.in_ok-name.ensures.meaning w.names) c.in-Literal.is (writes_none w c.args.self.now)

pub applied-returns-in-TupleConstructor : goal.applied-returns-in-TupleConstructor
applied-returns-in-TupleConstructor t c w spot at all is =
    applied_writes w spot c.args.arguments.now c.args.e c.in_ok-name.field-0 (expression.TupleConstructor c.in-TupleConstructor.field-0 c.in-TupleConstructor.field-1) c.args.self.now c.args.self.now (c.in_ok-name.ensures.meaning w.names) c.in-TupleConstructor.is (writes_none w c.args.self.now)

pub applied-returns-in_ok-applied-in-Application : goal.applied-returns-in_ok-applied-in-Application
applied-returns-in_ok-applied-in-Application t c w spot at all is =
    let of = subst (ExpressionNodeIsOf w.owner w.names) c.in-Application.is (c.in_ok-name.ensures.owned w.owner w.names is) in
    let first = subst (λ (xs : List Expression). All (ExpressionIsOf w.owner w.names) xs → Writes w c.args.self.now (applied_has w.names spot xs c.in-Application.function) c.applied.new.self) c.as_slice.ensures.value
    (λ every. c.in_ok-applied-in-Application.ensures w spot at every of.1) of.2 in
    on_ok c.expressions.result (λ rest. applied_writes w spot c.args.arguments.now c.args.e c.in_ok-name.field-0 (expression.Application c.in-Application.field-0 c.in-Application.function c.in-Application.others) c.args.self.now c.expressions.new.self (c.in_ok-name.ensures.meaning w.names) c.in-Application.is (writes_both first rest))
    (subst (λ (xs : List Expression). All (ExpressionIsOf w.owner w.names) xs → OnOk c.expressions.result (Writes w c.applied.new.self (expressions_have w.names spot xs) c.expressions.new.self)) c.as_slice-in-Application.ensures.value
    (c.expressions.ensures w spot (at_after first at)) of.2)

pub applied-returns-in_ok-expression-in-Operators : goal.applied-returns-in_ok-expression-in-Operators
applied-returns-in_ok-expression-in-Operators t c w spot at all is =
    let of = subst (ExpressionNodeIsOf w.owner w.names) c.in-Operators.is (c.in_ok-name.ensures.owned w.owner w.names is) in
    let first = operation_written w c.args.self.now c.push.new.self c.args.at c.args.e spot c.in_ok-push-in-Operators.ensures at is in
    let second = c.in_ok-expression-in-Operators.ensures w spot (at_after first at) of.2 in
    on_ok c.operands.result (λ rest. applied_writes w spot c.args.arguments.now c.args.e c.in_ok-name.field-0 (expression.Operators c.in-Operators.items) c.args.self.now c.operands.new.self (c.in_ok-name.ensures.meaning w.names) c.in-Operators.is (writes_both first (writes_both second rest)))
    (subst (λ (xs : List OperatorItem). All (OperatorItemIsOf w.owner w.names) xs → OnOk c.operands.result (Writes w c.expression.new.self (operands_have w.names spot xs) c.operands.new.self)) c.as_slice-in-Operators.ensures.value
    (c.operands.ensures w spot (at_after second (at_after first at))) of.3)

pub applied-returns-in-Lambda : goal.applied-returns-in-Lambda
applied-returns-in-Lambda t c w spot at all is =
    let of = subst (ExpressionNodeIsOf w.owner w.names) c.in-Lambda.is (c.in_ok-name.ensures.owned w.owner w.names is) in
    on_ok c.lambda.result (applied_writes w spot c.args.arguments.now c.args.e c.in_ok-name.field-0 (expression.Lambda c.in-Lambda.place c.in-Lambda.parameters c.in-Lambda.body) c.args.self.now c.lambda.new.self (c.in_ok-name.ensures.meaning w.names) c.in-Lambda.is) (c.lambda.ensures w spot at of.0 of.1 of.2)

pub applied-returns-in-Let : goal.applied-returns-in-Let
applied-returns-in-Let t c w spot at all is =
    let of = subst (ExpressionNodeIsOf w.owner w.names) c.in-Let.is (c.in_ok-name.ensures.owned w.owner w.names is) in
    on_ok c.let_in.result (applied_writes w spot c.args.arguments.now c.args.e c.in_ok-name.field-0 (expression.Let c.in-Let.field-0 c.in-Let.ds c.in-Let.body) c.args.self.now c.let_in.new.self (c.in_ok-name.ensures.meaning w.names) c.in-Let.is)
    (subst (λ (xs : List Declaration). All (DeclarationIsOf w.owner w.names) xs → OnOk c.let_in.result (Writes w c.args.self.now (let_has w.names spot xs c.in-Let.body) c.let_in.new.self)) c.as_slice-in-Let.ensures.value
    (λ every. c.let_in.ensures w spot at every of.2) of.1)

pub applied-returns-in_ok-expression-in-If-2 : goal.applied-returns-in_ok-expression-in-If-2
applied-returns-in_ok-expression-in-If-2 t c w spot at all is =
    let of = subst (ExpressionNodeIsOf w.owner w.names) c.in-If.is (c.in_ok-name.ensures.owned w.owner w.names is) in
    let first = c.in_ok-expression-in-If.ensures w spot at of.1 in
    let second = c.in_ok-expression-in-If-2.ensures w spot (at_after first at) of.2 in
    on_ok c.expression-in-If-3.result (λ last. applied_writes w spot c.args.arguments.now c.args.e c.in_ok-name.field-0 (expression.If c.in-If.field-0 c.in-If.condition c.in-If.chosen c.in-If.other) c.args.self.now c.expression-in-If-3.new.self (c.in_ok-name.ensures.meaning w.names) c.in-If.is (writes_both first (writes_both second last)))
    (c.expression-in-If-3.ensures w spot (at_after second (at_after first at)) of.3)

pub applied-returns-in_ok-expression-in-Case : goal.applied-returns-in_ok-expression-in-Case
applied-returns-in_ok-expression-in-Case t c w spot at all is =
    let of = subst (ExpressionNodeIsOf w.owner w.names) c.in-Case.is (c.in_ok-name.ensures.owned w.owner w.names is) in
    let first = c.in_ok-expression-in-Case.ensures w spot at of.1 in
    on_ok c.alternatives.result (λ rest. applied_writes w spot c.args.arguments.now c.args.e c.in_ok-name.field-0 (expression.Case c.in-Case.field-0 c.in-Case.field-1 c.in-Case.subject c.in-Case.cases) c.args.self.now c.alternatives.new.self (c.in_ok-name.ensures.meaning w.names) c.in-Case.is (writes_both first rest))
    (subst (λ (xs : List Alternative). All (AlternativeIsOf w.owner w.names) xs → OnOk c.alternatives.result (Writes w c.expression-in-Case.new.self (alternatives_have w.names spot xs) c.alternatives.new.self)) c.as_slice-in-Case.ensures.value
    (c.alternatives.ensures w spot (at_after first at)) of.2)

pub applied-returns-in-Tuple : goal.applied-returns-in-Tuple
applied-returns-in-Tuple t c w spot at all is =
    let of = subst (ExpressionNodeIsOf w.owner w.names) c.in-Tuple.is (c.in_ok-name.ensures.owned w.owner w.names is) in
    on_ok c.expressions-in-Tuple.result (applied_writes w spot c.args.arguments.now c.args.e c.in_ok-name.field-0 (expression.Tuple c.in-Tuple.field-0 c.in-Tuple.components) c.args.self.now c.expressions-in-Tuple.new.self (c.in_ok-name.ensures.meaning w.names) c.in-Tuple.is)
    (subst (λ (xs : List Expression). All (ExpressionIsOf w.owner w.names) xs → OnOk c.expressions-in-Tuple.result (Writes w c.args.self.now (expressions_have w.names spot xs) c.expressions-in-Tuple.new.self)) c.as_slice-in-Tuple.ensures.value
    (c.expressions-in-Tuple.ensures w spot at) of.1)

pub applied-returns-in-List : goal.applied-returns-in-List
applied-returns-in-List t c w spot at all is =
    let of = subst (ExpressionNodeIsOf w.owner w.names) c.in-List.is (c.in_ok-name.ensures.owned w.owner w.names is) in
    on_ok c.expressions-in-List.result (applied_writes w spot c.args.arguments.now c.args.e c.in_ok-name.field-0 (expression.List c.in-List.field-0 c.in-List.elements) c.args.self.now c.expressions-in-List.new.self (c.in_ok-name.ensures.meaning w.names) c.in-List.is)
    (subst (λ (xs : List Expression). All (ExpressionIsOf w.owner w.names) xs → OnOk c.expressions-in-List.result (Writes w c.args.self.now (expressions_have w.names spot xs) c.expressions-in-List.new.self)) c.as_slice-in-List.ensures.value
    (c.expressions-in-List.ensures w spot at) of.1)

pub applied-returns-in_ok-expression-in-LeftSection : goal.applied-returns-in_ok-expression-in-LeftSection
applied-returns-in_ok-expression-in-LeftSection t c w spot at all is =
    let of = subst (ExpressionNodeIsOf w.owner w.names) c.in-LeftSection.is (c.in_ok-name.ensures.owned w.owner w.names is) in
    let first = c.in_ok-expression-in-LeftSection.ensures w spot at of.1 in
    on_ok c.use_of-in-LeftSection.result (λ last. applied_writes w spot c.args.arguments.now c.args.e c.in_ok-name.field-0 (expression.LeftSection c.in-LeftSection.field-0 c.in-LeftSection.operand c.in-LeftSection.operator) c.args.self.now c.use_of-in-LeftSection.new.self (c.in_ok-name.ensures.meaning w.names) c.in-LeftSection.is (writes_both first last))
    (c.use_of-in-LeftSection.ensures w spot (at_after first at) of.2 (All-cons (ExpressionIsOf w.owner w.names) c.in-LeftSection.operand [] of.1 (All-nil (ExpressionIsOf w.owner w.names))))

pub applied-returns-in_ok-use_of-in-RightSection : goal.applied-returns-in_ok-use_of-in-RightSection
applied-returns-in_ok-use_of-in-RightSection t c w spot at all is =
    let of = subst (ExpressionNodeIsOf w.owner w.names) c.in-RightSection.is (c.in_ok-name.ensures.owned w.owner w.names is) in
    let first = c.in_ok-use_of-in-RightSection.ensures w spot at of.1 (All-nil (ExpressionIsOf w.owner w.names)) in
    on_ok c.expression-in-RightSection.result (λ last. applied_writes w spot c.args.arguments.now c.args.e c.in_ok-name.field-0 (expression.RightSection c.in-RightSection.field-0 c.in-RightSection.operator c.in-RightSection.operand) c.args.self.now c.expression-in-RightSection.new.self (c.in_ok-name.ensures.meaning w.names) c.in-RightSection.is (writes_both first last))
    (c.expression-in-RightSection.ensures w spot (at_after first at) of.2)

pub applied-returns-in-Enumeration : goal.applied-returns-in-Enumeration
applied-returns-in-Enumeration t c w spot at all is =
    let of = subst (ExpressionNodeIsOf w.owner w.names) c.in-Enumeration.is (c.in_ok-name.ensures.owned w.owner w.names is) in
    on_ok c.enumeration.result (applied_writes w spot c.args.arguments.now c.args.e c.in_ok-name.field-0 (expression.Enumeration c.in-Enumeration.field-0 c.in-Enumeration.numbers) c.args.self.now c.enumeration.new.self (c.in_ok-name.ensures.meaning w.names) c.in-Enumeration.is) (c.enumeration.ensures w spot at of.1)

pub applied-returns-in-Comprehension : goal.applied-returns-in-Comprehension
applied-returns-in-Comprehension t c w spot at all is =
    let of = subst (ExpressionNodeIsOf w.owner w.names) c.in-Comprehension.is (c.in_ok-name.ensures.owned w.owner w.names is) in
    let whole = comprehension_is w c.args.e c.in_ok-name.field-0 c.in-Comprehension.field-0 c.in-Comprehension.element c.in-Comprehension.qualifiers (c.in_ok-name.ensures.meaning w.names) c.in-Comprehension.is is of.2 in
    on_ok c.comprehension.result (applied_writes w spot c.args.arguments.now c.args.e c.in_ok-name.field-0 (expression.Comprehension c.in-Comprehension.field-0 c.in-Comprehension.element c.in-Comprehension.qualifiers) c.args.self.now c.comprehension.new.self (c.in_ok-name.ensures.meaning w.names) c.in-Comprehension.is)
    (subst (λ (xs : List Qualifier). IsComprehension w c.args.e (expression_meaning w.names c.in-Comprehension.element) xs → OnOk c.comprehension.result (Writes w c.args.self.now (comprehension_has w.names spot c.in-Comprehension.element xs) c.comprehension.new.self))
    c.as_slice-in-Comprehension.ensures.value (c.comprehension.ensures w spot at of.1) whole)

pub expression-returns : goal.expression-returns
expression-returns t c w spot at is =
    on_ok c.applied.result (subst (λ ns. Writes w c.args.self.now ns c.applied.new.self) (applied_to_nothing w.names spot [] c.args.e refl))
    (c.applied.ensures w spot at (All-nil (ExpressionIsOf w.owner w.names)) is)

pub expressions-expression-requires : goal.expressions-expression-requires
expressions-expression-requires t c =
    (search (rules, largest expression_size c.args.es.now c.loop-e.e-index, c.loop-e-test.true), tt)

pub expressions-loop-e-init : goal.expressions-loop-e-init
expressions-loop-e-init t c w spot at all =
    written_start w c.args.self.now (expressions_have w.names spot c.args.es.now)

pub expressions-loop-e-preserved : goal.expressions-loop-e-preserved
expressions-loop-e-preserved t c w spot at all =
    let before = c.loop-e.invariant w spot at all in
    expressions_prefix (ExpressionIsOf w.owner w.names) w spot (expressions_have w.names spot c.args.es.now) c.args.es.now c.loop-e.e-index c.e-item.result c.args.self.now c.loop-e.self c.expression.new.self c.e-item.is c.loop-e-test.true all before
    (λ of. c.in_ok-expression.ensures w spot (at_after before.writes at) of)

pub expressions-returns : goal.expressions-returns
expressions-returns t c w spot at all =
    expressions_end w spot (expressions_have w.names spot c.args.es.now) c.args.es.now c.loop-e.e-index c.args.self.now c.loop-e.self c.loop-e-test.false (c.loop-e.invariant w spot at all)

pub operands-expression-requires : goal.operands-expression-requires
operands-expression-requires t c =
    (search (rules, largest operator_item_size c.args.items.now c.loop-item.item-index, c.loop-item-test.true), tt)

pub operands-loop-item-init : goal.operands-loop-item-init
operands-loop-item-init t c w spot at all =
    written_start w c.args.self.now (operands_have w.names spot c.args.items.now)

pub operands-loop-item-preserved : goal.operands-loop-item-preserved
operands-loop-item-preserved t c w spot at all =
    let before = c.loop-item.invariant w spot at all in
    operands_prefix (OperatorItemIsOf w.owner w.names) w spot (operands_have w.names spot c.args.items.now) c.args.items.now c.loop-item.item-index c.item-item.result c.args.self.now c.loop-item.self c.expression.new.self c.item-item.is c.loop-item-test.true all before
    (λ of. c.in_ok-expression.ensures w spot (at_after before.writes at) of.2)

pub operands-returns : goal.operands-returns
operands-returns t c w spot at all =
    operands_end w spot (operands_have w.names spot c.args.items.now) c.args.items.now c.loop-item.item-index c.args.self.now c.loop-item.self c.loop-item-test.false (c.loop-item.invariant w spot at all)

pub alternatives-alternative-requires : goal.alternatives-alternative-requires
alternatives-alternative-requires t c =
    (search (rules, largest alternative_size c.args.cases.now c.loop-a.a-index, c.loop-a-test.true), tt)

pub alternatives-loop-a-init : goal.alternatives-loop-a-init
alternatives-loop-a-init t c w spot at all =
    written_start w c.args.self.now (alternatives_have w.names spot c.args.cases.now)

pub alternatives-loop-a-preserved : goal.alternatives-loop-a-preserved
alternatives-loop-a-preserved t c w spot at all =
    let before = c.loop-a.invariant w spot at all in
    alternatives_prefix (AlternativeIsOf w.owner w.names) w spot (alternatives_have w.names spot c.args.cases.now) c.args.cases.now c.loop-a.a-index c.a-item.result c.args.self.now c.loop-a.self c.alternative.new.self c.a-item.is c.loop-a-test.true all before
    (λ of. c.in_ok-alternative.ensures w spot (at_after before.writes at) of)

pub alternatives-returns : goal.alternatives-returns
alternatives-returns t c w spot at all =
    alternatives_end w spot (alternatives_have w.names spot c.args.cases.now) c.args.cases.now c.loop-a.a-index c.args.self.now c.loop-a.self c.loop-a-test.false (c.loop-a.invariant w spot at all)

pub guards-expression-requires : goal.guards-expression-requires
guards-expression-requires t c =
    (search (rules, largest guard_size c.args.cases.now c.loop-g.g-index, c.loop-g-test.true), tt)

pub guards-loop-g-init : goal.guards-loop-g-init
guards-loop-g-init t c w spot at all =
    written_start w c.args.self.now (guards_have w.names spot c.args.cases.now)

pub guards-expression-requires-in-loop-g : goal.guards-expression-requires-in-loop-g
guards-expression-requires-in-loop-g t c =
    (search (rules, largest guard_size c.args.cases.now c.loop-g.g-index, c.loop-g-test.true), tt)

pub guards-loop-g-preserved : goal.guards-loop-g-preserved
guards-loop-g-preserved t c w spot at all =
    let before = c.loop-g.invariant w spot at all in
    guards_prefix (GuardIsOf w.owner w.names) w spot (guards_have w.names spot c.args.cases.now) c.args.cases.now c.loop-g.g-index c.g-item.result c.args.self.now c.loop-g.self c.expression-in-loop-g.new.self c.g-item.is c.loop-g-test.true all before
    (λ of. let first = c.in_ok-expression.ensures w spot (at_after before.writes at) of.1 in
    writes_both first (c.in_ok-expression-2.ensures w spot (at_after first (at_after before.writes at)) of.2))

pub guards-returns : goal.guards-returns
guards-returns t c w spot at all =
    guards_end w spot (guards_have w.names spot c.args.cases.now) c.args.cases.now c.loop-g.g-index c.args.self.now c.loop-g.self c.loop-g-test.false (c.loop-g.invariant w spot at all)

pub lambda-returns : goal.lambda-returns
lambda-returns t c w spot at placed all of =
    lambda_written c.expression.result w c.args.self.now c.in_rule.new.self c.push.new.self c.push-2.new.self c.expression.new.self c.args.at c.in_ok-inner.inner c.args.lambda.place c.args.lambda.parameters c.in_ok-copy.copy c.args.lambda.body spot at placed all of
    (c.in_ok-copy.ensures.items ∙ c.as_slice-2.ensures.value)
    (subst (λ (xs : List Pattern). Enters w c.args.self.now (in_function (position_of c.args.lambda.place) (patterns_bind w.names xs) spot) c.in_ok-inner.inner c.in_rule.new.self) c.as_slice.ensures.value
    (c.in_ok-inner.ensures w spot at (subst (All (PatternIsOf w.owner w.names)) (sym c.as_slice.ensures.value) all)))
    c.in_ok-push.ensures c.in_ok-push-2.ensures
    (λ there. c.expression.ensures w (in_function (position_of c.args.lambda.place) (patterns_bind w.names c.args.lambda.parameters.items) spot) there of)

pub let_in-returns : goal.let_in-returns
let_in-returns t c w spot at all of =
    let entered = c.in_ok-inner.ensures w spot at all in
    let noted = c.in_ok-block.ensures w all in
    let inner = at_after noted.writes entered.at in
    let first = c.in_ok-declarations.ensures w (in_block (block_of w.names c.args.ds.now) spot) (block_of w.names c.args.ds.now) (inner_is inner noted.block) all in
    on_ok c.expression.result (λ last. writes_both entered.writes (writes_both noted.writes (writes_both first last)))
    (c.expression.ensures w (in_block (block_of w.names c.args.ds.now) spot) (at_after first inner) of)

pub alternative-returns : goal.alternative-returns
alternative-returns t c w spot at of =
    alternative_written c.right_side.result w c.args.self.now c.with.new.self c.push.new.self c.right_side.new.self c.in_ok-inner.inner c.in_ok-matched.matched c.args.a.pattern c.args.a.right spot of.1 c.in_ok-matched.ensures.items
    (enters_names w c.args.self.now c.with.new.self (λ xs. with xs spot) (pattern_binds w.names c.args.a.pattern) c.in_ok-names.names.items c.as_slice.result.now c.in_ok-inner.inner (c.in_ok-names.ensures w of.1) c.as_slice.ensures.value (c.in_ok-inner.ensures w spot at))
    c.in_ok-push.ensures (λ there. c.right_side.ensures w (with (pattern_binds w.names c.args.a.pattern) spot) there of.2)

pub enumeration-returns : goal.enumeration-returns
enumeration-returns t c w spot at of =
    let first = c.in_ok-expression.ensures w spot at of.0 in
    let second = c.in_ok-maybe.ensures w spot (at_after first at) of.1 in
    on_ok c.maybe-2.result (λ last. writes_both first (writes_both second last)) (c.maybe-2.ensures w spot (at_after second (at_after first at)) of.2)

pub maybe-returns-in-None : goal.maybe-returns-in-None
maybe-returns-in-None t c w spot at of =
    maybe_none w spot c.args.e c.args.self.now c.in-None.is

pub maybe-returns-in-Some : goal.maybe-returns-in-Some
maybe-returns-in-Some t c w spot at of =
    on_ok c.expression.result (maybe_some w spot c.args.e c.in-Some.e c.args.self.now c.expression.new.self c.in-Some.is)
    (c.expression.ensures w spot at (subst (λ m. IfSome m (ExpressionIsOf w.owner w.names)) c.in-Some.is of))

pub comprehension-returns : goal.comprehension-returns
comprehension-returns t c w spot at of is =
    let entered = c.in_ok-inner.ensures w spot at is.qualifiers in
    let first = c.in_ok-expression.ensures w (past_all (qualifiers_of w.names c.args.found.qualifiers.now) spot) entered.at of in
    on_ok c.qualifiers.result (λ last. writes_both entered.writes (writes_both first last))
    (c.qualifiers.ensures w spot (expression_meaning w.names c.args.found.element) (at_after first (at_after entered.writes at)) is)

pub qualifiers-qualifier-requires : goal.qualifiers-qualifier-requires
qualifiers-qualifier-requires t c =
    (search (rules, largest qualifier_size c.args.qualifiers.now c.loop-i.i, c.loop-i-test.true, c.index-qualifiers-i.is), tt)

pub qualifiers-loop-i-init : goal.qualifiers-loop-i-init
qualifiers-loop-i-init t c w spot element at is =
    qualifiers_start w c.args.self.now spot element c.args.qualifiers.now c.args.at at

pub qualifiers-loop-i-preserved : goal.qualifiers-loop-i-preserved
qualifiers-loop-i-preserved t c w spot element at is =
    let of = subst (QualifierIsOf w.owner w.names) (sym c.index-qualifiers-i.is) (All-get_or (QualifierIsOf w.owner w.names) c.args.qualifiers.now c.loop-i.i c.index-qualifiers-i.result c.loop-i-test.true is.qualifiers) in
    qualifiers_prefix w element (qualifiers_have w.names spot element c.args.qualifiers.now) c.args.qualifiers.now c.loop-i.i c.index-qualifiers-i.result c.loop-i.before c.in_ok-after.after c.args.self.now c.loop-i.self c.past.new.self c.qualifier.new.self c.index-qualifiers-i.is c.loop-i-test.true
    (c.loop-i.invariant w spot element at is) (λ reached here. c.in_ok-after.ensures w reached here of)
    (λ reached here there. c.in_ok-qualifier.ensures w reached element (qualifiers_of w.names (drop (c.loop-i.i + 1) c.args.qualifiers.now))
    (record { before = here; after_it = there; of = is.of; follow = follow_is w c.args.whole element c.args.qualifiers.now (c.loop-i.i + 1) is; element_is = is.element_is }) of)

pub qualifiers-returns : goal.qualifiers-returns
qualifiers-returns t c w spot element at is =
    qualifiers_end w element (qualifiers_have w.names spot element c.args.qualifiers.now) c.args.qualifiers.now c.loop-i.i c.loop-i.before c.args.self.now c.loop-i.self c.loop-i-test.false (c.loop-i.invariant w spot element at is)

pub qualifier-returns-in_ok-push-in-Generator-2 : goal.qualifier-returns-in_ok-push-in-Generator-2
qualifier-returns-in_ok-push-in-Generator-2 t c w spot element others step is =
    let of = subst (QualifierIsOf w.owner w.names) c.in-Generator.is is in
    generator_written c.expression.result w c.args.self.now c.push.new.self c.push-in-Generator.new.self c.expression.new.self c.args.step spot element others c.args.q.now c.in-Generator.place c.in-Generator.p c.in-Generator.list c.in_ok-matched-in-Generator.matched c.in-Generator.is step of.0 of.1
    c.in_ok-matched-in-Generator.ensures.items c.in_ok-push-in-Generator.ensures c.in_ok-push-in-Generator-2.ensures (λ there. c.expression.ensures w spot there of.2)

pub qualifier-returns-in_ok-block-in-Declarations : goal.qualifier-returns-in_ok-block-in-Declarations
qualifier-returns-in_ok-block-in-Declarations t c w spot element others step is =
    let of = subst (QualifierIsOf w.owner w.names) c.in-Declarations.is is in
    let ds = c.in-Declarations.ds.items in
    let noted = subst (λ (xs : List Declaration). All (DeclarationIsOf w.owner w.names) xs → Notes w c.args.self.now (block_of w.names xs) c.in_ok-block-in-Declarations.block c.note_block.new.self) c.as_slice.ensures.value (c.in_ok-block-in-Declarations.ensures w) of.1 in
    let there = past_block w c.args.self.now c.args.step.after spot c.args.q.now c.in-Declarations.field-0 c.in-Declarations.ds c.in-Declarations.is step.after_it in
    on_ok c.declarations.result
    (λ last. qualifier_writes w spot element others c.args.q.now (qualifier.Declarations c.in-Declarations.field-0 c.in-Declarations.ds) c.args.self.now c.declarations.new.self c.in-Declarations.is (writes_both noted.writes last))
    (subst (λ (xs : List Declaration). All (DeclarationIsOf w.owner w.names) xs → OnOk c.declarations.result (Writes w c.note_block.new.self (declarations_have w.names (in_block (block_of w.names ds) spot) (block_of w.names ds) None xs) c.declarations.new.self))
    c.as_slice-in-Declarations.ensures.value (c.declarations.ensures w (in_block (block_of w.names ds) spot) (block_of w.names ds) (inner_is (at_after noted.writes there) noted.block)) of.1)

pub qualifier-returns-in-Condition : goal.qualifier-returns-in-Condition
qualifier-returns-in-Condition t c w spot element others step is =
    let of = subst (QualifierIsOf w.owner w.names) c.in-Condition.is is in
    on_ok c.expression-in-Condition.result (qualifier_writes w spot element others c.args.q.now (qualifier.Condition c.in-Condition.field-0 c.in-Condition.condition) c.args.self.now c.expression-in-Condition.new.self c.in-Condition.is)
    (c.expression-in-Condition.ensures w spot step.before of.1)

pub right_side-returns : goal.right_side-returns
right_side-returns t c w spot at of =
    let ok = c.in_ok-node.ensures.owned w.owner w.names of in
    let ds = c.in_ok-node.node.local.items in
    let entered = subst (λ (xs : List Declaration). All (DeclarationIsOf w.owner w.names) xs → Enters w c.args.self.now (in_block (block_of w.names xs) spot) c.in_ok-inner.inner c.in_block.new.self) c.as_slice.ensures.value (c.in_ok-inner.ensures w spot at) ok.2 in
    let noted = subst (λ (xs : List Declaration). All (DeclarationIsOf w.owner w.names) xs → Notes w c.in_block.new.self (block_of w.names xs) c.in_ok-block.block c.note_block.new.self) c.as_slice-2.ensures.value (c.in_ok-block.ensures w) ok.2 in
    let inner = at_after noted.writes entered.at in
    let first = c.in_ok-body.ensures w (in_block (block_of w.names ds) spot) inner ok.1 in
    on_ok c.declarations.result
    (λ last. right_writes w spot c.args.right c.in_ok-node.node c.args.self.now c.declarations.new.self (c.in_ok-node.ensures.meaning w.names) (writes_both entered.writes (writes_both noted.writes (writes_both first last))))
    (subst (λ (xs : List Declaration). All (DeclarationIsOf w.owner w.names) xs → OnOk c.declarations.result (Writes w c.body.new.self (declarations_have w.names (in_block (block_of w.names ds) spot) (block_of w.names ds) None xs) c.declarations.new.self))
    c.as_slice-3.ensures.value (c.declarations.ensures w (in_block (block_of w.names ds) spot) (block_of w.names ds) (inner_is (at_after first inner) (block_after first noted.block))) ok.2)

pub body-returns-in-Plain : goal.body-returns-in-Plain
body-returns-in-Plain t c w spot at is =
    subst (λ b. OnOk c.expression.result (Writes w c.args.self.now (body_has w.names spot b) c.expression.new.self)) (sym c.in-Plain.is)
    (c.expression.ensures w spot at (subst (BodyIsOf w.owner w.names) c.in-Plain.is is))

pub body-returns-in-Guarded : goal.body-returns-in-Guarded
body-returns-in-Guarded t c w spot at is =
    subst (λ b. OnOk c.guards.result (Writes w c.args.self.now (body_has w.names spot b) c.guards.new.self)) (sym c.in-Guarded.is)
    (subst (λ (xs : List Guard). All (GuardIsOf w.owner w.names) xs → OnOk c.guards.result (Writes w c.args.self.now (guards_have w.names spot xs) c.guards.new.self)) c.as_slice.ensures.value
    (c.guards.ensures w spot at) (subst (BodyIsOf w.owner w.names) c.in-Guarded.is is))

pub declarations-declaration-requires : goal.declarations-declaration-requires
declarations-declaration-requires t c =
    (search (rules, largest declaration_size c.args.ds.now c.loop-i.i, c.loop-i-test.true, c.index-ds-i.is), tt)

pub declarations-loop-i-init : goal.declarations-loop-i-init
declarations-loop-i-init t c w spot block is all =
    declarations_start w c.args.self.now spot block c.args.ds.now

pub declarations-loop-i-preserved : goal.declarations-loop-i-preserved
declarations-loop-i-preserved t c w spot block is all =
    let before = c.loop-i.invariant w spot block is all in
    let follow = take_rest c.args.ds.now (c.loop-i.i + 1) in
    let others = subst (All (DeclarationIsOf w.owner w.names)) (sym follow) (All-drop (DeclarationIsOf w.owner w.names) (c.loop-i.i + 1) c.args.ds.now all) in
    let of = subst (DeclarationIsOf w.owner w.names) (sym c.index-ds-i.is) (All-get_or (DeclarationIsOf w.owner w.names) c.args.ds.now c.loop-i.i c.index-ds-i.result c.loop-i-test.true all) in
    declarations_prefix w spot block c.args.ds.now _ c.loop-i.i c.index-ds-i.result c.loop-i.begun c.in_ok-begun.begun c.args.self.now c.loop-i.self c.declaration.new.self c.index-ds-i.is c.loop-i-test.true follow before
    (c.in_ok-begun.ensures w spot block (inner_is (at_after before.written.writes is.at) (block_after before.written.writes is.block_is)) before.is_before.known others of)

pub declarations-returns : goal.declarations-returns
declarations-returns t c w spot block is all =
    declarations_end w spot block c.args.ds.now c.loop-i.i c.loop-i.begun c.args.self.now c.loop-i.self c.loop-i-test.false (c.loop-i.invariant w spot block is all)

pub declaration-returns-in_ok-push-in-FreeVariables : goal.declaration-returns-in_ok-push-in-FreeVariables
declaration-returns-in_ok-push-in-FreeVariables t c w spot block is known all of =
    let ok = subst (DeclarationNodeIsOf w.owner w.names) c.in-FreeVariables.is (c.in_ok-names.ensures.owned w.owner w.names of) in
    declaration_walks w spot block c.args.beside.begun None c.args.beside.others.now c.args.d c.in_ok-names.field-0 (declaration.FreeVariables c.in-FreeVariables.field-0 c.in-FreeVariables.names) _ c.args.self.now c.push.new.self (c.in_ok-names.ensures.meaning w.names) c.in-FreeVariables.is refl
    (free_written w c.args.self.now c.push.new.self c.args.inner.at c.in-FreeVariables.names spot c.in_ok-push-in-FreeVariables.ensures is.at ok.1) (begun_none w)

pub declaration-returns-in-Signature : goal.declaration-returns-in-Signature
declaration-returns-in-Signature t c w spot block is known all of =
    declaration_walks w spot block c.args.beside.begun None c.args.beside.others.now c.args.d c.in_ok-names.field-0 (declaration.Signature c.in-Signature.field-0 c.in-Signature._functions c.in-Signature.field-2) [] c.args.self.now c.args.self.now (c.in_ok-names.ensures.meaning w.names) c.in-Signature.is refl
    (writes_none w c.args.self.now) (begun_none w)

pub declaration-returns-in_ok-rule-in-FunctionRule : goal.declaration-returns-in_ok-rule-in-FunctionRule
declaration-returns-in_ok-rule-in-FunctionRule t c w spot block is known all of =
    let ok = subst (DeclarationNodeIsOf w.owner w.names) c.in-FunctionRule.is (c.in_ok-names.ensures.owned w.owner w.names of) in
    let place = c.in-FunctionRule.place in
    let name = c.in-FunctionRule.name in
    let parameters = c.in-FunctionRule.parameters in
    let right = c.in-FunctionRule.right in
    declaration_walks w spot block c.args.beside.begun (Some c.begun_by.result) c.args.beside.others.now c.args.d c.in_ok-names.field-0 (declaration.FunctionRule place name parameters right) _ c.args.self.now c.rule.new.self (c.in_ok-names.ensures.meaning w.names) c.in-FunctionRule.is
    (rule_node_has w.names spot block (begun_meaning w c.args.beside.begun) c.args.beside.others.now (record { place = place; name = name; parameters = parameters; right = right }) place name parameters right refl)
    (c.in_ok-rule-in-FunctionRule.ensures w spot block is known all (record { place = ok.0; name = ok.1; parameters = ok.2; right = ok.3 }))
    (begun_next w c.args.beside.begun name place c.begun_by.result known ok.1 c.begun_by.ensures)

pub declaration-returns-in_ok-definition-in-PatternBinding : goal.declaration-returns-in_ok-definition-in-PatternBinding
declaration-returns-in_ok-definition-in-PatternBinding t c w spot block is known all of =
    let ok = subst (DeclarationNodeIsOf w.owner w.names) c.in-PatternBinding.is (c.in_ok-names.ensures.owned w.owner w.names of) in
    declaration_walks w spot block c.args.beside.begun None c.args.beside.others.now c.args.d c.in_ok-names.field-0 (declaration.PatternBinding c.in-PatternBinding.field-0 c.in-PatternBinding.p c.in-PatternBinding.right) _ c.args.self.now c.definition.new.self (c.in_ok-names.ensures.meaning w.names) c.in-PatternBinding.is
    (bound_node_has w.names spot block (begun_meaning w c.args.beside.begun) c.args.beside.others.now c.in-PatternBinding.field-0 c.in-PatternBinding.p c.in-PatternBinding.right)
    (c.in_ok-definition-in-PatternBinding.ensures w spot (Bound (pattern_meaning w.names c.in-PatternBinding.p) (right_meaning w.names c.in-PatternBinding.right)) is.at (refl, ok.1, ok.2) ok.2
    (bound_inside w.names spot c.in-PatternBinding.p c.in-PatternBinding.right)) (begun_none w)

pub rule-returns-then-goes_on : goal.rule-returns-then-goes_on
rule-returns-then-goes_on t c w spot block is known all of =
    rule_goes_on c.function_rule.result w c.args.self.now c.function_rule.new.self c.args.beside.begun c.args.beside.others.now c.args.rule c.begun_by-function.result spot block c.goes_on.result known of c.goes_on.ensures c.if-goes_on.true c.begun_by-function.ensures
    (c.function_rule.ensures w spot is.at of)

pub rule-returns-then-is_empty : goal.rule-returns-then-is_empty
rule-returns-then-is_empty t c w spot block is known all of =
    rule_defines c.definition.result w c.args.self.now c.definition.new.self c.args.beside.begun c.args.beside.others.now c.args.rule spot block c.goes_on.result known of c.goes_on.ensures c.if-goes_on.false
    (no_elements c.args.rule.parameters (sym c.is_empty.ensures ∙ c.if-is_empty.true))
    (c.definition.ensures w spot (Defined (name_meaning w.names c.args.rule.name) (right_meaning w.names c.args.rule.right)) is.at (refl, of.name, of.right) of.right (defined_inside w.names spot c.args.rule.name c.args.rule.right))

pub rule-returns : goal.rule-returns
rule-returns t c w spot block is known all of =
    let first = c.in_ok-first_rule.ensures w spot block is all of in
    rule_begins c.function_rule-2.result w c.args.self.now c.first_rule.new.self c.function_rule-2.new.self c.args.beside.begun c.args.beside.others.now c.args.rule spot block c.goes_on.result known of c.goes_on.ensures c.if-goes_on.false
    (some_elements c.args.rule.parameters (sym c.is_empty.ensures ∙ c.if-is_empty.false)) first (c.function_rule-2.ensures w spot (at_after first is.at) of)

pub function_rule-returns : goal.function_rule-returns
function_rule-returns t c w spot at of =
    inner_rule_written c.right_side.result w c.args.self.now c.in_rule.new.self c.push.new.self c.right_side.new.self c.args.at c.in_ok-inner.inner c.args.function c.args.rule spot of.parameters
    (subst (λ (xs : List Pattern). Enters w c.args.self.now (in_function (position_of c.args.function) (patterns_bind w.names xs) spot) c.in_ok-inner.inner c.in_rule.new.self) c.as_slice.ensures.value
    (c.in_ok-inner.ensures w spot at (subst (All (PatternIsOf w.owner w.names)) (sym c.as_slice.ensures.value) of.parameters)))
    c.in_ok-push.ensures (λ there. c.right_side.ensures w (in_function (position_of c.args.function) (patterns_bind w.names c.args.rule.parameters.items) spot) there of.right)

pub definition-returns : goal.definition-returns
definition-returns t c w spot found at is of has =
    definition_written w c.args.self.now c.push.new.self c.right_side.new.self c.close.new.self c.args.at c.args.site spot found (right_has w.names spot c.args.right) c.len-number.result
    (omega (arith, c.args.self.now.nodes.ok.0, c.len-number.ensures)) c.in_ok-push.ensures at is has (c.in_ok-right_side.ensures w spot (at_pushed c.in_ok-push.ensures at) of) c.close.ensures
