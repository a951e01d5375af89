use Rattle.std.proofs.Common.{rules, ℕ, ◌≤◌, List, [], ◌++◌, OnOk, IfSome, ap, refl, subst, sym, ◌∙◌}
use denote.Param.Weighed.{most}
use Rattle.std.proofs.lemmas.List.Elements.{All-get_or, All-nil}
use Rattle.std.specs.List.{All}
use Rattle.cu_syntax.proofs.Elements.{largest}
use Rattle.cu_syntax.specs.declared.declarations.Declaration.{Declaration}
use Rattle.cu_syntax.specs.declared.declarations.Guard.{Guard}
use Rattle.cu_syntax.specs.declared.declarations.DeclarationNode.TheVariants as declaration
use Rattle.cu_syntax.specs.declared.expressions.Alternative.{Alternative}
use Rattle.cu_syntax.specs.declared.expressions.Expression.{Expression}
use Rattle.cu_syntax.specs.declared.expressions.ExpressionNode.TheVariants as expression
use Rattle.cu_syntax.specs.declared.expressions.OperatorItem.{OperatorItem}
use Rattle.cu_syntax.specs.declared.expressions.Qualifier.{Qualifier}
use Rattle.cu_syntax.specs.declared.expressions.Qualifier.TheVariants as qualifier
use Rattle.cu_syntax.specs.declared.patterns.Pattern.{Pattern}
use Rattle.cu_syntax.specs.Owners.{AlternativeIsOf, BodyIsOf, DeclarationIsOf, DeclarationNodeIsOf, ExpressionIsOf, ExpressionNodeIsOf, GuardIsOf, NameIsOf, OperatorItemIsOf, PatternIsOf, QualifierIsOf}
use Rattle.cu_syntax.specs.Smaller.{alternative_size, declaration_size, expression_size, guard_size, operator_item_size, qualifier_size}
use Rattle.cu_uses.specs.Binders.{declared_names}
use Rattle.cu_uses.specs.Demands.{with}
use Rattle.cu_uses.specs.Inside.Asked.{alternatives_ask, body_asks, declarations_ask, expressions_ask, guards_ask, in_block, lambda_asks, let_asks, operands_ask, qualifier_asks, qualifier_binds, qualifiers_ask, rule_asks}
use Rattle.cu_uses.specs.Inside.Blocks.{IsBlockOf, block_declares, block_signs}
use Rattle.cu_uses.specs.Gathered.{Adds, pattern_binds, pattern_builds, patterns_bind}
use Rattle.cu_uses.specs.Inside.Scopes.{Brings, Opens, is_local, or_among}
use Rattle.cu_uses.specs.Inside.Worlds.{Told}
use Rattle.cu_uses.proofs.FoundLemmas.{adds_none, on_ok}
use Rattle.cu_uses.proofs.ToldLemmas.{told_both, told_none}
use Rattle.cu_uses.proofs.WalkLemmas.{alternatives_end, alternatives_prefix, below_max, if_ok, sees_reached, declaration_told, declarations_end, declarations_prefix, expression_told, expressions_end, expressions_prefix, guards_end, guards_prefix, maybe_none, maybe_some, more_variables, operands_end, operands_prefix, qualifier_brings, qualifiers_end, qualifiers_prefix, right_told, sees_added, sees_inside}
use Rattle.cu_uses.proofs.expressions.+uses.Goals as goal

pub expression-returns-in-Variable : goal.expression-returns-in-Variable
expression-returns-in-Variable t c w local sees is =
    let of = subst (ExpressionNodeIsOf w.owner w.names) c.in-Variable.is (c.in_ok-name.ensures.owned w.owner w.names is) in
    expression_told w local c.args.e c.in_ok-name.field-0 (expression.Variable c.in-Variable.field-0 c.in-Variable.name) c.args.first.now c.use_value.new.first (c.in_ok-name.ensures.meaning w.names) c.in-Variable.is (c.use_value.ensures w local sees of.1)

pub expression-returns-in-Constructor : goal.expression-returns-in-Constructor
expression-returns-in-Constructor t c w local sees is =
    let of = subst (ExpressionNodeIsOf w.owner w.names) c.in-Constructor.is (c.in_ok-name.ensures.owned w.owner w.names is) in
    expression_told w local c.args.e c.in_ok-name.field-0 (expression.Constructor c.in-Constructor.field-0 c.in-Constructor.name) c.args.first.now c.use_entity.new.first (c.in_ok-name.ensures.meaning w.names) c.in-Constructor.is (c.use_entity.ensures w local sees of.1)

pub expression-returns-in-Literal : goal.expression-returns-in-Literal
expression-returns-in-Literal t c w local sees is =
    expression_told w local c.args.e c.in_ok-name.field-0 (expression.Literal c.in-Literal.field-0 c.in-Literal.field-1) c.args.first.now c.args.first.now (c.in_ok-name.ensures.meaning w.names) c.in-Literal.is (told_none w c.args.first.now)

pub expression-returns-in-TupleConstructor : goal.expression-returns-in-TupleConstructor
expression-returns-in-TupleConstructor t c w local sees is =
    expression_told w local c.args.e c.in_ok-name.field-0 (expression.TupleConstructor c.in-TupleConstructor.field-0 c.in-TupleConstructor.field-1) c.args.first.now c.args.first.now (c.in_ok-name.ensures.meaning w.names) c.in-TupleConstructor.is (told_none w c.args.first.now)

pub expression-returns-in_ok-expression-in-Application : goal.expression-returns-in_ok-expression-in-Application
expression-returns-in_ok-expression-in-Application t c w local sees is =
    let of = subst (ExpressionNodeIsOf w.owner w.names) c.in-Application.is (c.in_ok-name.ensures.owned w.owner w.names is) in
    on_ok c.expressions.result
    (λ rest. expression_told w local c.args.e c.in_ok-name.field-0 (expression.Application c.in-Application.field-0 c.in-Application.function c.in-Application.arguments) c.args.first.now c.expressions.new.first (c.in_ok-name.ensures.meaning w.names) c.in-Application.is (told_both (c.in_ok-expression-in-Application.ensures w local sees of.1) rest))
    (subst (λ (xs : List Expression). All (ExpressionIsOf w.owner w.names) xs → OnOk c.expressions.result (Told w c.expression.new.first (expressions_ask w.names local xs) c.expressions.new.first)) c.as_slice.ensures.value (c.expressions.ensures w local sees) of.2)

pub expression-returns-in_ok-expression-in-Operators : goal.expression-returns-in_ok-expression-in-Operators
expression-returns-in_ok-expression-in-Operators t c w local sees is =
    let of = subst (ExpressionNodeIsOf w.owner w.names) c.in-Operators.is (c.in_ok-name.ensures.owned w.owner w.names is) in
    on_ok c.operands.result
    (λ rest. expression_told w local c.args.e c.in_ok-name.field-0 (expression.Operators c.in-Operators.items) c.args.first.now c.operands.new.first (c.in_ok-name.ensures.meaning w.names) c.in-Operators.is (told_both (c.in_ok-expression-in-Operators.ensures w local sees of.2) rest))
    (subst (λ (xs : List OperatorItem). All (OperatorItemIsOf w.owner w.names) xs → OnOk c.operands.result (Told w c.expression-in-Operators.new.first (operands_ask w.names local xs) c.operands.new.first)) c.as_slice-in-Operators.ensures.value (c.operands.ensures w local sees) of.3)

pub expression-returns-in-Lambda : goal.expression-returns-in-Lambda
expression-returns-in-Lambda t c w local sees is =
    let of = subst (ExpressionNodeIsOf w.owner w.names) c.in-Lambda.is (c.in_ok-name.ensures.owned w.owner w.names is) in
    on_ok c.lambda.result
    (expression_told w local c.args.e c.in_ok-name.field-0 (expression.Lambda c.in-Lambda.field-0 c.in-Lambda.parameters c.in-Lambda.body) c.args.first.now c.lambda.new.first (c.in_ok-name.ensures.meaning w.names) c.in-Lambda.is)
    (subst (λ (xs : List Pattern). All (PatternIsOf w.owner w.names) xs → OnOk c.lambda.result (Told w c.args.first.now (lambda_asks w.names local xs c.in-Lambda.body) c.lambda.new.first)) c.as_slice-in-Lambda.ensures.value (λ all. c.lambda.ensures w local sees all of.2) of.1)

pub expression-returns-in-Let : goal.expression-returns-in-Let
expression-returns-in-Let t c w local sees is =
    let of = subst (ExpressionNodeIsOf w.owner w.names) c.in-Let.is (c.in_ok-name.ensures.owned w.owner w.names is) in
    on_ok c.let_in.result
    (expression_told w local c.args.e c.in_ok-name.field-0 (expression.Let c.in-Let.field-0 c.in-Let.ds c.in-Let.body) c.args.first.now c.let_in.new.first (c.in_ok-name.ensures.meaning w.names) c.in-Let.is)
    (subst (λ (xs : List Declaration). All (DeclarationIsOf w.owner w.names) xs → OnOk c.let_in.result (Told w c.args.first.now (let_asks w.names local xs c.in-Let.body) c.let_in.new.first)) c.as_slice-in-Let.ensures.value (λ all. c.let_in.ensures w local sees all of.2) of.1)

pub expression-returns-in_ok-expression-in-If-2 : goal.expression-returns-in_ok-expression-in-If-2
expression-returns-in_ok-expression-in-If-2 t c w local sees is =
    let of = subst (ExpressionNodeIsOf w.owner w.names) c.in-If.is (c.in_ok-name.ensures.owned w.owner w.names is) in
    on_ok c.expression-in-If-3.result
    (λ last. expression_told w local c.args.e c.in_ok-name.field-0 (expression.If c.in-If.field-0 c.in-If.condition c.in-If.chosen c.in-If.other) c.args.first.now c.expression-in-If-3.new.first (c.in_ok-name.ensures.meaning w.names) c.in-If.is (told_both (c.in_ok-expression-in-If.ensures w local sees of.1) (told_both (c.in_ok-expression-in-If-2.ensures w local sees of.2) last)))
    (c.expression-in-If-3.ensures w local sees of.3)

pub expression-returns-in_ok-expression-in-Case : goal.expression-returns-in_ok-expression-in-Case
expression-returns-in_ok-expression-in-Case t c w local sees is =
    let of = subst (ExpressionNodeIsOf w.owner w.names) c.in-Case.is (c.in_ok-name.ensures.owned w.owner w.names is) in
    on_ok c.alternatives.result
    (λ rest. expression_told w local c.args.e c.in_ok-name.field-0 (expression.Case c.in-Case.field-0 c.in-Case.field-1 c.in-Case.subject c.in-Case.cases) c.args.first.now c.alternatives.new.first (c.in_ok-name.ensures.meaning w.names) c.in-Case.is (told_both (c.in_ok-expression-in-Case.ensures w local sees of.1) rest))
    (subst (λ (xs : List Alternative). All (AlternativeIsOf w.owner w.names) xs → OnOk c.alternatives.result (Told w c.expression-in-Case.new.first (alternatives_ask w.names local xs) c.alternatives.new.first)) c.as_slice-in-Case.ensures.value (c.alternatives.ensures w local sees) of.2)

pub expression-returns-in-Tuple : goal.expression-returns-in-Tuple
expression-returns-in-Tuple t c w local sees is =
    let of = subst (ExpressionNodeIsOf w.owner w.names) c.in-Tuple.is (c.in_ok-name.ensures.owned w.owner w.names is) in
    on_ok c.expressions-in-Tuple.result
    (expression_told w local c.args.e c.in_ok-name.field-0 (expression.Tuple c.in-Tuple.field-0 c.in-Tuple.components) c.args.first.now c.expressions-in-Tuple.new.first (c.in_ok-name.ensures.meaning w.names) c.in-Tuple.is)
    (subst (λ (xs : List Expression). All (ExpressionIsOf w.owner w.names) xs → OnOk c.expressions-in-Tuple.result (Told w c.args.first.now (expressions_ask w.names local xs) c.expressions-in-Tuple.new.first)) c.as_slice-in-Tuple.ensures.value (c.expressions-in-Tuple.ensures w local sees) of.1)

pub expression-returns-in-List : goal.expression-returns-in-List
expression-returns-in-List t c w local sees is =
    let of = subst (ExpressionNodeIsOf w.owner w.names) c.in-List.is (c.in_ok-name.ensures.owned w.owner w.names is) in
    on_ok c.expressions-in-List.result
    (expression_told w local c.args.e c.in_ok-name.field-0 (expression.List c.in-List.field-0 c.in-List.elements) c.args.first.now c.expressions-in-List.new.first (c.in_ok-name.ensures.meaning w.names) c.in-List.is)
    (subst (λ (xs : List Expression). All (ExpressionIsOf w.owner w.names) xs → OnOk c.expressions-in-List.result (Told w c.args.first.now (expressions_ask w.names local xs) c.expressions-in-List.new.first)) c.as_slice-in-List.ensures.value (c.expressions-in-List.ensures w local sees) of.1)

pub expression-returns-in_ok-expression-in-LeftSection : goal.expression-returns-in_ok-expression-in-LeftSection
expression-returns-in_ok-expression-in-LeftSection t c w local sees is =
    let of = subst (ExpressionNodeIsOf w.owner w.names) c.in-LeftSection.is (c.in_ok-name.ensures.owned w.owner w.names is) in
    expression_told w local c.args.e c.in_ok-name.field-0 (expression.LeftSection c.in-LeftSection.field-0 c.in-LeftSection.operand c.in-LeftSection.operator) c.args.first.now c.use_value-in-LeftSection.new.first (c.in_ok-name.ensures.meaning w.names) c.in-LeftSection.is (told_both (c.in_ok-expression-in-LeftSection.ensures w local sees of.1) (c.use_value-in-LeftSection.ensures w local sees of.2))

pub expression-returns-in-RightSection : goal.expression-returns-in-RightSection
expression-returns-in-RightSection t c w local sees is =
    let of = subst (ExpressionNodeIsOf w.owner w.names) c.in-RightSection.is (c.in_ok-name.ensures.owned w.owner w.names is) in
    on_ok c.expression-in-RightSection.result
    (λ last. expression_told w local c.args.e c.in_ok-name.field-0 (expression.RightSection c.in-RightSection.field-0 c.in-RightSection.operator c.in-RightSection.operand) c.args.first.now c.expression-in-RightSection.new.first (c.in_ok-name.ensures.meaning w.names) c.in-RightSection.is (told_both (c.use_value-in-RightSection.ensures w local sees of.1) last))
    (c.expression-in-RightSection.ensures w local sees of.2)

pub expression-returns-in-Enumeration : goal.expression-returns-in-Enumeration
expression-returns-in-Enumeration t c w local sees is =
    let of = subst (ExpressionNodeIsOf w.owner w.names) c.in-Enumeration.is (c.in_ok-name.ensures.owned w.owner w.names is) in
    on_ok c.enumeration.result
    (expression_told w local c.args.e c.in_ok-name.field-0 (expression.Enumeration c.in-Enumeration.field-0 c.in-Enumeration.numbers) c.args.first.now c.enumeration.new.first (c.in_ok-name.ensures.meaning w.names) c.in-Enumeration.is)
    (c.enumeration.ensures w local sees of.1)

pub expression-returns-in-Comprehension : goal.expression-returns-in-Comprehension
expression-returns-in-Comprehension t c w local sees is =
    let of = subst (ExpressionNodeIsOf w.owner w.names) c.in-Comprehension.is (c.in_ok-name.ensures.owned w.owner w.names is) in
    on_ok c.comprehension.result
    (expression_told w local c.args.e c.in_ok-name.field-0 (expression.Comprehension c.in-Comprehension.field-0 c.in-Comprehension.element c.in-Comprehension.qualifiers) c.args.first.now c.comprehension.new.first (c.in_ok-name.ensures.meaning w.names) c.in-Comprehension.is)
    (subst (λ (xs : List Qualifier). All (QualifierIsOf w.owner w.names) xs → OnOk c.comprehension.result (Told w c.args.first.now (qualifiers_ask w.names local c.in-Comprehension.element xs) c.comprehension.new.first)) c.as_slice-in-Comprehension.ensures.value (c.comprehension.ensures w local sees of.1) of.2)

pub expressions-expression-requires : goal.expressions-expression-requires
expressions-expression-requires t c = (search (rules, largest expression_size c.args.es.now c.loop-e.e-index, c.loop-e-test.true), tt)

pub expressions-loop-e-preserved : goal.expressions-loop-e-preserved
expressions-loop-e-preserved t c w local after sees all rest =
    c.loop-e.invariant w local after sees all
    (expressions_prefix (ExpressionIsOf w.owner w.names) w local c.args.es.now c.loop-e.e-index c.e-item.result c.loop-e.first c.expression.new.first after c.e-item.is c.loop-e-test.true all
    (λ of. c.in_ok-expression.ensures w local sees of) rest)

pub expressions-returns : goal.expressions-returns
expressions-returns t c w local sees all =
    c.loop-e.invariant w local c.loop-e.first sees all (expressions_end w local c.args.es.now c.loop-e.e-index c.loop-e.first c.loop-e-test.false)

pub operands-expression-requires : goal.operands-expression-requires
operands-expression-requires t c = (search (rules, largest operator_item_size c.args.items.now c.loop-item.item-index, c.loop-item-test.true), tt)

pub operands-loop-item-preserved : goal.operands-loop-item-preserved
operands-loop-item-preserved t c w local after sees all rest =
    c.loop-item.invariant w local after sees all
    (operands_prefix (OperatorItemIsOf w.owner w.names) w local c.args.items.now c.loop-item.item-index c.item-item.result c.loop-item.first c.expression.new.first after c.item-item.is c.loop-item-test.true all
    (λ of. told_both (c.use_value.ensures w local sees of.0) (c.in_ok-expression.ensures w local sees of.2)) rest)

pub operands-returns : goal.operands-returns
operands-returns t c w local sees all =
    c.loop-item.invariant w local c.loop-item.first sees all (operands_end w local c.args.items.now c.loop-item.item-index c.loop-item.first c.loop-item-test.false)

pub alternatives-alternative-requires : goal.alternatives-alternative-requires
alternatives-alternative-requires t c = (search (rules, largest alternative_size c.args.cases.now c.loop-a.a-index, c.loop-a-test.true), tt)

pub alternatives-loop-a-preserved : goal.alternatives-loop-a-preserved
alternatives-loop-a-preserved t c w local after sees all rest =
    c.loop-a.invariant w local after sees all
    (alternatives_prefix (AlternativeIsOf w.owner w.names) w local c.args.cases.now c.loop-a.a-index c.a-item.result c.loop-a.first c.alternative.new.first after c.a-item.is c.loop-a-test.true all
    (λ of. c.in_ok-alternative.ensures w local sees of) rest)

pub alternatives-returns : goal.alternatives-returns
alternatives-returns t c w local sees all =
    c.loop-a.invariant w local c.loop-a.first sees all (alternatives_end w local c.args.cases.now c.loop-a.a-index c.loop-a.first c.loop-a-test.false)

pub guards-expression-requires : goal.guards-expression-requires
guards-expression-requires t c = (search (rules, largest guard_size c.args.cases.now c.loop-g.g-index, c.loop-g-test.true), tt)

pub guards-loop-g-preserved : goal.guards-loop-g-preserved
guards-loop-g-preserved t c w local after sees all rest =
    c.loop-g.invariant w local after sees all
    (guards_prefix (GuardIsOf w.owner w.names) w local c.args.cases.now c.loop-g.g-index c.g-item.result c.loop-g.first c.expression-in-loop-g.new.first after c.g-item.is c.loop-g-test.true all
    (λ of. told_both (c.in_ok-expression.ensures w local sees of.1) (c.in_ok-expression-2.ensures w local sees of.2)) rest)

pub guards-returns : goal.guards-returns
guards-returns t c w local sees all =
    c.loop-g.invariant w local c.loop-g.first sees all (guards_end w local c.args.cases.now c.loop-g.g-index c.loop-g.first c.loop-g-test.false)

pub declarations-declaration-requires : goal.declarations-declaration-requires
declarations-declaration-requires t c = (search (rules, largest declaration_size c.args.ds.now c.loop-d.d-index, c.loop-d-test.true), tt)

pub declarations-loop-d-preserved : goal.declarations-loop-d-preserved
declarations-loop-d-preserved t c w local after sees all rest =
    c.loop-d.invariant w local after sees all
    (declarations_prefix (DeclarationIsOf w.owner w.names) w local c.args.ds.now c.loop-d.d-index c.d-item.result c.loop-d.first c.declaration.new.first after c.d-item.is c.loop-d-test.true all
    (λ of. c.in_ok-declaration.ensures w local sees of) rest)

pub declarations-returns : goal.declarations-returns
declarations-returns t c w local sees all =
    c.loop-d.invariant w local c.loop-d.first sees all (declarations_end w local c.args.ds.now c.loop-d.d-index c.loop-d.first c.loop-d-test.false)

pub lambda-returns : goal.lambda-returns
lambda-returns t c w local sees all of =
    let opened = c.in_ok-variables.ensures w local sees all in
    on_ok c.expression.result (λ inner. told_both opened.told inner)
    (c.expression.ensures w (with (patterns_bind w.names c.args.parameters.now) local)
    (sees_added w local (patterns_bind w.names c.args.parameters.now) c.as_slice.result.now c.in_ok-variables.variables.items c.args.scope.now c.inside-inner.result sees c.as_slice.ensures.value opened.variables c.inside-inner.ensures.table c.inside-inner.ensures.local) of)

pub alternative-returns : goal.alternative-returns
alternative-returns t c w local sees of =
    let opened = c.in_ok-variables.ensures w local sees of.1 in
    on_ok c.right_side.result (λ inner. told_both opened.told inner)
    (c.right_side.ensures w (with (pattern_binds w.names c.args.a.pattern) local)
    (sees_added w local (pattern_binds w.names c.args.a.pattern) c.as_slice.result.now c.in_ok-variables.variables.items c.args.scope.now c.inside-inner.result sees c.as_slice.ensures.value opened.variables c.inside-inner.ensures.table c.inside-inner.ensures.local) of.2)

pub let_in-returns : goal.let_in-returns
let_in-returns t c w local sees all of =
    let block = c.in_ok-block.ensures w.owner w.names sees.differ all in
    let inner = sees_inside w local (declared_names (block_declares w.names c.args.ds.now)) c.as_slice.result.now c.in_ok-block.block.names.items c.args.scope.now c.inside-inner.result sees c.as_slice.ensures.value
    block.is_names block.names_owned c.inside-inner.ensures.table c.inside-inner.ensures.local in
    on_ok c.expression.result (λ last. told_both (c.in_ok-tell.ensures w c.args.ds.now sees.differ block) (told_both (c.in_ok-declarations.ensures w (in_block w.names local c.args.ds.now) inner all) last))
    (c.expression.ensures w (in_block w.names local c.args.ds.now) inner of)

pub enumeration-returns : goal.enumeration-returns
enumeration-returns t c w local sees of =
    on_ok c.maybe-2.result (λ last. told_both (c.in_ok-expression.ensures w local sees of.0) (told_both (c.in_ok-maybe.ensures w local sees of.1) last))
    (c.maybe-2.ensures w local sees of.2)

pub right_side-returns : goal.right_side-returns
right_side-returns t c w local sees of =
    let ok = c.in_ok-node.ensures.owned w.owner w.names of in
    let ds = c.in_ok-node.node.local.items in
    let all = subst (All (DeclarationIsOf w.owner w.names)) (sym c.as_slice.ensures.value) ok.2 in
    let block = subst (λ (xs : List Declaration). IsBlockOf w.owner w.names (block_declares w.names xs) (block_signs w.names xs) c.in_ok-block.block) c.as_slice.ensures.value (c.in_ok-block.ensures w.owner w.names sees.differ all) in
    let inner = sees_inside w local (declared_names (block_declares w.names ds)) c.as_slice-2.result.now c.in_ok-block.block.names.items c.args.scope.now c.inside-inner.result sees c.as_slice-2.ensures.value
    block.is_names block.names_owned c.inside-inner.ensures.table c.inside-inner.ensures.local in
    on_ok c.declarations.result
    (λ last. right_told w local c.args.right c.in_ok-node.node c.args.first.now c.declarations.new.first (c.in_ok-node.ensures.meaning w.names)
    (told_both (c.in_ok-body.ensures w (in_block w.names local ds) inner ok.1) (told_both (c.in_ok-tell.ensures w ds sees.differ block) last)))
    (subst (λ (xs : List Declaration). All (DeclarationIsOf w.owner w.names) xs → OnOk c.declarations.result (Told w c.tell.new.first (declarations_ask w.names (in_block w.names local ds) xs) c.declarations.new.first))
    c.as_slice-3.ensures.value (c.declarations.ensures w (in_block w.names local ds) inner) ok.2)

pub maybe-returns-in-None : goal.maybe-returns-in-None
maybe-returns-in-None t c w local sees of = maybe_none w local c.args.e c.args.first.now c.in-None.is

pub maybe-returns-in-Some : goal.maybe-returns-in-Some
maybe-returns-in-Some t c w local sees of =
    on_ok c.expression.result (maybe_some w local c.args.e c.in-Some.e c.args.first.now c.expression.new.first c.in-Some.is)
    (c.expression.ensures w local sees (subst (λ m. IfSome m (ExpressionIsOf w.owner w.names)) c.in-Some.is of))

pub comprehension-qualifier-requires : goal.comprehension-qualifier-requires
comprehension-qualifier-requires t c =
    let within = largest qualifier_size c.args.qualifiers.now c.loop-q.q-index c.q-item.result c.loop-q-test.true in
    let here = subst (λ x. qualifier_size x ≤ most qualifier_size c.args.qualifiers.now) (sym c.q-item.is) within in
    let below = below_max (qualifier_size c.q-item.result) (expression_size c.args.element) (most qualifier_size c.args.qualifiers.now) here in
    (search (rules, below), tt)

pub comprehension-loop-q-init : goal.comprehension-loop-q-init
comprehension-loop-q-init t c w local sees all = (
  local,
  subst (All (NameIsOf w.owner w.names)) (sym c.new-names.ensures.items) (All-nil (NameIsOf w.owner w.names)),
  λ id known. ap (λ ys. or_among ys (is_local c.args.scope.now) id) c.new-names.ensures.items ∙ sees.sees id known,
  λ after told. told,
)

pub comprehension-loop-q-preserved : goal.comprehension-loop-q-preserved
comprehension-loop-q-preserved t c w local sees all =
    let before = c.loop-q.invariant w local sees all in
    let here = subst (QualifierIsOf w.owner w.names) (sym c.q-item.is) (All-get_or (QualifierIsOf w.owner w.names) c.args.qualifiers.now c.loop-q.q-index c.q-item.result c.loop-q-test.true all) in
    let brought = c.in_ok-more.ensures w before.0
    (sees_reached w local before.0 c.loop-q.names.items c.as_slice.result.now c.args.scope.now c.inside-inner.result sees c.as_slice.ensures.value before.2 c.inside-inner.ensures.table c.inside-inner.ensures.local) here in
    let more = more_variables w before.0 (qualifier_binds w.names c.q-item.result) c.loop-q.names.items c.in_ok-more.more.items c.extend_from_slice.new.self.items c.as_slice-in-loop-q.result.now (is_local c.args.scope.now)
    sees.differ before.1 brought.variables c.as_slice-in-loop-q.ensures.value c.in_ok-extend_from_slice.ensures.items before.2 in (
      with (qualifier_binds w.names c.q-item.result) before.0,
      more.0,
      more.1,
      λ after rest.
          before.3 after (qualifiers_prefix w before.0 c.args.element c.args.qualifiers.now c.loop-q.q-index c.q-item.result c.loop-q.first c.qualifier.new.first after c.q-item.is c.loop-q-test.true brought.told rest),
    )

pub comprehension-returns : goal.comprehension-returns
comprehension-returns t c w local sees of all =
    let before = c.loop-q.invariant w local sees all in
    on_ok c.expression.result
    (λ last. before.3 c.expression.new.first (qualifiers_end w before.0 c.args.element c.args.qualifiers.now c.loop-q.q-index c.loop-q.first c.expression.new.first c.loop-q-test.false last))
    (c.expression.ensures w before.0
    (sees_reached w local before.0 c.loop-q.names.items c.as_slice-2.result.now c.args.scope.now c.inside-inner-2.result sees c.as_slice-2.ensures.value before.2 c.inside-inner-2.ensures.table c.inside-inner-2.ensures.local) of)

pub qualifier-returns-in_ok-expression-in-Generator : goal.qualifier-returns-in_ok-expression-in-Generator
qualifier-returns-in_ok-expression-in-Generator t c w local sees is =
    let of = subst (QualifierIsOf w.owner w.names) c.in-Generator.is is in
    if_ok (λ found. Opens w c.expression.new.first (pattern_binds w.names c.in-Generator.p) (pattern_builds w.names c.in-Generator.p) found.items c.open_pattern.new.first)
    (λ found. Brings w c.args.first.now (qualifier_binds w.names c.args.q.now) (qualifier_asks w.names local c.args.q.now) found.items c.open_pattern.new.first) c.open_pattern.result
    (λ found opened. qualifier_brings w local c.args.q.now (qualifier.Generator c.in-Generator.field-0 c.in-Generator.p c.in-Generator.list) found.items c.args.first.now c.open_pattern.new.first c.in-Generator.is
    opened.variables (told_both (c.in_ok-expression-in-Generator.ensures w local sees of.2) opened.told))
    (c.open_pattern.ensures w local sees of.1)

pub qualifier-returns-in_ok-declarations-in-Declarations : goal.qualifier-returns-in_ok-declarations-in-Declarations
qualifier-returns-in_ok-declarations-in-Declarations t c w local sees is =
    let of = subst (QualifierIsOf w.owner w.names) c.in-Declarations.is is in
    let ds = c.in-Declarations.ds.items in
    let all = subst (All (DeclarationIsOf w.owner w.names)) (sym c.as_slice.ensures.value) of.1 in
    let block = subst (λ (xs : List Declaration). IsBlockOf w.owner w.names (block_declares w.names xs) (block_signs w.names xs) c.in_ok-block-in-Declarations.block) c.as_slice.ensures.value
    (c.in_ok-block-in-Declarations.ensures w.owner w.names sees.differ all) in
    let inner = sees_inside w local (declared_names (block_declares w.names ds)) c.as_slice-in-Declarations.result.now c.in_ok-block-in-Declarations.block.names.items c.args.scope.now c.inside-inner.result sees
    c.as_slice-in-Declarations.ensures.value block.is_names block.names_owned c.inside-inner.ensures.table c.inside-inner.ensures.local in
    qualifier_brings w local c.args.q.now (qualifier.Declarations c.in-Declarations.field-0 c.in-Declarations.ds) c.in_ok-block-in-Declarations.block.names.items c.args.first.now c.declarations.new.first c.in-Declarations.is
    (record { adds = block.is_names; owned = λ _. block.names_owned })
    (told_both (c.in_ok-tell-in-Declarations.ensures w ds sees.differ block)
    (subst (λ (xs : List Declaration). All (DeclarationIsOf w.owner w.names) xs → Told w c.tell.new.first (declarations_ask w.names (in_block w.names local ds) xs) c.declarations.new.first)
    c.as_slice-in-Declarations-2.ensures.value (c.in_ok-declarations-in-Declarations.ensures w (in_block w.names local ds) inner) of.1))

pub qualifier-returns-in_ok-expression-in-Condition : goal.qualifier-returns-in_ok-expression-in-Condition
qualifier-returns-in_ok-expression-in-Condition t c w local sees is =
    let of = subst (QualifierIsOf w.owner w.names) c.in-Condition.is is in
    qualifier_brings w local c.args.q.now (qualifier.Condition c.in-Condition.field-0 c.in-Condition.condition) c.new.result.items c.args.first.now c.expression-in-Condition.new.first c.in-Condition.is
    (subst (Adds w.owner w.names [] []) (sym c.new.ensures.items) (adds_none w.owner w.names [])) (c.in_ok-expression-in-Condition.ensures w local sees of.1)

pub body-returns-in-Plain : goal.body-returns-in-Plain
body-returns-in-Plain t c w local sees is =
    subst (λ b. OnOk c.expression.result (Told w c.args.first.now (body_asks w.names local b) c.expression.new.first)) (sym c.in-Plain.is)
    (c.expression.ensures w local sees (subst (BodyIsOf w.owner w.names) c.in-Plain.is is))

pub body-returns-in-Guarded : goal.body-returns-in-Guarded
body-returns-in-Guarded t c w local sees is =
    subst (λ b. OnOk c.guards.result (Told w c.args.first.now (body_asks w.names local b) c.guards.new.first)) (sym c.in-Guarded.is)
    (subst (λ (xs : List Guard). All (GuardIsOf w.owner w.names) xs → OnOk c.guards.result (Told w c.args.first.now (guards_ask w.names local xs) c.guards.new.first)) c.as_slice.ensures.value
    (c.guards.ensures w local sees) (subst (BodyIsOf w.owner w.names) c.in-Guarded.is is))

pub declaration-returns-in-FreeVariables : goal.declaration-returns-in-FreeVariables
declaration-returns-in-FreeVariables t c w local sees is =
    declaration_told w local c.args.d c.in_ok-_variables.field-0 (declaration.FreeVariables c.in-FreeVariables.field-0 c.in-FreeVariables._variables) c.args.first.now c.args.first.now
    (c.in_ok-_variables.ensures.meaning w.names) c.in-FreeVariables.is (told_none w c.args.first.now)

pub declaration-returns-in-Signature : goal.declaration-returns-in-Signature
declaration-returns-in-Signature t c w local sees is =
    let of = subst (DeclarationNodeIsOf w.owner w.names) c.in-Signature.is (c.in_ok-_variables.ensures.owned w.owner w.names is) in
    on_ok c.use_type.result
    (declaration_told w local c.args.d c.in_ok-_variables.field-0 (declaration.Signature c.in-Signature.field-0 c.in-Signature._functions c.in-Signature.t) c.args.first.now c.use_type.new.first
    (c.in_ok-_variables.ensures.meaning w.names) c.in-Signature.is)
    (c.use_type.ensures w local sees of.2)

pub declaration-returns-in-FunctionRule : goal.declaration-returns-in-FunctionRule
declaration-returns-in-FunctionRule t c w local sees is =
    let of = subst (DeclarationNodeIsOf w.owner w.names) c.in-FunctionRule.is (c.in_ok-_variables.ensures.owned w.owner w.names is) in
    on_ok c.function_rule.result
    (declaration_told w local c.args.d c.in_ok-_variables.field-0 (declaration.FunctionRule c.in-FunctionRule.field-0 c.in-FunctionRule.field-1 c.in-FunctionRule.parameters c.in-FunctionRule.right) c.args.first.now
    c.function_rule.new.first (c.in_ok-_variables.ensures.meaning w.names) c.in-FunctionRule.is)
    (subst (λ (xs : List Pattern). All (PatternIsOf w.owner w.names) xs → OnOk c.function_rule.result (Told w c.args.first.now (rule_asks w.names local xs c.in-FunctionRule.right) c.function_rule.new.first))
    c.as_slice.ensures.value (λ all. c.function_rule.ensures w local sees all of.3) of.2)

pub declaration-returns-in-PatternBinding : goal.declaration-returns-in-PatternBinding
declaration-returns-in-PatternBinding t c w local sees is =
    let of = subst (DeclarationNodeIsOf w.owner w.names) c.in-PatternBinding.is (c.in_ok-_variables.ensures.owned w.owner w.names is) in
    on_ok c.pattern_binding.result
    (declaration_told w local c.args.d c.in_ok-_variables.field-0 (declaration.PatternBinding c.in-PatternBinding.field-0 c.in-PatternBinding.p c.in-PatternBinding.right) c.args.first.now
    c.pattern_binding.new.first (c.in_ok-_variables.ensures.meaning w.names) c.in-PatternBinding.is)
    (c.pattern_binding.ensures w local sees of.1 of.2)

pub function_rule-returns : goal.function_rule-returns
function_rule-returns t c w local sees all of =
    let opened = c.in_ok-variables.ensures w local sees all in
    on_ok c.right_side.result (λ inner. told_both opened.told inner)
    (c.right_side.ensures w (with (patterns_bind w.names c.args.parameters.now) local)
    (sees_added w local (patterns_bind w.names c.args.parameters.now) c.as_slice.result.now c.in_ok-variables.variables.items c.args.scope.now c.inside-inner.result sees c.as_slice.ensures.value opened.variables c.inside-inner.ensures.table c.inside-inner.ensures.local) of)

pub pattern_binding-returns : goal.pattern_binding-returns
pattern_binding-returns t c w local sees is of =
    let opened = c.in_ok-open_pattern.ensures w local sees is in
    on_ok c.right_side.result (λ inner. told_both opened.told inner) (c.right_side.ensures w local sees of)
