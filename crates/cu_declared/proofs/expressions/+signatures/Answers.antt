use Rattle.std.proofs.Common.{rules, List, OnOk, IfSome, subst, sym}
use Rattle.std.specs.List.{All}
use Rattle.cu_syntax.proofs.Elements.{largest}
use Rattle.cu_syntax.specs.declared.declarations.Declaration.{Declaration}
use Rattle.cu_syntax.specs.declared.declarations.DeclarationNode.TheVariants as declaration
use Rattle.cu_syntax.specs.declared.declarations.Guard.{Guard}
use Rattle.cu_syntax.specs.declared.expressions.Alternative.{Alternative}
use Rattle.cu_syntax.specs.declared.expressions.Expression.{Expression}
use Rattle.cu_syntax.specs.declared.expressions.ExpressionNode.TheVariants as expression
use Rattle.cu_syntax.specs.declared.expressions.OperatorItem.{OperatorItem}
use Rattle.cu_syntax.specs.declared.expressions.Qualifier.{Qualifier}
use Rattle.cu_syntax.specs.declared.expressions.Qualifier.TheVariants as qualifier
use Rattle.cu_syntax.specs.Owners.{AlternativeIsOf, BodyIsOf, DeclarationIsOf, DeclarationNodeIsOf, ExpressionIsOf, ExpressionNodeIsOf, GuardIsOf, OperatorItemIsOf, QualifierIsOf}
use Rattle.cu_syntax.specs.Smaller.{alternative_size, declaration_size, expression_size, guard_size, operator_item_size, qualifier_size}
use Rattle.cu_declared.specs.Inside.Gathered.{Adds, in_alternatives, in_body, in_declarations, in_expressions, in_guards, in_operands, in_qualifiers}
use Rattle.cu_declared.proofs.AddsLemmas.{adds_both, adds_none, on_ok}
use Rattle.cu_declared.proofs.UsesLemmas.{alternatives_end, alternatives_prefix, declaration_found, declarations_end, declarations_prefix, expression_found, expressions_end, expressions_prefix, guards_end, guards_prefix, maybe_none, maybe_some, operands_end, operands_prefix, qualifier_found, qualifiers_end, qualifiers_prefix, right_found}
use Rattle.cu_declared.proofs.expressions.+signatures.Goals as goal

pub expression-returns-in-Variable : goal.expression-returns-in-Variable
expression-returns-in-Variable t c owner names is =
    expression_found owner names c.args.e c.in_ok-node.node (expression.Variable c.in-Variable.field-0 c.in-Variable.field-1) c.args.found.now.items c.args.found.now.items (c.in_ok-node.ensures.meaning names) c.in-Variable.is (adds_none owner names c.args.found.now.items)

pub expression-returns-in-Constructor : goal.expression-returns-in-Constructor
expression-returns-in-Constructor t c owner names is =
    expression_found owner names c.args.e c.in_ok-node.node (expression.Constructor c.in-Constructor.field-0 c.in-Constructor.field-1) c.args.found.now.items c.args.found.now.items (c.in_ok-node.ensures.meaning names) c.in-Constructor.is (adds_none owner names c.args.found.now.items)

pub expression-returns-in-Literal : goal.expression-returns-in-Literal
expression-returns-in-Literal t c owner names is =
    expression_found owner names c.args.e c.in_ok-node.node (expression.Literal c.in-Literal.field-0 c.in-Literal.field-1) c.args.found.now.items c.args.found.now.items (c.in_ok-node.ensures.meaning names) c.in-Literal.is (adds_none owner names c.args.found.now.items)

pub expression-returns-in-TupleConstructor : goal.expression-returns-in-TupleConstructor
expression-returns-in-TupleConstructor t c owner names is =
    expression_found owner names c.args.e c.in_ok-node.node (expression.TupleConstructor c.in-TupleConstructor.field-0 c.in-TupleConstructor.field-1) c.args.found.now.items c.args.found.now.items (c.in_ok-node.ensures.meaning names) c.in-TupleConstructor.is (adds_none owner names c.args.found.now.items)

pub expression-returns-in_ok-expression-in-Application : goal.expression-returns-in_ok-expression-in-Application
expression-returns-in_ok-expression-in-Application t c owner names is =
    let of = subst (ExpressionNodeIsOf owner names) c.in-Application.is (c.in_ok-node.ensures.owned owner names is) in
    on_ok c.expressions.result
    (λ rest. expression_found owner names c.args.e c.in_ok-node.node (expression.Application c.in-Application.field-0 c.in-Application.function c.in-Application.arguments) c.args.found.now.items c.expressions.new.found.items (c.in_ok-node.ensures.meaning names) c.in-Application.is (adds_both (c.in_ok-expression-in-Application.ensures owner names of.1) rest))
    (subst (λ (xs : List Expression). All (ExpressionIsOf owner names) xs → OnOk c.expressions.result (Adds owner names c.expression.new.found.items (in_expressions names xs) c.expressions.new.found.items)) c.as_slice.ensures.value (c.expressions.ensures owner names) of.2)

pub expression-returns-in_ok-expression-in-Operators : goal.expression-returns-in_ok-expression-in-Operators
expression-returns-in_ok-expression-in-Operators t c owner names is =
    let of = subst (ExpressionNodeIsOf owner names) c.in-Operators.is (c.in_ok-node.ensures.owned owner names is) in
    on_ok c.operands.result
    (λ rest. expression_found owner names c.args.e c.in_ok-node.node (expression.Operators c.in-Operators.items) c.args.found.now.items c.operands.new.found.items (c.in_ok-node.ensures.meaning names) c.in-Operators.is (adds_both (c.in_ok-expression-in-Operators.ensures owner names of.2) rest))
    (subst (λ (xs : List OperatorItem). All (OperatorItemIsOf owner names) xs → OnOk c.operands.result (Adds owner names c.expression-in-Operators.new.found.items (in_operands names xs) c.operands.new.found.items)) c.as_slice-in-Operators.ensures.value (c.operands.ensures owner names) of.3)

pub expression-returns-in-Lambda : goal.expression-returns-in-Lambda
expression-returns-in-Lambda t c owner names is =
    let of = subst (ExpressionNodeIsOf owner names) c.in-Lambda.is (c.in_ok-node.ensures.owned owner names is) in
    on_ok c.expression-in-Lambda.result
    (expression_found owner names c.args.e c.in_ok-node.node (expression.Lambda c.in-Lambda.field-0 c.in-Lambda._parameters c.in-Lambda.body) c.args.found.now.items c.expression-in-Lambda.new.found.items (c.in_ok-node.ensures.meaning names) c.in-Lambda.is)
    (c.expression-in-Lambda.ensures owner names of.2)

pub expression-returns-in_ok-declarations-in-Let : goal.expression-returns-in_ok-declarations-in-Let
expression-returns-in_ok-declarations-in-Let t c owner names is =
    let of = subst (ExpressionNodeIsOf owner names) c.in-Let.is (c.in_ok-node.ensures.owned owner names is) in
    on_ok c.expression-in-Let.result
    (λ rest. expression_found owner names c.args.e c.in_ok-node.node (expression.Let c.in-Let.field-0 c.in-Let.ds c.in-Let.body) c.args.found.now.items c.expression-in-Let.new.found.items (c.in_ok-node.ensures.meaning names) c.in-Let.is (adds_both
    (subst (λ (xs : List Declaration). All (DeclarationIsOf owner names) xs → Adds owner names c.args.found.now.items (in_declarations names xs) c.declarations.new.found.items) c.as_slice-in-Let.ensures.value (c.in_ok-declarations-in-Let.ensures owner names) of.1) rest))
    (c.expression-in-Let.ensures owner names of.2)

pub expression-returns-in_ok-expression-in-If-2 : goal.expression-returns-in_ok-expression-in-If-2
expression-returns-in_ok-expression-in-If-2 t c owner names is =
    let of = subst (ExpressionNodeIsOf owner names) c.in-If.is (c.in_ok-node.ensures.owned owner names is) in
    on_ok c.expression-in-If-3.result
    (λ last. expression_found owner names c.args.e c.in_ok-node.node (expression.If c.in-If.field-0 c.in-If.condition c.in-If.chosen c.in-If.other) c.args.found.now.items c.expression-in-If-3.new.found.items (c.in_ok-node.ensures.meaning names) c.in-If.is (adds_both (c.in_ok-expression-in-If.ensures owner names of.1) (adds_both (c.in_ok-expression-in-If-2.ensures owner names of.2) last)))
    (c.expression-in-If-3.ensures owner names of.3)

pub expression-returns-in_ok-expression-in-Case : goal.expression-returns-in_ok-expression-in-Case
expression-returns-in_ok-expression-in-Case t c owner names is =
    let of = subst (ExpressionNodeIsOf owner names) c.in-Case.is (c.in_ok-node.ensures.owned owner names is) in
    on_ok c.alternatives.result
    (λ rest. expression_found owner names c.args.e c.in_ok-node.node (expression.Case c.in-Case.field-0 c.in-Case.field-1 c.in-Case.subject c.in-Case.cases) c.args.found.now.items c.alternatives.new.found.items (c.in_ok-node.ensures.meaning names) c.in-Case.is (adds_both (c.in_ok-expression-in-Case.ensures owner names of.1) rest))
    (subst (λ (xs : List Alternative). All (AlternativeIsOf owner names) xs → OnOk c.alternatives.result (Adds owner names c.expression-in-Case.new.found.items (in_alternatives names xs) c.alternatives.new.found.items)) c.as_slice-in-Case.ensures.value (c.alternatives.ensures owner names) of.2)

pub expression-returns-in-Tuple : goal.expression-returns-in-Tuple
expression-returns-in-Tuple t c owner names is =
    let of = subst (ExpressionNodeIsOf owner names) c.in-Tuple.is (c.in_ok-node.ensures.owned owner names is) in
    on_ok c.expressions-in-Tuple.result
    (expression_found owner names c.args.e c.in_ok-node.node (expression.Tuple c.in-Tuple.field-0 c.in-Tuple.components) c.args.found.now.items c.expressions-in-Tuple.new.found.items (c.in_ok-node.ensures.meaning names) c.in-Tuple.is)
    (subst (λ (xs : List Expression). All (ExpressionIsOf owner names) xs → OnOk c.expressions-in-Tuple.result (Adds owner names c.args.found.now.items (in_expressions names xs) c.expressions-in-Tuple.new.found.items)) c.as_slice-in-Tuple.ensures.value (c.expressions-in-Tuple.ensures owner names) of.1)

pub expression-returns-in-LeftSection : goal.expression-returns-in-LeftSection
expression-returns-in-LeftSection t c owner names is =
    let of = subst (ExpressionNodeIsOf owner names) c.in-LeftSection.is (c.in_ok-node.ensures.owned owner names is) in
    on_ok c.expression-in-LeftSection.result
    (expression_found owner names c.args.e c.in_ok-node.node (expression.LeftSection c.in-LeftSection.field-0 c.in-LeftSection.operand c.in-LeftSection.field-2) c.args.found.now.items c.expression-in-LeftSection.new.found.items (c.in_ok-node.ensures.meaning names) c.in-LeftSection.is)
    (c.expression-in-LeftSection.ensures owner names of.1)

pub expression-returns-in-RightSection : goal.expression-returns-in-RightSection
expression-returns-in-RightSection t c owner names is =
    let of = subst (ExpressionNodeIsOf owner names) c.in-RightSection.is (c.in_ok-node.ensures.owned owner names is) in
    on_ok c.expression-in-RightSection.result
    (expression_found owner names c.args.e c.in_ok-node.node (expression.RightSection c.in-RightSection.field-0 c.in-RightSection.field-1 c.in-RightSection.operand) c.args.found.now.items c.expression-in-RightSection.new.found.items (c.in_ok-node.ensures.meaning names) c.in-RightSection.is)
    (c.expression-in-RightSection.ensures owner names of.2)

pub expression-returns-in-List : goal.expression-returns-in-List
expression-returns-in-List t c owner names is =
    let of = subst (ExpressionNodeIsOf owner names) c.in-List.is (c.in_ok-node.ensures.owned owner names is) in
    on_ok c.expressions-in-List.result
    (expression_found owner names c.args.e c.in_ok-node.node (expression.List c.in-List.field-0 c.in-List.elements) c.args.found.now.items c.expressions-in-List.new.found.items (c.in_ok-node.ensures.meaning names) c.in-List.is)
    (subst (λ (xs : List Expression). All (ExpressionIsOf owner names) xs → OnOk c.expressions-in-List.result (Adds owner names c.args.found.now.items (in_expressions names xs) c.expressions-in-List.new.found.items)) c.as_slice-in-List.ensures.value (c.expressions-in-List.ensures owner names) of.1)

pub expression-returns-in-Enumeration : goal.expression-returns-in-Enumeration
expression-returns-in-Enumeration t c owner names is =
    let of = subst (ExpressionNodeIsOf owner names) c.in-Enumeration.is (c.in_ok-node.ensures.owned owner names is) in
    on_ok c.enumeration.result
    (expression_found owner names c.args.e c.in_ok-node.node (expression.Enumeration c.in-Enumeration.field-0 c.in-Enumeration.numbers) c.args.found.now.items c.enumeration.new.found.items (c.in_ok-node.ensures.meaning names) c.in-Enumeration.is)
    (c.enumeration.ensures owner names of.1)

pub expression-returns-in_ok-expression-in-Comprehension : goal.expression-returns-in_ok-expression-in-Comprehension
expression-returns-in_ok-expression-in-Comprehension t c owner names is =
    let of = subst (ExpressionNodeIsOf owner names) c.in-Comprehension.is (c.in_ok-node.ensures.owned owner names is) in
    on_ok c.qualifiers.result
    (λ rest. expression_found owner names c.args.e c.in_ok-node.node (expression.Comprehension c.in-Comprehension.field-0 c.in-Comprehension.element c.in-Comprehension.qs) c.args.found.now.items c.qualifiers.new.found.items (c.in_ok-node.ensures.meaning names) c.in-Comprehension.is (adds_both (c.in_ok-expression-in-Comprehension.ensures owner names of.1) rest))
    (subst (λ (xs : List Qualifier). All (QualifierIsOf owner names) xs → OnOk c.qualifiers.result (Adds owner names c.expression-in-Comprehension.new.found.items (in_qualifiers names xs) c.qualifiers.new.found.items)) c.as_slice-in-Comprehension.ensures.value (c.qualifiers.ensures owner names) of.2)

pub expressions-expression-requires : goal.expressions-expression-requires
expressions-expression-requires t c = (search (rules, largest expression_size c.args.es.now c.loop-e.e-index, c.loop-e-test.true), tt)

pub expressions-loop-e-preserved : goal.expressions-loop-e-preserved
expressions-loop-e-preserved t c owner names after all rest =
    c.loop-e.invariant owner names after all
    (expressions_prefix (ExpressionIsOf owner names) owner names c.args.es.now c.loop-e.e-index c.e-item.result c.loop-e.found.items c.expression.new.found.items after c.e-item.is c.loop-e-test.true all
    (λ of. c.in_ok-expression.ensures owner names of) rest)

pub expressions-returns : goal.expressions-returns
expressions-returns t c owner names all =
    c.loop-e.invariant owner names c.loop-e.found.items all (expressions_end owner names c.args.es.now c.loop-e.e-index c.loop-e.found.items c.loop-e-test.false)

pub operands-expression-requires : goal.operands-expression-requires
operands-expression-requires t c = (search (rules, largest operator_item_size c.args.items.now c.loop-item.item-index, c.loop-item-test.true), tt)

pub operands-loop-item-preserved : goal.operands-loop-item-preserved
operands-loop-item-preserved t c owner names after all rest =
    c.loop-item.invariant owner names after all
    (operands_prefix (OperatorItemIsOf owner names) owner names c.args.items.now c.loop-item.item-index c.item-item.result c.loop-item.found.items c.expression.new.found.items after c.item-item.is c.loop-item-test.true all
    (λ of. c.in_ok-expression.ensures owner names of.2) rest)

pub operands-returns : goal.operands-returns
operands-returns t c owner names all =
    c.loop-item.invariant owner names c.loop-item.found.items all (operands_end owner names c.args.items.now c.loop-item.item-index c.loop-item.found.items c.loop-item-test.false)

pub alternatives-right_side-requires : goal.alternatives-right_side-requires
alternatives-right_side-requires t c = (search (rules, largest alternative_size c.args.cases.now c.loop-a.a-index, c.loop-a-test.true), tt)

pub alternatives-loop-a-preserved : goal.alternatives-loop-a-preserved
alternatives-loop-a-preserved t c owner names after all rest =
    c.loop-a.invariant owner names after all
    (alternatives_prefix (AlternativeIsOf owner names) owner names c.args.cases.now c.loop-a.a-index c.a-item.result c.loop-a.found.items c.right_side.new.found.items after c.a-item.is c.loop-a-test.true all
    (λ of. c.in_ok-right_side.ensures owner names of.2) rest)

pub alternatives-returns : goal.alternatives-returns
alternatives-returns t c owner names all =
    c.loop-a.invariant owner names c.loop-a.found.items all (alternatives_end owner names c.args.cases.now c.loop-a.a-index c.loop-a.found.items c.loop-a-test.false)

pub qualifiers-qualifier-requires : goal.qualifiers-qualifier-requires
qualifiers-qualifier-requires t c = (search (rules, largest qualifier_size c.args.qs.now c.loop-q.q-index, c.loop-q-test.true), tt)

pub qualifiers-loop-q-preserved : goal.qualifiers-loop-q-preserved
qualifiers-loop-q-preserved t c owner names after all rest =
    c.loop-q.invariant owner names after all
    (qualifiers_prefix (QualifierIsOf owner names) owner names c.args.qs.now c.loop-q.q-index c.q-item.result c.loop-q.found.items c.qualifier.new.found.items after c.q-item.is c.loop-q-test.true all
    (λ of. c.in_ok-qualifier.ensures owner names of) rest)

pub qualifiers-returns : goal.qualifiers-returns
qualifiers-returns t c owner names all =
    c.loop-q.invariant owner names c.loop-q.found.items all (qualifiers_end owner names c.args.qs.now c.loop-q.q-index c.loop-q.found.items c.loop-q-test.false)

pub guards-expression-requires : goal.guards-expression-requires
guards-expression-requires t c = (search (rules, largest guard_size c.args.cases.now c.loop-g.g-index, c.loop-g-test.true), tt)

pub guards-expression-requires-in-loop-g : goal.guards-expression-requires-in-loop-g
guards-expression-requires-in-loop-g t c = (search (rules, largest guard_size c.args.cases.now c.loop-g.g-index, c.loop-g-test.true), tt)

pub guards-loop-g-preserved : goal.guards-loop-g-preserved
guards-loop-g-preserved t c owner names after all rest =
    c.loop-g.invariant owner names after all
    (guards_prefix (GuardIsOf owner names) owner names c.args.cases.now c.loop-g.g-index c.g-item.result c.loop-g.found.items c.expression-in-loop-g.new.found.items after c.g-item.is c.loop-g-test.true all
    (λ of. adds_both (c.in_ok-expression.ensures owner names of.1) (c.in_ok-expression-2.ensures owner names of.2)) rest)

pub guards-returns : goal.guards-returns
guards-returns t c owner names all =
    c.loop-g.invariant owner names c.loop-g.found.items all (guards_end owner names c.args.cases.now c.loop-g.g-index c.loop-g.found.items c.loop-g-test.false)

pub declarations-declaration-requires : goal.declarations-declaration-requires
declarations-declaration-requires t c = (search (rules, largest declaration_size c.args.ds.now c.loop-d.d-index, c.loop-d-test.true), tt)

pub declarations-loop-d-preserved : goal.declarations-loop-d-preserved
declarations-loop-d-preserved t c owner names after all rest =
    c.loop-d.invariant owner names after all
    (declarations_prefix (DeclarationIsOf owner names) owner names c.args.ds.now c.loop-d.d-index c.d-item.result c.loop-d.found.items c.declaration.new.found.items after c.d-item.is c.loop-d-test.true all
    (λ of. c.in_ok-declaration.ensures owner names of) rest)

pub declarations-returns : goal.declarations-returns
declarations-returns t c owner names all =
    c.loop-d.invariant owner names c.loop-d.found.items all (declarations_end owner names c.args.ds.now c.loop-d.d-index c.loop-d.found.items c.loop-d-test.false)

pub enumeration-returns : goal.enumeration-returns
enumeration-returns t c owner names of =
    on_ok c.maybe-2.result (λ last. adds_both (c.in_ok-expression.ensures owner names of.0) (adds_both (c.in_ok-maybe.ensures owner names of.1) last))
    (c.maybe-2.ensures owner names of.2)

pub maybe-returns-in-None : goal.maybe-returns-in-None
maybe-returns-in-None t c owner names of = maybe_none owner names c.args.e c.args.found.now.items c.in-None.is

pub maybe-returns-in-Some : goal.maybe-returns-in-Some
maybe-returns-in-Some t c owner names of =
    on_ok c.expression.result (maybe_some owner names c.args.e c.in-Some.e c.args.found.now.items c.expression.new.found.items c.in-Some.is)
    (c.expression.ensures owner names (subst (λ m. IfSome m (ExpressionIsOf owner names)) c.in-Some.is of))

pub qualifier-returns-in-Generator : goal.qualifier-returns-in-Generator
qualifier-returns-in-Generator t c owner names is =
    let of = subst (QualifierIsOf owner names) c.in-Generator.is is in
    on_ok c.expression.result
    (qualifier_found owner names c.args.q.now (qualifier.Generator c.in-Generator.field-0 c.in-Generator.field-1 c.in-Generator.list) c.args.found.now.items c.expression.new.found.items c.in-Generator.is)
    (c.expression.ensures owner names of.2)

pub qualifier-returns-in-Declarations : goal.qualifier-returns-in-Declarations
qualifier-returns-in-Declarations t c owner names is =
    let of = subst (QualifierIsOf owner names) c.in-Declarations.is is in
    on_ok c.declarations.result
    (qualifier_found owner names c.args.q.now (qualifier.Declarations c.in-Declarations.field-0 c.in-Declarations.ds) c.args.found.now.items c.declarations.new.found.items c.in-Declarations.is)
    (subst (λ (xs : List Declaration). All (DeclarationIsOf owner names) xs → OnOk c.declarations.result (Adds owner names c.args.found.now.items (in_declarations names xs) c.declarations.new.found.items))
    c.as_slice.ensures.value (c.declarations.ensures owner names) of.1)

pub qualifier-returns-in-Condition : goal.qualifier-returns-in-Condition
qualifier-returns-in-Condition t c owner names is =
    let of = subst (QualifierIsOf owner names) c.in-Condition.is is in
    on_ok c.expression-in-Condition.result
    (qualifier_found owner names c.args.q.now (qualifier.Condition c.in-Condition.field-0 c.in-Condition.condition) c.args.found.now.items c.expression-in-Condition.new.found.items c.in-Condition.is)
    (c.expression-in-Condition.ensures owner names of.1)

pub right_side-returns : goal.right_side-returns
right_side-returns t c owner names of =
    let ok = c.in_ok-node.ensures.owned owner names of in
    on_ok c.declarations.result
    (λ last. right_found owner names c.args.right c.in_ok-node.node c.args.found.now.items c.declarations.new.found.items (c.in_ok-node.ensures.meaning names)
    (adds_both (c.in_ok-body.ensures owner names ok.1) last))
    (subst (λ (xs : List Declaration). All (DeclarationIsOf owner names) xs → OnOk c.declarations.result (Adds owner names c.body.new.found.items (in_declarations names xs) c.declarations.new.found.items))
    c.as_slice.ensures.value (c.declarations.ensures owner names) ok.2)

pub body-returns-in-Plain : goal.body-returns-in-Plain
body-returns-in-Plain t c owner names is =
    subst (λ b. OnOk c.expression.result (Adds owner names c.args.found.now.items (in_body names b) c.expression.new.found.items)) (sym c.in-Plain.is)
    (c.expression.ensures owner names (subst (BodyIsOf owner names) c.in-Plain.is is))

pub body-returns-in-Guarded : goal.body-returns-in-Guarded
body-returns-in-Guarded t c owner names is =
    subst (λ b. OnOk c.guards.result (Adds owner names c.args.found.now.items (in_body names b) c.guards.new.found.items)) (sym c.in-Guarded.is)
    (subst (λ (xs : List Guard). All (GuardIsOf owner names) xs → OnOk c.guards.result (Adds owner names c.args.found.now.items (in_guards names xs) c.guards.new.found.items)) c.as_slice.ensures.value
    (c.guards.ensures owner names) (subst (BodyIsOf owner names) c.in-Guarded.is is))

pub declaration-returns-in-FreeVariables : goal.declaration-returns-in-FreeVariables
declaration-returns-in-FreeVariables t c owner names is =
    declaration_found owner names c.args.d c.in_ok-node.node (declaration.FreeVariables c.in-FreeVariables.field-0 c.in-FreeVariables._variables) c.args.found.now.items c.args.found.now.items
    (c.in_ok-node.ensures.meaning names) c.in-FreeVariables.is (adds_none owner names c.args.found.now.items)

pub declaration-returns-in-Signature : goal.declaration-returns-in-Signature
declaration-returns-in-Signature t c owner names is =
    let of = subst (DeclarationNodeIsOf owner names) c.in-Signature.is (c.in_ok-node.ensures.owned owner names is) in
    on_ok c.type_term.result
    (declaration_found owner names c.args.d c.in_ok-node.node (declaration.Signature c.in-Signature.field-0 c.in-Signature._functions c.in-Signature.t) c.args.found.now.items c.type_term.new.found.items
    (c.in_ok-node.ensures.meaning names) c.in-Signature.is)
    (c.type_term.ensures owner names of.2)

pub declaration-returns-in-FunctionRule : goal.declaration-returns-in-FunctionRule
declaration-returns-in-FunctionRule t c owner names is =
    let of = subst (DeclarationNodeIsOf owner names) c.in-FunctionRule.is (c.in_ok-node.ensures.owned owner names is) in
    on_ok c.right_side.result
    (declaration_found owner names c.args.d c.in_ok-node.node (declaration.FunctionRule c.in-FunctionRule.field-0 c.in-FunctionRule.field-1 c.in-FunctionRule._parameters c.in-FunctionRule.right) c.args.found.now.items c.right_side.new.found.items
    (c.in_ok-node.ensures.meaning names) c.in-FunctionRule.is)
    (c.right_side.ensures owner names of.3)

pub declaration-returns-in-PatternBinding : goal.declaration-returns-in-PatternBinding
declaration-returns-in-PatternBinding t c owner names is =
    let of = subst (DeclarationNodeIsOf owner names) c.in-PatternBinding.is (c.in_ok-node.ensures.owned owner names is) in
    on_ok c.right_side-in-PatternBinding.result
    (declaration_found owner names c.args.d c.in_ok-node.node (declaration.PatternBinding c.in-PatternBinding.field-0 c.in-PatternBinding.field-1 c.in-PatternBinding.right) c.args.found.now.items c.right_side-in-PatternBinding.new.found.items
    (c.in_ok-node.ensures.meaning names) c.in-PatternBinding.is)
    (c.right_side-in-PatternBinding.ensures owner names of.2)
