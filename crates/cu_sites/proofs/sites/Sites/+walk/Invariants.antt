use Rattle.std.proofs.Common.{◌+◌, ◌*◌, drop, max}
use denote.Param.Weighed.{most}
use Rattle.std.specs.List.{All}
use Rattle.cu_syntax.specs.Owners.{AlternativeIsOf, DeclarationIsOf, ExpressionIsOf, GuardIsOf, OperatorItemIsOf}
use Rattle.cu_syntax.specs.Smaller.{alternative_size, body_size, declaration_size, enumeration_size, expression_size, guard_size, operator_item_size, qualifier_size, right_size, size_if_there}
use Rattle.cu_syntax.specs.Syntax as syntax
use Rattle.cu_translation.specs.Sites.{Spot}
use Rattle.cu_locals.specs.Text.{Text}
use Rattle.cu_sites.specs.Inside.Entering.{IsAt, Written}
use Rattle.cu_sites.specs.Inside.Walked.{IsComprehension, IsInner, alternatives_have, expressions_have, guards_have, operands_have, qualifiers_have}
use Rattle.cu_sites.proofs.WalkLemmas.{AtDeclaration, AtQualifier}
use Rattle.cu_sites.proofs.sites.Sites.+walk.Given as goal

abbrev pub decreases-applied : goal.decreases-applied
decreases-applied l = 4 * expression_size l.e

abbrev pub decreases-expression : goal.decreases-expression
decreases-expression l = 4 * expression_size l.e + 1

abbrev pub decreases-expressions : goal.decreases-expressions
decreases-expressions l = 4 * most expression_size l.es.now + 2

abbrev pub decreases-operands : goal.decreases-operands
decreases-operands l = 4 * most operator_item_size l.items.now + 2

abbrev pub decreases-lambda : goal.decreases-lambda
decreases-lambda l = 4 * expression_size l.lambda.body + 2

abbrev pub decreases-let_in : goal.decreases-let_in
decreases-let_in l = 4 * max (most declaration_size l.ds.now) (expression_size l.body) + 3

abbrev pub decreases-alternatives : goal.decreases-alternatives
decreases-alternatives l = 4 * most alternative_size l.cases.now + 2

abbrev pub decreases-alternative : goal.decreases-alternative
decreases-alternative l = 4 * alternative_size l.a

abbrev pub decreases-enumeration : goal.decreases-enumeration
decreases-enumeration l = 4 * enumeration_size l.numbers

abbrev pub decreases-maybe : goal.decreases-maybe
decreases-maybe l = 4 * size_if_there l.e + 2

abbrev pub decreases-comprehension : goal.decreases-comprehension
decreases-comprehension l = 4 * max (expression_size l.found.element) (most qualifier_size l.found.qualifiers.now) + 3

abbrev pub decreases-qualifiers : goal.decreases-qualifiers
decreases-qualifiers l = 4 * most qualifier_size l.qualifiers.now + 2

abbrev pub decreases-qualifier : goal.decreases-qualifier
decreases-qualifier l = 4 * qualifier_size l.q.now

abbrev pub decreases-right_side : goal.decreases-right_side
decreases-right_side l = 4 * right_size l.right

abbrev pub decreases-body : goal.decreases-body
decreases-body l = 4 * body_size l.b.now

abbrev pub decreases-guards : goal.decreases-guards
decreases-guards l = 4 * most guard_size l.cases.now + 2

abbrev pub decreases-declarations : goal.decreases-declarations
decreases-declarations l = 4 * most declaration_size l.ds.now + 2

abbrev pub decreases-declaration : goal.decreases-declaration
decreases-declaration l = 4 * declaration_size l.d

abbrev pub decreases-rule : goal.decreases-rule
decreases-rule l = 4 * right_size l.rule.right + 2

abbrev pub decreases-function_rule : goal.decreases-function_rule
decreases-function_rule l = 4 * right_size l.rule.right + 1

abbrev pub decreases-definition : goal.decreases-definition
decreases-definition l = 4 * right_size l.right + 1

abbrev pub invariant-expressions-loop-e : goal.invariant-expressions-loop-e
invariant-expressions-loop-e l =
    (t : Text) (spot : Spot) → IsAt t l.fn.self l.at spot → All (ExpressionIsOf t.owner t.names) l.es
    → Written t l.fn.self (expressions_have t.names spot (drop l.e-index l.es)) (expressions_have t.names spot l.es) l.self

abbrev pub invariant-operands-loop-item : goal.invariant-operands-loop-item
invariant-operands-loop-item l =
    (t : Text) (spot : Spot) → IsAt t l.fn.self l.at spot → All (OperatorItemIsOf t.owner t.names) l.items
    → Written t l.fn.self (operands_have t.names spot (drop l.item-index l.items)) (operands_have t.names spot l.items) l.self

abbrev pub invariant-alternatives-loop-a : goal.invariant-alternatives-loop-a
invariant-alternatives-loop-a l =
    (t : Text) (spot : Spot) → IsAt t l.fn.self l.at spot → All (AlternativeIsOf t.owner t.names) l.cases
    → Written t l.fn.self (alternatives_have t.names spot (drop l.a-index l.cases)) (alternatives_have t.names spot l.cases) l.self

abbrev pub invariant-guards-loop-g : goal.invariant-guards-loop-g
invariant-guards-loop-g l =
    (t : Text) (spot : Spot) → IsAt t l.fn.self l.at spot → All (GuardIsOf t.owner t.names) l.cases
    → Written t l.fn.self (guards_have t.names spot (drop l.g-index l.cases)) (guards_have t.names spot l.cases) l.self

abbrev pub invariant-qualifiers-loop-i : goal.invariant-qualifiers-loop-i
invariant-qualifiers-loop-i l =
    (t : Text) (spot : Spot) (element : syntax.Expression) → IsAt t l.fn.self l.fn.at spot → IsComprehension t l.whole element l.qualifiers
    → AtQualifier t l.fn.self element (qualifiers_have t.names spot element l.qualifiers) l.qualifiers l.i l.before l.self

abbrev pub invariant-declarations-loop-i : goal.invariant-declarations-loop-i
invariant-declarations-loop-i l =
    (t : Text) (spot : Spot) (block : syntax.Declarations) → IsInner t l.fn.self l.inner spot block → All (DeclarationIsOf t.owner t.names) l.ds
    → AtDeclaration t l.fn.self spot block l.ds l.i l.begun l.self
