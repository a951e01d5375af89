use Rattle.std.proofs.Common.{◌+◌, ◌*◌, ℕ, List, drop}
use denote.Param.Weighed.{most}
use Rattle.std.specs.List.{All}
use Rattle.cu_names.specs.declared.names.NameId.{NameId}
use Rattle.cu_syntax.specs.Owners.{AlternativeIsOf, DeclarationIsOf, ExpressionIsOf, GuardIsOf, OperatorItemIsOf, QualifierIsOf}
use Rattle.cu_syntax.specs.Smaller.{alternative_size, body_size, declaration_size, enumeration_size, expression_size, guard_size, operator_item_size, qualifier_size, right_size, size_if_there}
use Rattle.cu_declared.specs.declared.found.TypeUse.{TypeUse}
use Rattle.cu_declared.specs.Inside.Gathered.{Adds, in_alternatives, in_declarations, in_expressions, in_guards, in_operands, in_qualifiers}
use Rattle.cu_declared.proofs.expressions.+signatures.Given as goal

abbrev pub decreases-expression : goal.decreases-expression
decreases-expression l = 4 * (expression_size l.e)

abbrev pub decreases-expressions : goal.decreases-expressions
decreases-expressions l = 4 * (most expression_size l.es.now) + 1

abbrev pub decreases-operands : goal.decreases-operands
decreases-operands l = 4 * (most operator_item_size l.items.now) + 1

abbrev pub decreases-alternatives : goal.decreases-alternatives
decreases-alternatives l = 4 * (most alternative_size l.cases.now) + 1

abbrev pub decreases-enumeration : goal.decreases-enumeration
decreases-enumeration l = 4 * (enumeration_size l.numbers)

abbrev pub decreases-maybe : goal.decreases-maybe
decreases-maybe l = 4 * (size_if_there l.e) + 1

abbrev pub decreases-qualifiers : goal.decreases-qualifiers
decreases-qualifiers l = 4 * (most qualifier_size l.qs.now) + 1

abbrev pub decreases-qualifier : goal.decreases-qualifier
decreases-qualifier l = 4 * (qualifier_size l.q.now)

abbrev pub decreases-right_side : goal.decreases-right_side
decreases-right_side l = 4 * (right_size l.right)

abbrev pub decreases-body : goal.decreases-body
decreases-body l = 4 * (body_size l.b.now)

abbrev pub decreases-guards : goal.decreases-guards
decreases-guards l = 4 * (most guard_size l.cases.now) + 1

abbrev pub decreases-declarations : goal.decreases-declarations
decreases-declarations l = 4 * (most declaration_size l.ds.now) + 1

abbrev pub decreases-declaration : goal.decreases-declaration
decreases-declaration l = 4 * (declaration_size l.d)

abbrev pub invariant-expressions-loop-e : goal.invariant-expressions-loop-e
invariant-expressions-loop-e l =
    (owner : NameId) (names : List (List ℕ)) (after : List TypeUse) → All (ExpressionIsOf owner names) l.es
    → Adds owner names l.found.items (in_expressions names (drop l.e-index l.es)) after → Adds owner names l.fn.found.items (in_expressions names l.es) after

abbrev pub invariant-operands-loop-item : goal.invariant-operands-loop-item
invariant-operands-loop-item l =
    (owner : NameId) (names : List (List ℕ)) (after : List TypeUse) → All (OperatorItemIsOf owner names) l.items
    → Adds owner names l.found.items (in_operands names (drop l.item-index l.items)) after → Adds owner names l.fn.found.items (in_operands names l.items) after

abbrev pub invariant-alternatives-loop-a : goal.invariant-alternatives-loop-a
invariant-alternatives-loop-a l =
    (owner : NameId) (names : List (List ℕ)) (after : List TypeUse) → All (AlternativeIsOf owner names) l.cases
    → Adds owner names l.found.items (in_alternatives names (drop l.a-index l.cases)) after → Adds owner names l.fn.found.items (in_alternatives names l.cases) after

abbrev pub invariant-qualifiers-loop-q : goal.invariant-qualifiers-loop-q
invariant-qualifiers-loop-q l =
    (owner : NameId) (names : List (List ℕ)) (after : List TypeUse) → All (QualifierIsOf owner names) l.qs
    → Adds owner names l.found.items (in_qualifiers names (drop l.q-index l.qs)) after → Adds owner names l.fn.found.items (in_qualifiers names l.qs) after

abbrev pub invariant-guards-loop-g : goal.invariant-guards-loop-g
invariant-guards-loop-g l =
    (owner : NameId) (names : List (List ℕ)) (after : List TypeUse) → All (GuardIsOf owner names) l.cases
    → Adds owner names l.found.items (in_guards names (drop l.g-index l.cases)) after → Adds owner names l.fn.found.items (in_guards names l.cases) after

abbrev pub invariant-declarations-loop-d : goal.invariant-declarations-loop-d
invariant-declarations-loop-d l =
    (owner : NameId) (names : List (List ℕ)) (after : List TypeUse) → All (DeclarationIsOf owner names) l.ds
    → Adds owner names l.found.items (in_declarations names (drop l.d-index l.ds)) after → Adds owner names l.fn.found.items (in_declarations names l.ds) after
