use Rattle.std.proofs.Common.{◌≡◌, ◌+◌, ◌*◌, ◌||◌, ℕ, List, drop, max}
use denote.Param.Weighed.{most}
use Rattle.std.specs.List.{All, list_any}
use Rattle.cu_names.specs.Texts.{IsKnown, text_of}
use Rattle.cu_names.specs.declared.names.NameId.{NameId}
use Rattle.cu_syntax.specs.declared.name.Name.{Name}
use Rattle.cu_syntax.specs.Owners.{AlternativeIsOf, DeclarationIsOf, ExpressionIsOf, GuardIsOf, NameIsOf, OperatorItemIsOf, QualifierIsOf}
use Rattle.cu_syntax.specs.Smaller.{alternative_size, body_size, declaration_size, enumeration_size, expression_size, guard_size, operator_item_size, qualifier_size, right_size, size_if_there}
use Rattle.cu_uses.specs.declared.first_fault.FirstFault.{FirstFault}
use Rattle.cu_uses.specs.Binders.{is_among}
use Rattle.cu_uses.specs.Inside.Asked.{alternatives_ask, declarations_ask, expressions_ask, guards_ask, operands_ask, qualifiers_ask}
use Rattle.cu_uses.specs.Inside.Scopes.{Sees, has_text, is_local, or_among}
use Rattle.cu_uses.specs.Inside.Worlds.{Told, World}
use Rattle.cu_uses.proofs.expressions.+uses.Given as goal

abbrev pub decreases-expression : goal.decreases-expression
decreases-expression l = 4 * (expression_size l.e)

abbrev pub decreases-expressions : goal.decreases-expressions
decreases-expressions l = 4 * (most expression_size l.es.now) + 1

abbrev pub decreases-operands : goal.decreases-operands
decreases-operands l = 4 * (most operator_item_size l.items.now) + 1

abbrev pub decreases-function_rule : goal.decreases-function_rule
decreases-function_rule l = 4 * (right_size l.right) + 1

abbrev pub decreases-pattern_binding : goal.decreases-pattern_binding
decreases-pattern_binding l = 4 * (right_size l.right) + 1

abbrev pub decreases-lambda : goal.decreases-lambda
decreases-lambda l = 4 * (expression_size l.body) + 1

abbrev pub decreases-let_in : goal.decreases-let_in
decreases-let_in l = 4 * (max (most declaration_size l.ds.now) (expression_size l.body)) + 2

abbrev pub decreases-alternatives : goal.decreases-alternatives
decreases-alternatives l = 4 * (most alternative_size l.cases.now) + 1

abbrev pub decreases-alternative : goal.decreases-alternative
decreases-alternative l = 4 * (alternative_size l.a)

abbrev pub decreases-enumeration : goal.decreases-enumeration
decreases-enumeration l = 4 * (enumeration_size l.numbers)

abbrev pub decreases-maybe : goal.decreases-maybe
decreases-maybe l = 4 * (size_if_there l.e) + 1

abbrev pub decreases-comprehension : goal.decreases-comprehension
decreases-comprehension l = 4 * (max (expression_size l.element) (most qualifier_size l.qualifiers.now)) + 1

abbrev pub decreases-qualifier : goal.decreases-qualifier
decreases-qualifier l = 4 * (qualifier_size l.q.now)

abbrev pub decreases-right_side : goal.decreases-right_side
decreases-right_side l = 4 * (right_size l.right)

abbrev pub decreases-body : goal.decreases-body
decreases-body l = 4 * (body_size l.b.now)

abbrev pub decreases-guards : goal.decreases-guards
decreases-guards l = 4 * (most guard_size l.cases.now) + 1

abbrev pub decreases-declarations : goal.decreases-declarations
decreases-declarations l = 4 * (most declaration_size l.ds.now) + 1

abbrev pub decreases-declaration : goal.decreases-declaration
decreases-declaration l = 4 * (declaration_size l.d)

abbrev pub invariant-expressions-loop-e : goal.invariant-expressions-loop-e
invariant-expressions-loop-e l =
    (w : World) (local : List (List ℕ)) (after : FirstFault) → Sees w local l.scope → All (ExpressionIsOf w.owner w.names) l.es
    → Told w l.first (expressions_ask w.names local (drop l.e-index l.es)) after → Told w l.fn.first (expressions_ask w.names local l.es) after

abbrev pub invariant-operands-loop-item : goal.invariant-operands-loop-item
invariant-operands-loop-item l =
    (w : World) (local : List (List ℕ)) (after : FirstFault) → Sees w local l.scope → All (OperatorItemIsOf w.owner w.names) l.items
    → Told w l.first (operands_ask w.names local (drop l.item-index l.items)) after → Told w l.fn.first (operands_ask w.names local l.items) after

abbrev pub invariant-alternatives-loop-a : goal.invariant-alternatives-loop-a
invariant-alternatives-loop-a l =
    (w : World) (local : List (List ℕ)) (after : FirstFault) → Sees w local l.scope → All (AlternativeIsOf w.owner w.names) l.cases
    → Told w l.first (alternatives_ask w.names local (drop l.a-index l.cases)) after → Told w l.fn.first (alternatives_ask w.names local l.cases) after

abbrev pub invariant-guards-loop-g : goal.invariant-guards-loop-g
invariant-guards-loop-g l =
    (w : World) (local : List (List ℕ)) (after : FirstFault) → Sees w local l.scope → All (GuardIsOf w.owner w.names) l.cases
    → Told w l.first (guards_ask w.names local (drop l.g-index l.cases)) after → Told w l.fn.first (guards_ask w.names local l.cases) after

abbrev pub invariant-declarations-loop-d : goal.invariant-declarations-loop-d
invariant-declarations-loop-d l =
    (w : World) (local : List (List ℕ)) (after : FirstFault) → Sees w local l.scope → All (DeclarationIsOf w.owner w.names) l.ds
    → Told w l.first (declarations_ask w.names local (drop l.d-index l.ds)) after → Told w l.fn.first (declarations_ask w.names local l.ds) after

-- the scope that is reached, and what is left there
abbrev pub invariant-comprehension-loop-q : goal.invariant-comprehension-loop-q
invariant-comprehension-loop-q l =
    (w : World) (local : List (List ℕ)) → Sees w local l.scope → All (QualifierIsOf w.owner w.names) l.qualifiers
    → (inner : List (List ℕ)) × All (NameIsOf w.owner w.names) l.names.items
    × ((id : NameId) → IsKnown w.names id → or_among l.names.items (is_local l.scope) id ≡ is_among inner (text_of w.names id))
    × ((after : FirstFault) → Told w l.first (qualifiers_ask w.names inner l.element (drop l.q-index l.qualifiers)) after → Told w l.fn.first (qualifiers_ask w.names local l.element l.qualifiers) after)
