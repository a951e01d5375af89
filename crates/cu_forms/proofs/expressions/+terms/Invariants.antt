use Rattle.std.proofs.Common.{◌≡◌, ◌+◌, ◌*◌, ◌++◌, drop, map, max}
use denote.Param.Weighed.{most}
use Rattle.std.specs.List.{All}
use Rattle.cu_fixity.specs.Owners.{PartIsOf, part_size}
use Rattle.cu_kernel.specs.LocalTermsOf.{local_term_of}
use Rattle.cu_syntax.specs.Owners.{AlternativeIsOf, DeclarationIsOf, ExpressionIsOf, GuardIsOf, QualifierIsOf}
use Rattle.cu_syntax.specs.Smaller.{alternative_size, body_size, declaration_size, enumeration_size, expression_size, guard_size, items_size, qualifier_size, right_size, size_if_there}
use Rattle.cu_translation.specs.LocalNames as definitions
use Rattle.cu_translation.specs.Meaning.{Setting}
use Rattle.cu_forms.specs.Forms.{alternative_form, expression_form, guard_form}
use Rattle.cu_forms.specs.Scopes.{Sees}
use Rattle.cu_forms.specs.Inside.Blocks.{guard_meaning, row_meaning}
use Rattle.cu_forms.specs.Operands.{item_meaning, part_item}
use Rattle.cu_forms.proofs.DefinitionLemmas.{Defined}
use Rattle.cu_forms.proofs.QualifierLemmas.{Wraps}
use Rattle.cu_forms.proofs.expressions.+terms.Given as goal

abbrev pub decreases-term : goal.decreases-term
decreases-term g l = 4 * expression_size l.e

abbrev pub decreases-terms : goal.decreases-terms
decreases-terms g l = 4 * most expression_size l.es.now + 1

abbrev pub decreases-application : goal.decreases-application
decreases-application g l = 4 * max (expression_size l.function) (most expression_size l.arguments.now) + 3

abbrev pub decreases-operators : goal.decreases-operators
decreases-operators g l = 4 * items_size l.items.now

abbrev pub decreases-operands : goal.decreases-operands
decreases-operands g l = 4 * most (part_size expression_size) l.ordered.now + 3

abbrev pub decreases-part : goal.decreases-part
decreases-part g l = 4 * part_size expression_size l.one + 2

abbrev pub decreases-operand : goal.decreases-operand
decreases-operand g l = 4 * expression_size l.e + 1

abbrev pub decreases-alternatives : goal.decreases-alternatives
decreases-alternatives g l = 4 * most alternative_size l.cases.now + 1

abbrev pub decreases-alternative : goal.decreases-alternative
decreases-alternative g l = 4 * alternative_size l.case

abbrev pub decreases-let_in : goal.decreases-let_in
decreases-let_in g l = 4 * max (most declaration_size l.ds.now) (expression_size l.body) + 3

abbrev pub decreases-local_block : goal.decreases-local_block
decreases-local_block g l = 4 * most declaration_size l.ds.now + 2

abbrev pub decreases-enumeration : goal.decreases-enumeration
decreases-enumeration g l = 4 * enumeration_size l.numbers

abbrev pub decreases-maybe : goal.decreases-maybe
decreases-maybe g l = 4 * size_if_there l.e + 1

abbrev pub decreases-right_side : goal.decreases-right_side
decreases-right_side g l = 4 * right_size l.right

abbrev pub decreases-body : goal.decreases-body
decreases-body g l = 4 * body_size l.b.now

abbrev pub decreases-guards : goal.decreases-guards
decreases-guards g l = 4 * most guard_size l.cases.now + 1

abbrev pub decreases-guard : goal.decreases-guard
decreases-guard g l = 4 * guard_size l.case

abbrev pub decreases-lets : goal.decreases-lets
decreases-lets g l = 4 * most declaration_size l.ds.now + 1

abbrev pub decreases-define : goal.decreases-define
decreases-define g l = 4 * declaration_size l.following.d

abbrev pub decreases-comprehension : goal.decreases-comprehension
decreases-comprehension g l = 4 * max (expression_size l.element) (most qualifier_size l.qualifiers.now) + 1

abbrev pub decreases-generated : goal.decreases-generated
decreases-generated g l = 4 * expression_size l.elements + 1

abbrev pub invariant-terms-loop-e : goal.invariant-terms-loop-e
invariant-terms-loop-e g l =
    (w : Setting) (local : definitions.Scope) → g.A.Surroundings.tells l.around w → Sees w local l.scope → All (ExpressionIsOf w.owner w.names) l.es
    → map local_term_of l.found.items ++ map (expression_form w local) (drop l.e-index l.es) ≡ map (expression_form w local) l.es

abbrev pub invariant-operands-loop-one : goal.invariant-operands-loop-one
invariant-operands-loop-one g l =
    (w : Setting) (local : definitions.Scope) → g.A.Surroundings.tells l.around w → Sees w local l.scope → All (PartIsOf ExpressionIsOf w.owner w.names) l.ordered
    → map item_meaning l.found.items ++ map (part_item w local) (drop l.one-index l.ordered) ≡ map (part_item w local) l.ordered

abbrev pub invariant-alternatives-loop-case : goal.invariant-alternatives-loop-case
invariant-alternatives-loop-case g l =
    (w : Setting) (local : definitions.Scope) → g.A.Surroundings.tells l.around w → Sees w local l.scope → All (AlternativeIsOf w.owner w.names) l.cases
    → map row_meaning l.rows.items ++ map (alternative_form w local) (drop l.case-index l.cases) ≡ map (alternative_form w local) l.cases

abbrev pub invariant-guards-loop-case : goal.invariant-guards-loop-case
invariant-guards-loop-case g l =
    (w : Setting) (local : definitions.Scope) → g.A.Surroundings.tells l.around w → Sees w local l.scope → All (GuardIsOf w.owner w.names) l.cases
    → map guard_meaning l.rows.items ++ map (guard_form w local) (drop l.case-index l.cases) ≡ map (guard_form w local) l.cases

abbrev pub invariant-lets-loop-d : goal.invariant-lets-loop-d
invariant-lets-loop-d g l =
    (w : Setting) (local : definitions.Scope) → g.A.Surroundings.tells l.around w → Sees w local l.scope → All (DeclarationIsOf w.owner w.names) l.ds
    → Defined w local l.begun l.found.items (drop l.d-index l.ds) l.ds

abbrev pub invariant-comprehension-loop-q : goal.invariant-comprehension-loop-q
invariant-comprehension-loop-q g l =
    (w : Setting) (local : definitions.Scope) → g.A.Surroundings.tells l.around w → Sees w local l.scope → All (QualifierIsOf w.owner w.names) l.qualifiers
    → Wraps w local l.element l.entries.items l.layers.items (drop l.q-index l.qualifiers) l.qualifiers
