-- Definitions of a block, guards, and what stands around the rest of a comprehension.
use Rattle.std.specs.Prelude.{ℕ, Bool, not, List, [], ◌∷◌, Option, None, Some, codes, map, slice_get}
use Rattle.std.specs.List.{list_any}
use Rattle.cu_calculus.specs.Term as calculus
use Rattle.cu_kernel.specs.LocalTerm as local
use Rattle.cu_kernel.specs.LocalTermsOf.{local_term_of}
use Rattle.cu_kernel.specs.TermsOf.{pattern_of}
use Rattle.cu_kernel.specs.declared.local.LocalTerm.{LocalTerm}
use Rattle.cu_kernel.specs.declared.term.Pattern.{Pattern}
use Rattle.cu_syntax.specs.declared.name.Name.{Name}
use Rattle.cu_uses.specs.Gathered.{names_meaning}
use Rattle.cu_translation.specs.Around.{Names}
use Rattle.cu_translation.specs.Blocks as definitions
use Rattle.cu_translation.specs.Blocks.{with_free}
use Rattle.cu_translation.specs.LocalNames.{Binder, same_binder}
use Rattle.cu_translation.specs.Meaning.{Setting, binder_meaning}
use Rattle.cu_forms.specs.declared.blocks.Bound.{Bound}
use Rattle.cu_forms.specs.declared.layers.Layer.{Layer}
use Rattle.cu_forms.specs.declared.layers.Layer.TheVariants as layer
use Rattle.cu_forms.specs.Forms.{block_term}
use Rattle.cu_forms.specs.Inside.Calls.{built_in_term}
use Rattle.cu_forms.specs.Inside.Lists.{distinction, list_term}

abbrev pub bound_meaning : Bound → definitions.Bound
bound_meaning b = definitions.bound (binder_meaning b.variable) (local_term_of b.definition)

abbrev pub bounds_meaning : List Bound → List definitions.Bound
bounds_meaning bounds = map bound_meaning bounds

-- a term in which these variables are free
abbrev pub with_free_names : Setting → List Name → local.LocalTerm → local.LocalTerm
with_free_names w free t = with_free w.around (names_meaning w.names free) t

-- ---- the order of definitions

-- the definition at an index, if there is one
abbrev pub chosen : List definitions.Bound → Option ℕ → Option definitions.Bound
chosen bounds None = None
chosen bounds (Some i) = slice_get bounds i

-- whether the definition of a variable depends on none of these
abbrev pub depends_on_none : (Binder → Binder → Bool) → Binder → List definitions.Bound → Bool
depends_on_none depends x bounds =
    not (list_any (λ (c : definitions.Bound). depends x c.variable) bounds)

-- whether a definition is that of another variable
abbrev pub is_of_other : Binder → definitions.Bound → Bool
is_of_other x b = not (same_binder x b.variable)

-- ---- guards, and alternatives

-- the condition and the expression that a guard of the code stands for
abbrev pub guard_meaning : LocalTerm × LocalTerm → local.LocalTerm × local.LocalTerm
guard_meaning g = (local_term_of g.0, local_term_of g.1)

abbrev pub before_guards : Names → List (local.LocalTerm × local.LocalTerm) → local.LocalTerm
    → local.LocalTerm
before_guards names [] other = other
before_guards names (g ∷ guards) other =
    distinction names g.0 g.1 (before_guards names guards other)

-- the expression of the first condition that is True, and `failed` where there is none
abbrev pub guards_term : Names → List (local.LocalTerm × local.LocalTerm) → local.LocalTerm
guards_term names guards = before_guards names guards (built_in_term names (codes "failed") [])

abbrev pub row_meaning : Pattern × LocalTerm → calculus.Pattern × local.LocalTerm
row_meaning row = (pattern_of row.0, local_term_of row.1)

-- ---- comprehensions

-- the rest of a comprehension inside a condition or a block
abbrev pub layer_around : Setting → Layer → local.LocalTerm → local.LocalTerm
layer_around w (layer.Condition c) rest =
    distinction w.around.names (local_term_of c) rest (list_term w.around.names [])
layer_around w (layer.Block free bounds) rest =
    block_term w (names_meaning w.names free.items) (bounds_meaning bounds.items) rest

abbrev pub layers_around : Setting → List Layer → local.LocalTerm → local.LocalTerm
layers_around w [] rest = rest
layers_around w (l ∷ layers) rest = layer_around w l (layers_around w layers rest)
