-- Blocks of local declarations: the free variables, and inside these the other variables, each
-- after those on which its definition depends.
use Rattle.std.specs.Prelude.{ℕ, zero, suc, Bool, not, List, [], ◌∷◌, ◌++◌, Option, None, Some, find, length, map}
use Rattle.std.specs.List.{filter, list_any}
use Rattle.cu_kernel.specs.LocalTerm.{Free, Let, LocalTerm, MoreTerms, NoTerm, Variable, Whole}
use Rattle.cu_kernel.specs.declared.local.LocalHead.TheVariants as head
use Rattle.cu_syntax.specs.Syntax as syntax
use Rattle.cu_syntax.specs.Syntax.{Declaration, Declarations, Name, Pattern, pattern_position}
use Rattle.cu_uses.specs.Binders.{pattern_variables}
use Rattle.cu_translation.specs.Around.{Around}
use Rattle.cu_translation.specs.LocalNames as binder
use Rattle.cu_translation.specs.LocalNames.{At, Binder, same_binder}

-- a local variable and its definition
pub record Bound : Type 0 where
  pub variable : Binder
  pub definition : LocalTerm

abbrev pub bound : Binder → LocalTerm → Bound
bound variable definition = record { variable = variable; definition = definition }

-- A variable of a pattern is defined by a call, on the pattern's whole value, of the function that
-- selects the variable.
abbrev pub selection : Around → Pattern → Name → Bound
selection around p x =
    bound (At x.at)
    (Whole (head.Local (around.numbers.function x.at))
    (MoreTerms (Variable (around.numbers.variable (binder.Whole (pattern_position p)))) NoTerm))

abbrev pub selections : Around → Pattern → List Bound
selections around p = map (selection around p) (pattern_variables p)

-- ---- the order of definitions

-- whether the definition of a variable depends on none of these definitions
abbrev pub depends_on_none : (Binder → Binder → Bool) → List Bound → Bound → Bool
depends_on_none depends left b = not (list_any (λ (c : Bound). depends b.variable c.variable) left)

abbrev pub is_other : Bound → Bound → Bool
is_other b c = not (same_binder b.variable c.variable)

abbrev pub first_and_others : (List Bound → List Bound) → List Bound → Option Bound → List Bound
first_and_others order left None = left
first_and_others order left (Some b) = b ∷ order (filter (is_other b) left)

-- Definitions in the order of their dependencies: each time the first that depends on none of those
-- that are left. There is one, unless a variable depends on itself.
abbrev pub ordered_within : ℕ → (Binder → Binder → Bool) → List Bound → List Bound
ordered_within zero depends left = []
ordered_within (suc n) depends left =
    first_and_others (ordered_within n depends) left (find (depends_on_none depends left) left)

abbrev pub ordered : (Binder → Binder → Bool) → List Bound → List Bound
ordered depends bounds = ordered_within (length bounds) depends bounds

-- ---- blocks

abbrev pub free_in : Declaration → List Name
free_in (syntax.FreeVariables at names) = names
free_in _ = []

abbrev pub frees : Declarations → List Name
frees syntax.NoDeclaration = []
frees (syntax.MoreDeclarations d ds) = free_in d ++ frees ds

abbrev pub with_free : Around → List Name → LocalTerm → LocalTerm
with_free around [] t = t
with_free around (x ∷ names) t = Free (around.numbers.variable (At x.at)) (with_free around names t)

abbrev pub with_lets : Around → List Bound → LocalTerm → LocalTerm
with_lets around [] t = t
with_lets around (b ∷ bounds) t =
    Let (around.numbers.variable b.variable) b.definition (with_lets around bounds t)

-- a term inside the declarations of a block, whose local variables have these definitions
abbrev pub block : Around → Declarations → List Bound → LocalTerm → LocalTerm
block around ds bounds t =
    with_free around (frees ds) (with_lets around (ordered around.numbers.depends bounds) t)
