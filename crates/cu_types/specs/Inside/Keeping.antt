-- Whether a substitution keeps to the declared types of a group, member by member.
use Rattle.std.specs.Prelude.{◌≡◌, ℕ, zero, suc, ◌+◌, Bool, true, false, List, [], ◌∷◌, ◌++◌, Option, None, Some, cond, nat_eq}
use Rattle.std.specs.List.{list_any}
use Rattle.cu_calculus.specs.Valid.{holds}
use Rattle.cu_calculus.specs.declared.FunId.{FunId}
use Rattle.cu_kernel.specs.Kernel.{Kernel}
use Rattle.cu_kernel.specs.TypeExpr as type
use Rattle.cu_kernel.specs.TypeExpr.{TypeExpr}
use Rattle.cu_types.specs.Equations.{Member, breadth}
use Rattle.cu_types.specs.Inside.Knowing.{AreMembers}
use Rattle.cu_types.specs.Numbered.{variables_in}
use Rattle.cu_types.specs.Table as shape
use Rattle.cu_types.specs.Table.{Shape}
use Rattle.cu_types.specs.Types.{Substitution}
use Rattle.cu_types.specs.declared.known.Known.{Known}

-- the variable that a type is, if it is one
abbrev pub variable_of : TypeExpr → Option ℕ
variable_of (type.Variable y) = Some y
variable_of (type.Arrow a b) = None
variable_of (type.Named name ts) = None

abbrev pub shape_variable : Shape → Option ℕ
shape_variable (shape.Variable y) = Some y
shape_variable (shape.Applied h ps) = None

-- so many numbers, from x on
abbrev pub numbers_from : ℕ → ℕ → List ℕ
numbers_from x zero = []
numbers_from x (suc count) = x ∷ numbers_from (x + 1) count

abbrev pub with_first : Option ℕ → Option (List ℕ) → Option (List ℕ)
with_first None o = None
with_first (Some y) None = None
with_first (Some y) (Some ys) = Some (y ∷ ys)

-- the variables that these variables become under a substitution, if all become variables
abbrev pub became : Substitution → List ℕ → Option (List ℕ)
became σ [] = Some []
became σ (x ∷ xs) = with_first (variable_of (σ x)) (became σ xs)

abbrev pub prefixed : List ℕ → Option (List ℕ) → Option (List ℕ)
prefixed ys None = None
prefixed ys (Some zs) = Some (ys ++ zs)

-- a list with these numbers after its own, if they are new in it and differ
abbrev pub joined : List ℕ → List ℕ → Option (List ℕ)
joined ks [] = Some ks
joined ks (y ∷ ys) = cond (holds y ks) None (joined (ks ++ y ∷ []) ys)

-- whether a variable is one of these
abbrev pub among : List ℕ → ℕ → Bool
among ys x = list_any (λ y. nat_eq y x) ys

abbrev pub meets : List ℕ → TypeExpr → Bool
meets ys t = list_any (among ys) (variables_in t)

abbrev pub shape_meets : (ℕ → Bool) → List ℕ → Shape → Bool
shape_meets f ys (shape.Variable x) = among ys x
shape_meets f ys (shape.Applied h ps) = list_any f ps

-- whether some of the variables ys stand in what the variables xs become
abbrev pub some_meets : Substitution → List ℕ → List ℕ → Bool
some_meets σ ys xs = list_any (λ x. meets ys (σ x)) xs

-- The variables of a group's declared types so far, with those of one more member, if this keeps to
-- its declared type: all became variables, none of which stands in the type of what the member
-- captured, and none comes twice.
abbrev pub joined_if : Substitution → List ℕ → ℕ → ℕ → Option (List ℕ) → Option (List ℕ)
joined_if σ ks first captured None = None
joined_if σ ks first captured (Some ys) =
    cond (some_meets σ ys (numbers_from first captured)) None (joined ks ys)

abbrev pub with_declared : Substitution → List ℕ → ℕ → ℕ → ℕ → Option TypeExpr → Option (List ℕ)
with_declared σ ks first arity captured None = Some ks
with_declared σ ks first arity captured (Some t) =
    joined_if σ ks first captured (became σ (numbers_from (first + arity + 1) (breadth t)))

abbrev pub with_member : Substitution → List ℕ → Member → Option (List ℕ)
with_member σ ks m = with_declared σ ks m.first m.arity m.captured m.declared

abbrev pub go_on : (List ℕ → Option (List ℕ)) → Option (List ℕ) → Option (List ℕ)
go_on next None = None
go_on next (Some ks) = next ks

abbrev pub with_members : Substitution → List ℕ → List Member → Option (List ℕ)
with_members σ ks [] = Some ks
with_members σ ks (m ∷ ms) = go_on (λ ls. with_members σ ls ms) (with_member σ ks m)

-- where the flag is set the list of the definitions is this one, and where it isn't there is none
abbrev pub Told : Bool → List ℕ → Option (List ℕ) → Type 0
Told true ks o = o ≡ Some ks
Told false ks o = o ≡ None

-- the members that are left, after those that came to ks, come to the whole
pub record IsPending (kernel : Kernel) (known : List Known) (σ : Substitution) (ks : List ℕ)
    (fs : List FunId)
    (whole : Option (List ℕ)) : Type 0 where
  pub rest : List Member
  pub are : AreMembers kernel known fs rest
  pub same : with_members σ ks rest ≡ whole
