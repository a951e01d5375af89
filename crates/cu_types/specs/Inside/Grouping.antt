-- What is known of functions while the types of a group are inferred: before, while its equations
-- are solved, and after.
use Rattle.std.specs.Prelude.{◌≡◌, ℕ, ◌+◌, ◌<◌, List, [], ◌∷◌, Option, None, Some, length, map, slice_get, slice_index_or, slice_set}
use Rattle.cu_calculus.specs.declared.ConId.{ConId}
use Rattle.cu_calculus.specs.declared.FunId.{FunId}
use Rattle.cu_kernel.specs.Kernel.{Kernel}
use Rattle.cu_kernel.specs.TypeExpr as type
use Rattle.cu_kernel.specs.TypeExpr.{TypeExpr}
use Rattle.cu_types.specs.BuiltInTypes.{arrows, constructor_type, values, variables_from}
use Rattle.cu_types.specs.Equations as asked
use Rattle.cu_types.specs.Equations.{Assumptions, arity_of, equations, members}
use Rattle.cu_types.specs.Inference.{BreaksSignature, HasPrincipalTypes, KeepsDeclared}
use Rattle.cu_types.specs.Inside.Knowing.{kept_type, scheme_known, values_at}
use Rattle.cu_types.specs.Meaning.{Clashes, HasPlaces, subst_of, types_of_subst}
use Rattle.cu_types.specs.Numbered.{numbered}
use Rattle.cu_types.specs.Synonyms.{bodies}
use Rattle.cu_types.specs.Table.{IsTable, at}
use Rattle.cu_types.specs.Types.{Substitution, apply}
use Rattle.cu_types.specs.Unification.{IsMostGeneral}
use Rattle.cu_types.specs.declared.group.Inference.{Inference}
use Rattle.cu_types.specs.declared.group.Outcome.{Outcome}
use Rattle.cu_types.specs.declared.group.Outcome.TheVariants as outcome
use Rattle.cu_types.specs.declared.known.Known.{Known}
use Rattle.cu_types.specs.declared.known.Known.TheVariants as known
use Rattle.cu_types.specs.declared.known.Member.{Member}
use Rattle.cu_types.specs.declared.known.Numbers.{Numbers}
use Rattle.cu_types.specs.declared.unification.Subst.{Subst}

-- the tables that inference uses are those of the program
pub record IsInference (i : Inference) : Type 0 where
  pub synonyms : at i.synonyms.now ≡ bodies i.program.now (length i.program.now.synonyms)
  pub constructors : (c : ConId) → at i.constructors.now c.0 ≡ constructor_type i.program.now c
  pub values : values_at i.values ≡ values i.program.now

-- what is known of heads, as the definitions have it
abbrev pub known_assumptions : Kernel → List TypeExpr → List Known → Option ℕ → Assumptions
known_assumptions kernel constructors ks values = record {
  function = λ f. scheme_known (slice_get ks f.0);
  constructor = λ c. slice_index_or constructors c.0 (type.Variable 0);
  arity = λ f. arity_of (slice_get kernel.functions f.0);
  values = values_at values;
}

-- ---- before the equations are solved

-- a member as the code has it, without the name and body of its function
abbrev pub plain_member : asked.Member → Member
plain_member m =
    record { arity = m.arity; captured = m.captured; declared = m.declared; first = m.first }

-- what is known, after the functions of a group became its members, with type variables from
-- `first` on
abbrev pub entered : Kernel → ℕ → List FunId → List Known → List Known
entered kernel first [] ks = ks
entered kernel first (f ∷ fs) ks =
    entered kernel (asked.end_of (asked.member kernel first f)) fs
    (slice_set ks f.0 (known.Member (plain_member (asked.member kernel first f))))

abbrev pub end_from : Kernel → ℕ → List FunId → ℕ
end_from kernel first [] = first
end_from kernel first (f ∷ fs) = end_from kernel (asked.end_of (asked.member kernel first f)) fs

-- no function is a member of a group
abbrev pub HasNoMembers : List Known → Type 0
HasNoMembers ks = (k : ℕ) (m : Member) → slice_get ks k ≡ Some (known.Member m) → ⊥

-- each function of a group is below n
abbrev pub AreWithin : List FunId → ℕ → Type 0
AreWithin fs n = (k : ℕ) (f : FunId) → slice_get fs k ≡ Some f → f.0 < n

-- ---- after the equations are solved

abbrev pub numbers_of : Option Known → Option Numbers
numbers_of None = None
numbers_of (Some known.Nothing) = None
numbers_of (Some (known.Typed t)) = None
numbers_of (Some (known.Member m)) = Some (record { first = m.first; arity = m.arity })

-- the type of a member over its type variables
abbrev pub own_type : Numbers → TypeExpr
own_type n = arrows (variables_from n.first n.arity) (type.Variable (n.first + n.arity))

abbrev pub left_with : Substitution → FunId → Option Numbers → List Known → List Known
left_with σ f None ks = ks
left_with σ f (Some n) ks = slice_set ks f.0 (known.Typed (numbered (apply σ (own_type n))))

-- what is known, after the functions of a group got the types that a solution gives to its members
abbrev pub left : Substitution → List FunId → List Known → List Known
left σ [] ks = ks
left σ (f ∷ fs) ks = left σ fs (left_with σ f (numbers_of (slice_get ks f.0)) ks)

-- ---- solutions in a table

-- the table of a solution grew, and all variables have the types that they had
pub record Stays (before after : Subst) : Type 0 where
  pub table : IsTable (types_of_subst after)
  pub places : HasPlaces after
  pub same : (x : ℕ) → subst_of after x ≡ subst_of before x

-- ---- what comes of a group

-- the functions of a group have got the types of a most general solution that keeps to the declared
-- types
pub record IsLeft (kernel : Kernel) (before after : List Known) (group : List FunId) : Type 0 where
  pub solution : Substitution
  pub general : IsMostGeneral solution (equations kernel (map kept_type before) group)
  pub keeps : KeepsDeclared solution (members kernel group)
  pub is : after ≡ left solution group (entered kernel 0 group before)

abbrev pub Outcomes : Kernel → List Known → List Known → List FunId → Outcome → Type 0
Outcomes kernel before after group outcome.Typed = IsLeft kernel before after group
Outcomes kernel before after group (outcome.Clash c) =
    Clashes (equations kernel (map kept_type before) group) c
Outcomes kernel before after group outcome.Broken =
    BreaksSignature kernel (map kept_type before) group

-- the outcome for a solution is right: it keeps to the declared types, and the functions have its
-- types, or it doesn't keep to them
abbrev pub Settled : List asked.Member → Substitution → List FunId → List Known → List Known
    → Outcome → Type 0
Settled ms σ group before after outcome.Typed = KeepsDeclared σ ms × (after ≡ left σ group before)
Settled ms σ group before after (outcome.Clash c) = ⊥
Settled ms σ group before after outcome.Broken = KeepsDeclared σ ms → ⊥

-- ---- groups one after another

-- what is known when inference comes to a group: the groups before it have their principal types
pub record IsKnown (kernel : Kernel) (groups : List (List FunId)) (place : ℕ)
    (ks : List Known) : Type 0 where
  pub sized : length ks ≡ length kernel.functions
  pub none : HasNoMembers ks
  pub typed : (k : ℕ) (other : List FunId) → k < place → slice_get groups k ≡ Some other
      → HasPrincipalTypes kernel (map kept_type ks) other
