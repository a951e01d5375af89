-- Interfaces as they are put together.
use Rattle.std.proofs.Common.{◌≡◌, ℕ, zero, suc, ◌<◌, List, [], ◌∷◌, ◌++◌, Some, Bool, false, true, drop, length, map, take, slice_get, refl, sym, ap, ◌∙◌, subst, arith, append_assoc}
use Rattle.cu_kernel.specs.Kernel.{Kernel}
use Rattle.cu_kernel.specs.TypeExpr as type
use Rattle.cu_kernel.specs.TypeExpr.{TypeExpr}
use Rattle.cu_types.specs.Inference.{IsInferred, PrincipallyTyped, is_functional}
use Rattle.cu_types.specs.Inside.Knowing.{kept_type}
use Rattle.cu_types.specs.Table as shape
use Rattle.cu_types.specs.Table.{IsTable, MayStand, Shape, at, shape_of, trees}
use Rattle.cu_types.specs.TypeFaults.{HasFunctionalGoal}
use Rattle.cu_types.specs.declared.known.Known.{Known}
use Rattle.cu_types.specs.declared.node.Node.{Node}
use Rattle.cu_types.specs.declared.node.Node.TheVariants as node

-- ---- a type variable by itself

variable_stands : (i : ℕ) (s : Shape) → slice_get (shape.Variable 0 ∷ []) i ≡ Some s → MayStand i s
variable_stands zero s at = let same : shape.Variable 0 ≡ s = cc in subst (MayStand 0) same tt
variable_stands (suc i) s at = let no : ⊥ = cc in absurd no

pub one_table : (ns : List Node) → ns ≡ node.Variable 0 ∷ [] → IsTable (map shape_of ns)
one_table ns is = subst (λ (ms : List Node). IsTable (map shape_of ms)) (sym is) (record { stand = variable_stands })

pub one_within : (ns : List Node) → ns ≡ node.Variable 0 ∷ [] → 0 < length (map shape_of ns)
one_within ns is = subst (λ (ms : List Node). 0 < length (map shape_of ms)) (sym is) (omega arith)

pub one_type : (ns : List Node) → ns ≡ node.Variable 0 ∷ [] → at (trees (map shape_of ns)) 0 ≡ type.Variable 0
unfolding trees
one_type ns is = ap (λ (ms : List Node). at (trees (map shape_of ms)) 0) is

-- ---- the types that are kept

pub kept_more : (ks left : List Known) (own : Known) (types after : List TypeExpr) (shared : TypeExpr) (whole : List TypeExpr)
    → ks ≡ own ∷ left → shared ≡ kept_type own → after ≡ types ++ shared ∷ [] → types ++ map kept_type ks ≡ whole
    → after ++ map kept_type left ≡ whole
kept_more ks left own types after shared whole is kept pushed before =
    ap (λ (ts : List TypeExpr). ts ++ map kept_type left) pushed ∙ append_assoc types (shared ∷ []) (map kept_type left)
    ∙ ap (λ (t : TypeExpr). types ++ t ∷ map kept_type left) kept
    ∙ sym (ap (λ (xs : List Known). types ++ map kept_type xs) is) ∙ before

-- a slice that was written back as a whole
prefix : (xs zs : List Known) → take (length xs) (xs ++ zs) ≡ xs
prefix [] zs = refl
prefix (x ∷ xs) zs = ap (λ (ys : List Known). x ∷ ys) (prefix xs zs)

pub written : (n : ℕ) (xs ys : List Known) → n ≡ length xs → take n (xs ++ drop (length xs) ys) ≡ xs
written n xs ys size = ap (λ k. take k (xs ++ drop (length xs) ys)) size ∙ prefix xs (drop (length xs) ys)

-- ---- goals

pub functional_goal : (p : Kernel) (types given : List TypeExpr) (functional : Bool) → functional ≡ is_functional given p.goal → given ≡ types
    → functional ≡ true → PrincipallyTyped p types → HasFunctionalGoal p
functional_goal p types given functional is same yes' typed = record {
  interface = types;
  types = typed;
  functional = sym (ap (λ (ts : List TypeExpr). is_functional ts p.goal) same) ∙ sym is ∙ yes';
}

pub data_goal : (p : Kernel) (interface types given : List TypeExpr) (functional : Bool) → functional ≡ is_functional given p.goal
    → given ≡ types → functional ≡ false → interface ≡ types → PrincipallyTyped p types → IsInferred p interface
data_goal p interface types given functional is same no' made typed =
    subst (IsInferred p) (sym made)
    (record {
      types = typed;
      data_goal = sym (ap (λ (ts : List TypeExpr). is_functional ts p.goal) same) ∙ sym is ∙ no';
    })
