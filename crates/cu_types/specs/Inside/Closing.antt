-- Classes of the places of a table, joined until they agree with its equations and with its shapes.
use Rattle.std.specs.Prelude.{◌≡◌, ℕ, suc, ◌+◌, ◌<◌, ◌≤◌, ◌⊎◌, Bool, true, false, List, [], ◌∷◌, ◌++◌, Option, Some, MatchOption, cond, length, map, nat_eq, slice_get, slice_index}
use Rattle.cu_kernel.specs.TypeExpr.{TypeExpr}
use Rattle.cu_types.specs.Inside.Classes.{IsForest, Represents, is_root, joined}
use Rattle.cu_types.specs.Table as shape
use Rattle.cu_types.specs.Table.{Shape, at, places}
use Rattle.cu_types.specs.Unification.{Equation, MadeEqual}
use Rattle.cu_types.specs.declared.closing.Outcome.{Outcome}
use Rattle.cu_types.specs.declared.closing.Outcome.TheVariants as outcome
use Rattle.cu_types.specs.declared.node.TypeHead.{TypeHead}
use Rattle.cu_types.specs.declared.pair.Pair.{Pair}

-- a property holds of each pair
abbrev pub Each : (Pair → Type 0) → List Pair → Type 0
Each P [] = Unit {0}
Each P (p ∷ ps) = P p × Each P ps

-- the pairs of the numbers of two lists, as long as both go on
abbrev pub paired : List ℕ → List ℕ → List Pair
paired [] bs = []
paired (a ∷ ps) [] = []
paired (a ∷ ps) (b ∷ bs) = record { left = a; right = b } ∷ paired ps bs

abbrev pub is_variable : Shape → Bool
is_variable (shape.Variable x) = true
is_variable (shape.Applied h ps) = false

-- a shape is a variable, or has this head and so many arguments
abbrev pub Takes : Shape → TypeHead → ℕ → Type 0
Takes (shape.Variable x) h count = Unit {0}
Takes (shape.Applied g ps) h count = (g ≡ h) × (length ps ≡ count)

-- two shapes may be the same type at the top
abbrev pub Meet : Shape → Shape → Type 0
Meet (shape.Variable x) t = Unit {0}
Meet (shape.Applied h ps) t = Takes t h (length ps)

-- A shape agrees with that of its class's representative, where f tells classes apart: a head has
-- its arguments in the same classes, and only a variable has a variable as its representative.
abbrev pub IsAlike : (ℕ → ℕ) → Shape → Shape → Type 0
IsAlike f (shape.Variable x) t = Unit {0}
IsAlike f (shape.Applied h ps) (shape.Variable y) = ⊥
IsAlike f (shape.Applied h ps) (shape.Applied g qs) = (h ≡ g) × (map f ps ≡ map f qs)

-- both places of a pair are in one class
abbrev pub Joins : (ℕ → ℕ) → Pair → Type 0
Joins f p = f p.left ≡ f p.right

-- both places of a pair are below a bound
abbrev pub IsWithin : ℕ → Pair → Type 0
IsWithin n p = (p.left < n) × (p.right < n)

-- the equations make the types at two places equal
abbrev pub AreEqual : List Equation → List TypeExpr → ℕ → ℕ → Type 0
AreEqual equations ts i j = MadeEqual equations (at ts i) (at ts j)

abbrev pub PairIsEqual : List Equation → List TypeExpr → Pair → Type 0
PairIsEqual equations ts p = AreEqual equations ts p.left p.right

-- a function f from places to classes agrees with these pairs, and with the shapes of
-- representatives
pub record Agrees (ss : List Shape) (given : List Pair) (class f : ℕ → ℕ) : Type 0 where
  pub joins : Each (Joins f) given
  pub alike : (k : ℕ) (s t : Shape) → slice_get ss k ≡ Some s → slice_get ss (class k) ≡ Some t
      → IsAlike f s t

-- These pairs are still to be joined, of all that were given. Classes that agree with them agree
-- with all.
pub record IsClosing (equations : List Equation) (ss : List Shape) (given pending : List Pair)
    (parents : List ℕ)
    (class : ℕ → ℕ) : Type 0 where
  pub represents : Represents parents class
  pub sound : (k : ℕ) → k < length ss → AreEqual equations (shape.trees ss) k (class k)
  pub pending_sound : Each (PairIsEqual equations (shape.trees ss)) pending
  pub complete : (f : ℕ → ℕ) → ((k : ℕ) → k < length ss → f (class k) ≡ f k)
      → Each (Joins f) pending → Agrees ss given class f

-- the weight of a shape among what is left to do: two steps, and one more for each argument
abbrev pub weight : Shape → ℕ
weight s = 2 + length (places s)

abbrev pub owed : (ℕ → Bool) → List Shape → ℕ
owed flags [] = 0
owed flags (s ∷ ss) = cond (flags 0) (weight s) 0 + owed (λ k. flags (suc k)) ss

-- two places whose types the equations make equal, and whose shapes have different heads or numbers
-- of arguments
pub record IsApart (equations : List Equation) (ss : List Shape) (p : Pair) : Type 0 where
  pub within : IsWithin (length ss) p
  pub equal : PairIsEqual equations (shape.trees ss) p
  pub apart : (s t : Shape) → slice_get ss p.left ≡ Some s → slice_get ss p.right ≡ Some t
      → Meet s t → ⊥

-- classes that agree with all pairs that were given, and that the equations make
pub record IsClosed (equations : List Equation) (ss : List Shape) (given : List Pair)
    (classes : List ℕ) : Type 0 where
  pub sized : length classes ≡ length ss
  pub within : (k : ℕ) → k < length ss → slice_index classes k < length ss
  pub fixed : (k : ℕ) → k < length ss → slice_index classes (slice_index classes k)
      ≡ slice_index classes k
  pub sound : (k : ℕ) → k < length ss
      → AreEqual equations (shape.trees ss) k (slice_index classes k)
  pub joins : Each (Joins (slice_index classes)) given
  pub alike : (k : ℕ) (s t : Shape) → slice_get ss k ≡ Some s
      → slice_get ss (slice_index classes k) ≡ Some t
      → IsAlike (slice_index classes) s t

-- the representative of a pair that may be put under the other comes first
abbrev pub IsOriented : Pair → Shape → Shape → Pair → Type 0
IsOriented p s t q =
    ((q ≡ p) × (is_variable t ≡ true → is_variable s ≡ true))
    ⊎ ((q ≡ record { left = p.right; right = p.left })
    × (is_variable s ≡ true → is_variable t ≡ true))

-- a measure of what is left to do, with the pairs that are pending
abbrev pub debt : List Shape → List Pair → List ℕ → ℕ
debt ss pending parents = length pending + owed (is_root parents) ss

-- the first representative of a pair was put under the second, and the pairs of their arguments are
-- pending
pub record Unites (s t : Shape) (p : Pair) (before : List Pair) (parents : List ℕ)
    (after : List Pair) (then : List ℕ) : Type 0 where
  pub pushed : after ≡ before ++ paired (places s) (places t)
  pub roots : (k : ℕ) → is_root then k ≡ cond (nat_eq k p.left) false (is_root parents k)
  pub class : (class : ℕ → ℕ) → Represents parents class → Represents
      then (joined p.left p.right class)

-- joining the classes of a pair leaves these pairs and parents, or finds two places that are apart
pub record Joined (ss : List Shape) (p : Pair) (before : List Pair) (parents : List ℕ)
    (after : List Pair) (then : List ℕ)
    (found : Option Pair) : Type 0 where
  pub within : Each (IsWithin (length ss)) after
  pub nearer : debt ss after then ≤ debt ss before parents
  pub closing : (equations : List Equation) (given : List Pair) (class : ℕ → ℕ)
      → IsClosing equations ss given (before ++ p ∷ []) parents class
      → MatchOption found ((class : ℕ → ℕ) × IsClosing equations ss given after
      then class) (IsApart equations ss)

-- the code's outcome is right: classes that agree with all pairs, or two places whose types are
-- apart
abbrev pub ClosesOr : List Equation → List Shape → List Pair → Outcome → Type 0
ClosesOr equations ss given (outcome.Closed classes) =
    IsForest classes.parents.items classes.ranks.items × (length classes.parents.items ≡ length ss)
    × ((class : ℕ → ℕ) × IsClosing equations ss given [] classes.parents.items class)
ClosesOr equations ss given (outcome.Apart p) = IsApart equations ss p
