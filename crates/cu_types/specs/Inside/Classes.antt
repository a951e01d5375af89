-- Disjoint classes of the numbers below a bound, as trees of parents. Ranks rise towards the roots.
use Rattle.std.specs.Prelude.{◌≡◌, ◌≢◌, ℕ, ◌<◌, Bool, List, cond, length, nat_eq, slice_index}

-- whether a number is the representative of its class
abbrev pub is_root : List ℕ → ℕ → Bool
is_root parents k = nat_eq (slice_index parents k) k

-- parents are a forest: ranks rise along them, and are below 256
pub record IsForest (parents ranks : List ℕ) : Type 0 where
  pub ranked : length ranks ≡ length parents
  pub low : (k : ℕ) → k < length ranks → slice_index ranks k < 256
  pub within : (k : ℕ) → k < length parents → slice_index parents k < length parents
  pub rises : (k : ℕ) → k < length parents → slice_index parents k ≢ k
      → slice_index ranks k < slice_index ranks (slice_index parents k)

-- each number below the bound has the representative that `class` tells
pub record Represents (parents : List ℕ) (class : ℕ → ℕ) : Type 0 where
  pub step : (k : ℕ) → k < length parents → class (slice_index parents k) ≡ class k
  pub root : (k : ℕ) → k < length parents → slice_index parents k ≡ k → class k ≡ k
  pub within : (k : ℕ) → k < length parents → class k < length parents
  pub fixed : (k : ℕ) → k < length parents → slice_index parents (class k) ≡ class k

-- the representatives after one class was joined to another
abbrev pub joined : ℕ → ℕ → (ℕ → ℕ) → ℕ → ℕ
joined child root class k = cond (nat_eq (class k) child) root (class k)
