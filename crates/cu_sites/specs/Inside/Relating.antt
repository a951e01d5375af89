-- Relations between numbers, and what is reached along them.
use Rattle.std.specs.Prelude.{◌≡◌, ◌↔◌, ◌<◌, ℕ, Bool, not, ◌&&◌, ◌||◌, false, true, List, ◌++◌, length, nat_eq}
use Rattle.std.specs.List.{list_any}
use Rattle.cu_sites.specs.declared.relations.Relation.{Relation}
use Rattle.cu_sites.specs.declared.relations.Walk.{Walk}
use Rattle.cu_sites.specs.Depending.{is_in, relates}

-- a number that is related to another
pub record Pair : Type 0 where
  pub from : ℕ
  pub to : ℕ

abbrev pub pair : ℕ → ℕ → Pair
pair i k = record { from = i; to = k }

abbrev pub pair_to : ℕ → ℕ → Pair
pair_to k i = pair i k

abbrev pub is_pair : ℕ → ℕ → Pair → Bool
is_pair i k p = nat_eq i p.from && nat_eq k p.to

-- The first n numbers are related as these pairs say.
pub record Holds (n : ℕ) (pairs : List Pair) (r : Relation) : Type 0 where
  pub sized : length r.rows.items ≡ n
  pub exact : (i k : ℕ) → i < n → relates r i k ≡ list_any (is_pair i k) pairs

-- Whatever pairs a relation had before, it has these besides.
abbrev pub Gains : List Pair → Relation → Relation → Type 0
Gains added old new = (n : ℕ) (pairs : List Pair) → Holds n pairs old → Holds n (pairs ++ added) new

-- ---- walks

-- A number is reached from the seeds along a relation, by way of none that is shut.
pub data Reaches (r : Relation) (seeds shut : List ℕ) : ℕ → Type 0 where
  begin : (k : ℕ) → is_in seeds k ≡ true → is_in shut k ≡ false → Reaches r seeds shut k
  further : (j k : ℕ) → Reaches r seeds shut j → relates r j k ≡ true → is_in shut k ≡ false
      → Reaches r seeds shut k

-- A walk has reached these numbers besides, those apart that are shut.
pub record Meets (ks : List ℕ) (old new : Walk) : Type 0 where
  pub shut : new.shut.keys ≡ old.shut.keys
  pub added : List ℕ
  pub grows : new.found.keys ≡ old.found.keys ++ added
  pub exact : (k : ℕ) → is_in new.found.keys k
      ≡ (is_in old.found.keys k || (is_in ks k && not (is_in old.shut.keys k)))

-- A walk has reached its seeds alone, those apart that are shut.
pub record IsBegun (seeds shut : List ℕ) (w : Walk) : Type 0 where
  pub shut_are : (k : ℕ) → is_in w.shut.keys k ≡ is_in shut k
  pub found_are : (k : ℕ) → is_in w.found.keys k ≡ (is_in seeds k && not (is_in shut k))

abbrev pub IsReached : Relation → List ℕ → List ℕ → Walk → Type 0
IsReached r seeds shut w = (k : ℕ) → (is_in w.found.keys k ≡ true) ↔ Reaches r seeds shut k
