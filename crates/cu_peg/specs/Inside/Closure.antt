-- The least set of numbers that is closed under conditions: each number has one, and joins the set
-- where it holds.
use Rattle.std.specs.Prelude.{◌≡◌, ℕ, ◌+◌, Bool, true, false, List, [], ◌∷◌, ◌++◌, Some, slice_get, slice_index_or, slice_set}
use Rattle.std.specs.List.{list_all, list_any}
use Rattle.cu_peg.specs.declared.closure.Condition.{Condition}
use Rattle.cu_peg.specs.declared.closure.Quantifier.{Quantifier}
use Rattle.cu_peg.specs.declared.closure.Quantifier.TheVariants as quantifier

-- whether a number is in a set
abbrev pub marked : List Bool → ℕ → Bool
marked marks n = slice_index_or marks n false

abbrev pub holds_of : List Bool → Quantifier → List ℕ → Bool
holds_of marks quantifier.All numbers = list_all (marked marks) numbers
holds_of marks quantifier.Any numbers = list_any (marked marks) numbers

-- whether a condition holds of a set
abbrev pub holds : List Bool → Condition → Bool
holds marks condition = holds_of marks condition.quantifier condition.numbers

-- A number isn't in the set yet, and its condition holds of the set.
pub record MayJoin (conditions : List Condition) (marks : List Bool) (n : ℕ) : Type 0 where
  pub condition : Condition
  pub is : slice_get conditions n ≡ Some condition
  pub held : holds marks condition ≡ true
  pub new : marked marks n ≡ false

-- A set comes from another by adding these numbers in their order, each of which may join when it
-- is added.
pub data Derived (conditions : List Condition) (start : List Bool) : List Bool → List ℕ
    → Type 0 where
  begun : Derived conditions start start []
  joined : (marks more : List Bool) (order longer : List ℕ) (n : ℕ)
      → Derived conditions start marks order → MayJoin conditions marks n
      → more ≡ slice_set marks n true → longer ≡ order ++ n ∷ []
      → Derived conditions start more longer

-- Each number whose condition holds is in the set.
abbrev pub IsSaturated : List Condition → List Bool → Type 0
IsSaturated conditions marks = (n : ℕ) (c : Condition) → slice_get conditions n ≡ Some c
    → holds marks c ≡ true → marked marks n ≡ true

-- how many numbers are not in a set
abbrev pub unmarked : List Bool → ℕ
unmarked [] = 0
unmarked (true ∷ marks) = unmarked marks
unmarked (false ∷ marks) = 1 + unmarked marks
