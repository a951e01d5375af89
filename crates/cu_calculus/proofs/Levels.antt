-- Least levels are unique.
use Rattle.std.proofs.Common.{◌≡◌, ℕ, suc, ◌≤◌, List, [], ◌∷◌, length, slice_index, refl, ap₂, sym, ◌∙◌, arith}
use Rattle.cu_calculus.specs.Claims.{AreLeastLevels}
use Rattle.cu_calculus.specs.Program.{Program}

-- lists of one length with the same number at each place are one
same_numbers : (xs ys : List ℕ) → length xs ≡ length ys → ((k : ℕ) → slice_index xs k ≡ slice_index ys k) → xs ≡ ys
same_numbers [] [] n each = refl
same_numbers [] (y ∷ ys) n each = absurd (omega arith)
same_numbers (x ∷ xs) [] n each = absurd (omega arith)
same_numbers (x ∷ xs) (y ∷ ys) n each =
    ap₂ (λ (z : ℕ) (zs : List ℕ). z ∷ zs) (each 0) (same_numbers xs ys (omega arith) (λ k. each (suc k)))

pub least_levels_same : (program : Program) (levels others : List ℕ) → AreLeastLevels program levels → AreLeastLevels program others
    → levels ≡ others
least_levels_same program levels others one two =
    same_numbers levels others (one.are_levels.each ∙ sym two.are_levels.each) each
  where
    each : (k : ℕ) → slice_index levels k ≡ slice_index others k
    each k =
        let low : slice_index levels k ≤ slice_index others k = one.least others k two.are_levels in
        let high : slice_index others k ≤ slice_index levels k = two.least levels k one.are_levels in
        omega arith
