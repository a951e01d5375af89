-- Constructors by their numbers: those of one type stand after those of the types before it.
use Rattle.std.proofs.Common.{◌≡◌, ℕ, zero, suc, ◌+◌, ◌-◌, ◌<◌, ◌≤◌, List, [], ◌∷◌, ◌++◌, Option, Some, arith, drop, get_or, length, map, option_map, slice_get, refl, sym, ap, ◌∙◌}
use Rattle.std.proofs.lemmas.List.{length-map}
use Rattle.std.proofs.lemmas.Option.{slice_get-map, slice_get_read}
use Rattle.cu_kernel.proofs.Loops.{left}
use Rattle.cu_kernel.specs.Kernel as kernel
use Rattle.cu_kernel.specs.Kernel.{Placed, placed, placed_from}
use Rattle.cu_kernel.specs.KernelOf.{constructor_meaning, type_meaning}
use Rattle.cu_kernel.specs.declared.declarations.Constructor.{Constructor}
use Rattle.cu_kernel.specs.declared.declarations.DataType.{DataType}

get_before : {A : Type 0} (xs ys : List A) (k : ℕ) → k < length xs → slice_get (xs ++ ys) k ≡ slice_get xs k
get_before [] ys k below = absurd (omega (arith, below))
get_before (x ∷ xs) ys zero below = refl
get_before (x ∷ xs) ys (suc k) below = get_before xs ys k (omega (arith, below))

get_past : {A : Type 0} (xs ys : List A) (k : ℕ) → length xs ≤ k → slice_get (xs ++ ys) k ≡ slice_get ys (k - length xs)
get_past [] ys k past = ap (slice_get ys) (omega arith)
get_past (x ∷ xs) ys zero past = absurd (omega (arith, past))
get_past (x ∷ xs) ys (suc k) past = get_past xs ys k (omega (arith, past)) ∙ ap (slice_get ys) (omega arith)

abbrev place_at : ℕ → kernel.Constructor → Placed
place_at i c = record { of_type = i; constructor = c }

length-placed : (i : ℕ) (cs : List Constructor) → length (placed i (map constructor_meaning cs)) ≡ length cs
length-placed i cs =
    length-map (map constructor_meaning cs) (place_at i) ∙ length-map cs constructor_meaning

get_placed : (i : ℕ) (cs : List Constructor) (n : ℕ) (x : Constructor) → n < length cs → x ≡ get_or cs n x
    → slice_get (placed i (map constructor_meaning cs)) n ≡ Some (record { of_type = i; constructor = constructor_meaning x })
get_placed i cs n x below is =
    slice_get-map (place_at i) (map constructor_meaning cs) n
    ∙ ap (option_map (place_at i)) (slice_get-map constructor_meaning cs n ∙ ap (option_map constructor_meaning) (slice_get_read cs (length cs) n x refl below is))

-- the constructors of the types that are left are those of the next one, and then others
next_first : (ts : List DataType) (i : ℕ) (t : DataType) → i < length ts → t ≡ get_or ts i t → (cs : List Constructor) → cs ≡ t.constructors.items
    → placed_from i (map type_meaning (drop i ts))
    ≡ placed i (map constructor_meaning cs) ++ placed_from (i + 1) (map type_meaning (drop (i + 1) ts))
next_first ts i t below is cs same =
    ap (λ us. placed_from i (map type_meaning us)) (left ts i t below is)
    ∙ ap (λ ds. placed i (map constructor_meaning ds) ++ placed_from (i + 1) (map type_meaning (drop (i + 1) ts))) (sym same)

pub found_in_type : (ts : List DataType) (i : ℕ) (t : DataType) → i < length ts → t ≡ get_or ts i t
    → (cs : List Constructor) → cs ≡ t.constructors.items → (n : ℕ) (x : Constructor) → n < length cs → x ≡ get_or cs n x → (whole : Option Placed)
    → slice_get (placed_from i (map type_meaning (drop i ts))) n ≡ whole
    → Some (record { of_type = i; constructor = constructor_meaning x }) ≡ whole
found_in_type ts i t below is cs same n x within at whole before =
    let mine = placed i (map constructor_meaning cs) in
    let shorter : n < length mine = omega (arith, within, length-placed i cs) in
    sym (get_placed i cs n x within at) ∙ sym (get_before mine _ n shorter)
    ∙ sym (ap (λ ps. slice_get ps n) (next_first ts i t below is cs same)) ∙ before

pub not_in_type : (ts : List DataType) (i : ℕ) (t : DataType) → i < length ts → t ≡ get_or ts i t
    → (cs : List Constructor) → cs ≡ t.constructors.items → (n : ℕ) → length cs ≤ n → (whole : Option Placed)
    → slice_get (placed_from i (map type_meaning (drop i ts))) n ≡ whole
    → slice_get (placed_from (i + 1) (map type_meaning (drop (i + 1) ts))) (n - length cs) ≡ whole
not_in_type ts i t below is cs same n past whole before =
    let mine = placed i (map constructor_meaning cs) in let others = placed_from (i + 1) (map type_meaning (drop (i + 1) ts)) in
    let longer : length mine ≤ n = omega (arith, past, length-placed i cs) in
    ap (λ k. slice_get others (n - k)) (sym (length-placed i cs)) ∙ sym (get_past mine others n longer)
    ∙ sym (ap (λ ps. slice_get ps n) (next_first ts i t below is cs same)) ∙ before
