-- Texts that are interned one after another into an empty table.
use Rattle.std.proofs.Common.{◌≡◌, ◌∙◌, ◌<◌, ◌+◌, ℕ, zero, suc, Bool, true, false, ◌||◌, List, [], ◌∷◌, ◌++◌, Some, arith, if◌then◌else◌, refl, slice_get, take, ap, sym}
use Rattle.std.proofs.lemmas.Slice.Eq.{bytes_eq-Decides}
use Rattle.std.specs.List.{list_any}
use Rattle.std.specs.Str.{bytes_eq}
use Rattle.cu_names.specs.Texts.{AllDiffer, interned}
use Rattle.cu_lift.proofs.Noting.{take_next}

-- a text that none of the first so many is isn't found among them
absent : (texts : List (List ℕ)) (n : ℕ) (text : List ℕ) → ((i : ℕ) → i < n → slice_get texts i ≡ Some text → ⊥)
    → list_any (bytes_eq text) (take n texts) ≡ false
absent texts zero text never = refl
absent [] (suc n) text never = refl
absent (x ∷ texts) (suc n) text never =
    by (bytes_eq text x) refl (absent texts n text (λ i below at. never (suc i) (omega (arith, below)) at))
  where
    by : (b : Bool) → bytes_eq text x ≡ b → list_any (bytes_eq text) (take n texts) ≡ false
        → (b || list_any (bytes_eq text) (take n texts)) ≡ false
    by true same rest =
        let is : text ≡ x = (bytes_eq-Decides text x).0 same in
        absurd (never 0 (omega arith) (ap Some (sym is)))
    by false other rest = rest

apart : (i n : ℕ) → i < n → i ≡ n → ⊥
apart i n below same = omega (arith, below, same)

-- the table after the next text
pub next : (texts : List (List ℕ)) (n : ℕ) (text : List ℕ) → AllDiffer texts → slice_get texts n ≡ Some text
    → interned (take n texts) text ≡ take (n + 1) texts
next texts n text differ at =
    let none = absent texts n text (λ i below there. apart i n below (differ i n text there at)) in
    ap (λ (b : Bool). if b then take n texts else take n texts ++ text ∷ []) none ∙ sym (take_next texts n text at)
