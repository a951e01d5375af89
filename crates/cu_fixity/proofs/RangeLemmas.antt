-- Ranges of pieces, and the operator that is found in one.
use Rattle.std.specs.Prelude.{◌≡◌, ℕ, zero, suc, ◌+◌, ◌-◌, ◌<◌, ◌≤◌, ◌⊎◌, Bool, true, false, IfSome, List, [], ◌∷◌, Option, None, Some, drop, if◌then◌else◌, length, refl, slice_get, take}
use Rattle.std.proofs.Common.{ap, ap₂, arith, inl, inr, subst, sym, ◌∙◌}
use Rattle.cu_fixity.specs.declared.piece.Piece.{Piece}
use Rattle.cu_fixity.specs.declared.piece.Piece.TheVariants as piece
use Rattle.cu_fixity.specs.Grouping.{Item}
use Rattle.cu_fixity.specs.Pieces.{fixity_at, item_of, items_of, numbered}
use Rattle.cu_fixity.specs.Ranges.{between, candidate, is_above, raised, raised_by, root}

-- the items from a piece on
from_piece : (m n : ℕ) (pieces : List Piece) (p : Piece) → slice_get pieces n ≡ Some p
    → drop n (numbered m pieces) ≡ item_of (m + n) p ∷ drop (suc n) (numbered m pieces)
from_piece m n [] p e = absurd cc
from_piece m zero (q ∷ pieces) p e =
    let same : q ≡ p = cc in
    let place : m ≡ m + 0 = omega arith in
    ap₂ (λ k r. item_of k r ∷ numbered (suc m) pieces) place same
from_piece m (suc n) (q ∷ pieces) p e =
    let place : suc m + n ≡ m + suc n = omega arith in
    from_piece (suc m) n pieces p e ∙ ap (λ k. item_of k p ∷ drop (suc n) (numbered (suc m) pieces)) place

pub range_step : (pieces : List Piece) (n to : ℕ) (p : Piece) → n < to → slice_get pieces n ≡ Some p
    → between n to (items_of pieces) ≡ item_of n p ∷ between (n + 1) to (items_of pieces)
range_step pieces n to p h e =
    let size : to - n ≡ suc (to - (n + 1)) = omega (arith, h) in
    let next : suc n ≡ n + 1 = omega arith in
    let place : 0 + n ≡ n = omega arith in
    ap₂ (λ k xs. take k xs) size (from_piece 0 n pieces p e ∙ ap (λ k. item_of k p ∷ drop (suc n) (items_of pieces)) place)
    ∙ ap (λ m. item_of n p ∷ take (to - (n + 1)) (drop m (items_of pieces))) next

pub range_end : (pieces : List Piece) (n : ℕ) → between n n (items_of pieces) ≡ []
range_end pieces n = let none : n - n ≡ 0 = omega arith in ap (λ k. take k (drop n (items_of pieces))) none

-- one more piece
pub root_step : (pieces : List Piece) (n : ℕ) (earlier : Option ℕ) (p : Piece) (items : List (Item ℕ ℕ)) → slice_get pieces n ≡ Some p
    → root (fixity_at pieces) n (candidate earlier) (item_of n p ∷ items) ≡ root (fixity_at pieces) (n + 1) (candidate (raised pieces earlier n)) items
root_step pieces n earlier p items e = whole p earlier ∙ ap (λ q. root (fixity_at pieces) (n + 1) (candidate (raised_by (fixity_at pieces) earlier n q)) items) (sym e)
  where
    above : (k : ℕ) (b : Bool)
        → root (fixity_at pieces) (n + 1) (Some (if b then (record { at = n; operator = n }) else (record { at = k; operator = k }))) items
        ≡ root (fixity_at pieces) (n + 1) (candidate (if b then Some n else Some k)) items
    above k true = refl
    above k false = refl

    whole : (q : Piece) (best : Option ℕ)
        → root (fixity_at pieces) n (candidate best) (item_of n q ∷ items) ≡ root (fixity_at pieces) (n + 1) (candidate (raised_by (fixity_at pieces) best n (Some q))) items
    whole piece.Operand best = refl
    whole piece.Minus None = refl
    whole (piece.Operator f) None = refl
    whole piece.Minus (Some k) = above k (is_above (fixity_at pieces n) (fixity_at pieces k))
    whole (piece.Operator f) (Some k) = above k (is_above (fixity_at pieces n) (fixity_at pieces k))

-- the piece of a number
pub piece_at : (pieces : List Piece) (n : ℕ) → n < length pieces → (p : Piece) × (slice_get pieces n ≡ Some p)
piece_at [] n h = absurd (omega (arith, h))
piece_at (p ∷ pieces) zero h = (p, refl)
piece_at (p ∷ pieces) (suc n) h = piece_at pieces n (omega (arith, h))

pub one_more : (pieces : List Piece) (n to : ℕ) (earlier : Option ℕ) → n < to → to ≤ length pieces
    → root (fixity_at pieces) n (candidate earlier) (between n to (items_of pieces))
    ≡ root (fixity_at pieces) (n + 1) (candidate (raised pieces earlier n)) (between (n + 1) to (items_of pieces))
one_more pieces n to earlier h k =
    let p = piece_at pieces n (omega (arith, h, k)) in
    ap (root (fixity_at pieces) n (candidate earlier)) (range_step pieces n to p.0 h p.1)
    ∙ root_step pieces n earlier p.0 (between (n + 1) to (items_of pieces)) p.1

-- a piece leaves what was found, or is found
raised_either : (pieces : List Piece) (earlier : Option ℕ) (n : ℕ) → (raised pieces earlier n ≡ earlier) ⊎ (raised pieces earlier n ≡ Some n)
raised_either pieces earlier n = go (slice_get pieces n) earlier
  where
    chosen : (k : ℕ) (b : Bool) → ((if b then Some n else Some k) ≡ Some k) ⊎ ((if b then Some n else Some k) ≡ Some n)
    chosen k true = inr refl
    chosen k false = inl refl

    go : (p : Option Piece) (best : Option ℕ) → (raised_by (fixity_at pieces) best n p ≡ best) ⊎ (raised_by (fixity_at pieces) best n p ≡ Some n)
    go (Some piece.Operand) best = inl refl
    go (Some piece.Minus) None = inr refl
    go (Some (piece.Operator f)) None = inr refl
    go None None = inr refl
    go (Some piece.Minus) (Some k) = chosen k (is_above (fixity_at pieces n) (fixity_at pieces k))
    go (Some (piece.Operator f)) (Some k) = chosen k (is_above (fixity_at pieces n) (fixity_at pieces k))
    go None (Some k) = chosen k (is_above (fixity_at pieces n) (fixity_at pieces k))

-- what is found lies in the range
pub raised_within : (pieces : List Piece) (from : ℕ) (earlier best : Option ℕ) (n : ℕ) → best ≡ raised pieces earlier n → from ≤ n
    → IfSome earlier (λ k. (from ≤ k) × (k < n)) → IfSome best (λ k. (from ≤ k) × (k < n + 1))
raised_within pieces from earlier best n e h within = go best (raised_either pieces earlier n) e
  where
    further : (found : Option ℕ) → IfSome found (λ k. (from ≤ k) × (k < n)) → IfSome found (λ k. (from ≤ k) × (k < n + 1))
    further None k = tt
    further (Some j) k = (k.0, omega (arith, k.1))

    go : (found : Option ℕ) → (raised pieces earlier n ≡ earlier) ⊎ (raised pieces earlier n ≡ Some n) → found ≡ raised pieces earlier n
        → IfSome found (λ k. (from ≤ k) × (k < n + 1))
    go found (inl left) same = subst (λ o. IfSome o (λ k. (from ≤ k) × (k < n + 1))) (sym (same ∙ left)) (further earlier within)
    go found (inr new) same = subst (λ o. IfSome o (λ k. (from ≤ k) × (k < n + 1))) (sym (same ∙ new)) (h, omega arith)
