-- The shapes of the values after a cell, on a stack.
use Rattle.std.specs.Prelude.{◌≡◌, ℕ, zero, suc, ◌+◌, ◌-◌, ◌<◌, ◌≤◌, ◌⊎◌, false, List, [], ◌∷◌, ◌++◌, length, refl}
use Rattle.std.proofs.Common.{ap, append-nil, append_assoc, arith, drop, drop-cons, get_or, length-append, inl, inr, reverse, sym, subst, take, ◌∙◌}
use Rattle.std.proofs.lemmas.List.{reverse-append}
use Rattle.std.proofs.Math.Seq.{take-append_seam}
use Rattle.cu_calculus.specs.declared.ConId.{ConId}
use Rattle.cu_calculus.specs.Match.{same_constructor}
use Rattle.cu_calculus.specs.Value as value
use Rattle.cu_calculus.specs.Value.{Value, Values, count}
use Rattle.cu_values.specs.declared.cell.Cell.{Cell}
use Rattle.cu_values.specs.declared.cell.Cell.TheVariants as cell
use Rattle.cu_values.specs.declared.shape.Shape.{Shape}
use Rattle.cu_values.specs.Cells.{arity_of, suffix, first, prefix, put, read_all, IsSpelled}
use Rattle.cu_values.specs.Display.{Labels}
use Rattle.cu_values.specs.Inside.Shapes.{other_shape, shape_of, shapes_at, stacked}
use Rattle.cu_values.specs.Spelling.{join}
use Rattle.cu_values.proofs.CellLemmas.{count-prefix-suffix, join-prefix-suffix}
use Rattle.cu_values.proofs.OrderLemmas.{put_parts, whole_enough}
use Rattle.cu_values.proofs.PlaceLemmas.{here, spelled_drop, Here}

pub length-stacked : (labels : Labels) (vs : Values) → length (stacked labels vs) ≡ count vs
length-stacked labels value.NoValue = refl
length-stacked labels (value.MoreValues v vs) =
    length-append (stacked labels vs) (shape_of labels v ∷ []) ∙ ap (λ n. n + 1) (length-stacked labels vs)

pub stacked-join : (labels : Labels) (us vs : Values) → stacked labels (join us vs) ≡ stacked labels vs ++ stacked labels us
stacked-join labels value.NoValue vs = sym (append-nil (stacked labels vs))
stacked-join labels (value.MoreValues u us) vs =
    ap (λ (x : List Shape). x ++ shape_of labels u ∷ []) (stacked-join labels us vs) ∙ append_assoc (stacked labels vs) (stacked labels us) (shape_of labels u ∷ [])

-- without the shapes of the first values
pub stacked-suffix : (labels : Labels) (n : ℕ) (vs : Values) → count (prefix n vs) ≡ n
    → take (length (stacked labels vs) - n) (stacked labels vs) ≡ stacked labels (suffix n vs)
stacked-suffix labels n vs whole =
    let parts : stacked labels vs ≡ stacked labels (suffix n vs) ++ stacked labels (prefix n vs) =
    ap (λ (x : Values). stacked labels x) (sym (join-prefix-suffix n vs)) ∙ stacked-join labels (prefix n vs) (suffix n vs) in
    let long : length (stacked labels vs) - n ≡ length (stacked labels (suffix n vs)) =
    omega (arith, length-stacked labels vs, length-stacked labels (suffix n vs), count-prefix-suffix n vs, whole) in
    rw long (ap (λ (x : List Shape). take (length (stacked labels (suffix n vs))) x) parts ∙ take-append_seam (stacked labels (suffix n vs)) (stacked labels (prefix n vs)))

-- an application that is no `:` with two arguments
pub other_shown : (labels : Labels) (c : ConId) (n : ℕ) (vs : Values) → (n ≡ 0 → ⊥) → n ≤ count vs
    → (n ≡ 2 → ⊥) ⊎ (same_constructor c labels.cons ≡ false) → other_shape labels c ≡ shape_of labels (value.Constructed c (prefix n vs))
other_shown labels c zero vs some enough differs = absurd (some refl)
other_shown labels c (suc n) value.NoValue some enough differs = absurd (omega (arith, enough))
other_shown labels c (suc zero) (value.MoreValues v vs) some enough differs = refl
other_shown labels c (suc (suc n)) (value.MoreValues v value.NoValue) some enough differs = absurd (omega (arith, enough))
other_shown labels c (suc (suc zero)) (value.MoreValues v (value.MoreValues w vs)) some enough (inl no_two) = absurd (no_two refl)
other_shown labels c (suc (suc zero)) (value.MoreValues v (value.MoreValues w vs)) some enough (inr other) = rw other refl
other_shown labels c (suc (suc (suc n))) (value.MoreValues v (value.MoreValues w value.NoValue)) some enough differs = absurd (omega (arith, enough))
other_shown labels c (suc (suc (suc n))) (value.MoreValues v (value.MoreValues w (value.MoreValues x vs))) some enough differs = refl

pub other_is : (labels : Labels) (c : ConId) (n : ℕ) (vs : Values) (shapes : List Shape) → shapes ≡ stacked labels vs → (n ≡ 0 → ⊥) → n ≤ length shapes
    → (n ≡ 2 → ⊥) ⊎ (same_constructor c labels.cons ≡ false) → other_shape labels c ≡ shape_of labels (value.Constructed c (prefix n vs))
other_is labels c n vs shapes e some enough differs =
    other_shown labels c n vs some (omega (arith, enough, ap length e, length-stacked labels vs)) differs

-- One cell to the left.

pub stack_room : (labels : Labels) (cells : List Cell) (at : ℕ) (shapes : List Shape) → IsSpelled cells → 0 < at → at ≤ length cells
    → shapes ≡ stacked labels (read_all (drop at cells)) → arity_of (get_or cells (at - 1) cell.Bottom) ≤ length shapes
stack_room labels cells at shapes spelled some within e =
    let c = get_or cells (at - 1) cell.Bottom in
    let p : Here cells (at - 1) c = here cells (at - 1) c (omega arith) refl (spelled_drop cells (at - 1) spelled) in
    let n : at - 1 + 1 ≡ at = omega arith in
    let enough : arity_of c ≤ count (read_all (drop (at - 1 + 1) cells)) = whole_enough c (drop (at - 1 + 1) cells) p.after in
    let enough_here : arity_of c ≤ count (read_all (drop at cells)) = subst (λ (x : ℕ). arity_of c ≤ count (read_all (drop x cells))) n enough in
    omega (arith, enough_here, ap length e, length-stacked labels (read_all (drop at cells)))

pub stack_left : (labels : Labels) (cells : List Cell) (at : ℕ) (shapes : List Shape) → IsSpelled cells → 0 < at → at ≤ length cells
    → shapes ≡ stacked labels (read_all (drop at cells))
    → take (length shapes - arity_of (get_or cells (at - 1) cell.Bottom)) shapes ++ shape_of labels (first (put (get_or cells (at - 1) cell.Bottom) (read_all (drop at cells)))) ∷ []
    ≡ stacked labels (read_all (drop (at - 1) cells))
stack_left labels cells at shapes spelled some within e =
    let c = get_or cells (at - 1) cell.Bottom in
    let p : Here cells (at - 1) c = here cells (at - 1) c (omega arith) refl (spelled_drop cells (at - 1) spelled) in
    let n : at - 1 + 1 ≡ at = omega arith in
    let vs = read_all (drop at cells) in
    let read : read_all (drop (at - 1) cells) ≡ put c vs = subst (λ (x : ℕ). read_all (drop (at - 1) cells) ≡ put c (read_all (drop x cells))) n p.read in
    let whole : count (prefix (arity_of c) vs) ≡ arity_of c = subst (λ (x : ℕ). count (prefix (arity_of c) (read_all (drop x cells))) ≡ arity_of c) n p.after.whole in
    rw (e, stacked-suffix labels (arity_of c) vs whole)
    (ap (λ (x : Values). stacked labels x) (sym (put_parts c vs)) ∙ ap (λ (x : Values). stacked labels x) (sym read))

pub found_left : (labels : Labels) (cells : List Cell) (at : ℕ) (found longer : List Shape) (s : Shape) → IsSpelled cells → 0 < at → at ≤ length cells
    → reverse found ≡ shapes_at labels (drop at cells) → longer ≡ found ++ s ∷ []
    → s ≡ shape_of labels (first (put (get_or cells (at - 1) cell.Bottom) (read_all (drop at cells))))
    → reverse longer ≡ shapes_at labels (drop (at - 1) cells)
found_left labels cells at found longer s spelled some within e f g =
    let c = get_or cells (at - 1) cell.Bottom in
    let n : suc (at - 1) ≡ at = omega arith in
    let cut : drop (at - 1) cells ≡ c ∷ drop at cells =
    subst (λ (x : ℕ). drop (at - 1) cells ≡ c ∷ drop x cells) n (drop-cons cells (at - 1) cell.Bottom (omega arith)) in
    rw (f, reverse-append found (s ∷ []), e, g) (ap (λ (x : List Cell). shapes_at labels x) (sym cut))

pub stack_step : (labels : Labels) (cells : List Cell) (at : ℕ) (shapes : List Shape) (n : ℕ) (cut pushed : List Shape) (s : Shape) → IsSpelled cells → 0 < at
    → at ≤ length cells → shapes ≡ stacked labels (read_all (drop at cells)) → n ≡ length shapes - arity_of (get_or cells (at - 1) cell.Bottom)
    → cut ≡ take n shapes → pushed ≡ cut ++ s ∷ [] → s ≡ shape_of labels (first (put (get_or cells (at - 1) cell.Bottom) (read_all (drop at cells))))
    → pushed ≡ stacked labels (read_all (drop (at - 1) cells))
stack_step labels cells at shapes n cut pushed s spelled some within e m f g h =
    g ∙ ap (λ (x : List Shape). x ++ s ∷ []) (f ∙ ap (λ k. take k shapes) m)
    ∙ ap (λ (x : Shape). take (length shapes - arity_of (get_or cells (at - 1) cell.Bottom)) shapes ++ x ∷ []) h
    ∙ stack_left labels cells at shapes spelled some within e
