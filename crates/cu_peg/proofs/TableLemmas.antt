-- The table over the places that are finished and the one that is filled.
use Rattle.std.proofs.Common.{◌≡◌, ◌∙◌, ℕ, ◌+◌, ◌<◌, ◌≤◌, Bool, List, [], ◌∷◌, ◌++◌, Option, None, Some, length, length-append, get_or, set, refl, ap, sym, subst, arith, append-nil, zero-add}
use Rattle.std.specs.Option.{option_map, option_to_list, IfSome}
use Rattle.std.proofs.Math.Seq.{get_or-append_seam, set-append_seam}
use Rattle.std.proofs.lemmas.List.{get_or_append_left, get_or_past}
use Rattle.cu_peg.specs.declared.places.Entry.{Entry}
use Rattle.cu_peg.specs.declared.table.End.{End}
use Rattle.cu_peg.specs.Inside.Ends.{end_at}
use Rattle.cu_peg.specs.Inside.Places.{IsTable, TableView, cell, column, columns, span_at}
use Rattle.cu_peg.proofs.PlaceLemmas.{cell-at, cell-past, column-at, length-columns}

module _ (certain : List Bool) (es : List Entry) (begins : List ℕ) where
  finished : List (List (Option End))
  finished = columns certain es begins 0

  long : length (columns certain es begins 0) ≡ length begins
  long = length-columns certain es begins 0

  pub len-some : (filled : Option (List (Option End))) (x : List (Option End)) (n : ℕ) → n ≡ length begins → filled ≡ Some x → n + 1 ≡ length (columns certain es begins 0 ++ option_to_list filled)
  len-some filled x n is at =
      omega (arith, long, length-append (columns certain es begins 0) (x ∷ [])) ∙ ap (λ o. length (columns certain es begins 0 ++ option_to_list o)) (sym at)

  pub len-none : (filled : Option (List (Option End))) (n : ℕ) → n ≡ length begins → filled ≡ None → n ≡ length (columns certain es begins 0 ++ option_to_list filled)
  len-none filled n is at = is ∙ sym long ∙ sym (ap length (append-nil (columns certain es begins 0))) ∙ ap (λ o. length (columns certain es begins 0 ++ option_to_list o)) (sym at)

  kept-column : (filled : Option (List (Option End))) (left : ℕ) → left < length begins → get_or (columns certain es begins 0 ++ option_to_list filled) left [] ≡ column certain left (span_at es begins left)
  kept-column filled left h =
      get_or_append_left (columns certain es begins 0) (option_to_list filled) [] left (omega (arith, long)) ∙ column-at certain es begins 0 left h
      ∙ ap (λ n. column certain n (span_at es begins left)) (zero-add left)

  pub end-kept : (filled : Option (List (Option End))) (row left : ℕ) → left < length begins → row < length certain → end_at (columns certain es begins 0 ++ option_to_list filled) row left ≡ cell certain left (span_at es begins left) row
  end-kept filled row left h within = ap (λ c. get_or c row None) (kept-column filled left h) ∙ cell-at certain left (span_at es begins left) row within

  pub end-wide : (filled : Option (List (Option End))) (row left : ℕ) → left < length begins → length certain ≤ row → end_at (columns certain es begins 0 ++ option_to_list filled) row left ≡ None
  end-wide filled row left h past = ap (λ c. get_or c row None) (kept-column filled left h) ∙ cell-past certain left (span_at es begins left) row past

  filled-column : (x : List (Option End)) (left : ℕ) → left ≡ length begins → get_or (columns certain es begins 0 ++ x ∷ []) left [] ≡ x
  filled-column x left at = ap (λ n. get_or (columns certain es begins 0 ++ x ∷ []) n []) (at ∙ sym long) ∙ get_or-append_seam (columns certain es begins 0) x [] []

  pub end-filled : (filled : Option (List (Option End))) (x : List (Option End)) (row left : ℕ) → left ≡ length begins → filled ≡ Some x → end_at (columns certain es begins 0 ++ option_to_list filled) row left ≡ get_or x row None
  end-filled filled x row left at is = ap (λ o. end_at (columns certain es begins 0 ++ option_to_list o) row left) is ∙ ap (λ c. get_or c row None) (filled-column x left at)

  no-column : (filled : Option (List (Option End))) (row left : ℕ) → length (columns certain es begins 0 ++ option_to_list filled) ≤ left → end_at (columns certain es begins 0 ++ option_to_list filled) row left ≡ None
  no-column filled row left h = ap (λ c. get_or c row None) (get_or_past (columns certain es begins 0 ++ option_to_list filled) left [] h)

  pub end-empty : (filled : Option (List (Option End))) (row left : ℕ) → left ≡ length begins → filled ≡ None → end_at (columns certain es begins 0 ++ option_to_list filled) row left ≡ None
  end-empty filled row left at is = no-column filled row left (omega (arith, at, len-none filled (length begins) refl is))

  pub end-past : (filled : Option (List (Option End))) (row left : ℕ) → length begins < left → end_at (columns certain es begins 0 ++ option_to_list filled) row left ≡ None
  end-past None row left h = no-column None row left (omega (arith, len-none None (length begins) refl refl))
  end-past (Some x) row left h = no-column (Some x) row left (omega (arith, len-some (Some x) x (length begins) refl refl))

  -- an end is set at the place that is filled
  abbrev pub view-of : Option (List (Option End)) → TableView
  view-of filled = record { width = length certain; columns = columns certain es begins 0 ++ option_to_list filled }

  abbrev pub with-set : TableView → ℕ → ℕ → Option End → TableView
  with-set view left row end = record { width = view.width; columns = set view.columns left (set (get_or view.columns left []) row end) }

  set-plain : (x : List (Option End)) (row left : ℕ) (end : Option End) → length (view-of (Some x)).columns ≡ left + 1 → view-of (Some (set x row end)) ≡ with-set (view-of (Some x)) left row end
  set-plain x row left end count =
      let at : left ≡ length begins = omega (arith, count, long, length-append (columns certain es begins 0) (x ∷ [])) in
      ap (λ (cs : List (List (Option End))). record { width = length certain; columns = cs })
      (sym (set-append_seam (columns certain es begins 0) x [] (set x row end)) ∙ ap (λ n. set (columns certain es begins 0 ++ x ∷ []) n (set x row end)) (long ∙ sym at)
      ∙ ap (λ c. set (columns certain es begins 0 ++ x ∷ []) left (set c row end)) (sym (filled-column x left at)))

  set-some : (x : List (Option End)) (filled' : Option (List (Option End))) (view : TableView) (row left : ℕ) (end : Option End) → view-of (Some x) ≡ view → filled' ≡ Some (set x row end) → length view.columns ≡ left + 1
      → view-of filled' ≡ with-set view left row end
  set-some x filled' view row left end seen is count =
      ap view-of is ∙ subst (λ (v : TableView). length v.columns ≡ left + 1 → view-of (Some (set x row end)) ≡ with-set v left row end) seen (set-plain x row left end) count

  nothing-set : (view : TableView) (left : ℕ) → begins ≡ [] → view-of None ≡ view → length view.columns ≡ left + 1 → ⊥
  nothing-set view left none seen count =
      let empty : length view.columns ≡ length begins = ap (λ (v : TableView). length v.columns) (sym seen) ∙ sym (len-none None (length begins) refl refl) in
      omega (arith, empty, count, ap length none)

  pub set-any : (filled filled' : Option (List (Option End))) (view : TableView) (row left : ℕ) (end : Option End) → IsTable certain es begins filled → view-of filled ≡ view → filled' ≡ option_map (λ c. set c row end) filled
      → length view.columns ≡ left + 1 → view-of filled' ≡ with-set view left row end
  set-any None filled' view row left end is seen made count = absurd (nothing-set view left is.wide seen count)
  set-any (Some x) filled' view row left end is seen made count = set-some x filled' view row left end seen made count

  pub within-filled : (filled : Option (List (Option End))) (view : TableView) (row : ℕ) → IsTable certain es begins filled → view-of filled ≡ view → row < view.width → IfSome filled (λ column. row < length column)
  within-filled None view row is seen h = tt
  within-filled (Some x) view row is seen h = omega (arith, is.wide, ap (λ (v : TableView). v.width) seen)
