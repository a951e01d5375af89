-- What is counted of a round, and of the rounds that are left.
use Rattle.std.proofs.Common.{◌≡◌, ℕ, ◌+◌, ◌<◌, ◌≤◌, true, false, List, [], ◌∷◌, ◌++◌, Option, None, Some, length, map, refl, sym, ap, subst, ◌∙◌, drop, get_or}
use Rattle.std.proofs.lemmas.List.{drop_all, drop_more}
use Rattle.std.specs.Option.{is_some}
use Rattle.cu_machine.specs.declared.End.{End}
use Rattle.cu_machine.specs.Listing.{Line, Round, Tally, after_lines, round_of}
use Rattle.cu_machine.specs.Next.{Next}
use Rattle.cu_search.specs.declared.totals.Totals.{Totals}
use Rattle.cu_search.specs.Standing.{Standing, end_at, left_of, round_at}
use Rattle.cu_search.specs.Totals.{and_line, and_lines, no_lines, totals_of}
use Rattle.cu_search.proofs.ListingLemmas.{left-ends}
use Rattle.cu_search.proofs.RoundLemmas.{round_of-cons, round_of-nil, then_round, then_round-None, then_round-Some}

-- lines one after another
pub and_lines-append : (totals : Totals) (xs ys : List Line) → and_lines totals (xs ++ ys) ≡ and_lines (and_lines totals xs) ys
and_lines-append totals [] ys = refl
and_lines-append totals (line ∷ xs) ys = and_lines-append (and_line totals line) xs ys

-- What is left of a round, where what was before it was counted.
pub record CountLeft (first now : Totals) (whole rest : Round) : Type 0 where
  pub counted : and_lines first whole.lines ≡ and_lines now rest.lines
  pub tally : whole.tally ≡ rest.tally
  pub end : whole.end ≡ rest.end

-- A round was counted, and this is its count and its end.
pub record RoundCounted (first now : Totals) (whole : Round) (tally : Tally) (end : Option End) : Type 0 where
  pub counted : now ≡ and_lines first whole.lines
  pub tally_is : tally ≡ whole.tally
  pub end_is : end ≡ whole.end

-- the outcomes of the elements of a list from a place on
module _ {X : Type 0} (f : X → Next) (d : ℕ) (limit : Option ℕ) where
  abbrev pub one_of : Tally → X → Round
  one_of tally x = round_of d limit tally (f x ∷ [])

  abbrev pub rest_of : Tally → List X → ℕ → Round
  rest_of tally xs i = round_of d limit tally (map f (drop i xs))

  rest_of-cons : (tally : Tally) (xs : List X) (i : ℕ) (x : X) → i < length xs → x ≡ get_or xs i x
      → rest_of tally xs i ≡ then_round (one_of tally x) (λ after. rest_of after xs (i + 1))
  rest_of-cons tally xs i x below is =
      ap (λ ys. round_of d limit tally (map f ys)) (drop_more xs i x below ∙ ap (λ y. y ∷ drop (i + 1) xs) (sym is)) ∙ round_of-cons d limit tally (f x) (map f (drop (i + 1) xs))

  pub count_goes_on : (first now later : Totals) (whole : Round) (tally after : Tally) (xs : List X) (i : ℕ) (x : X) (end : Option End) → i < length xs → x ≡ get_or xs i x
      → CountLeft first now whole (rest_of tally xs i) → later ≡ and_lines now (one_of tally x).lines → after ≡ (one_of tally x).tally → end ≡ (one_of tally x).end
      → is_some end ≡ false → CountLeft first later whole (rest_of after xs (i + 1))
  count_goes_on first now later whole tally after xs i x (Some end) below is h k t e none = cc
  count_goes_on first now later whole tally after xs i x None below is h k t e none =
      let part = one_of tally x in
      let rest = rest_of part.tally xs (i + 1) in
      let same = rest_of-cons tally xs i x below is ∙ then_round-None part (λ next. rest_of next xs (i + 1)) (sym e) in
      subst (λ next. CountLeft first later whole (rest_of next xs (i + 1))) (sym t)
      (record {
        counted = h.counted ∙ ap (λ (round : Round). and_lines now round.lines) same ∙ and_lines-append now part.lines rest.lines
            ∙ ap (λ (totals : Totals). and_lines totals rest.lines) (sym k);
        tally = h.tally ∙ ap (λ (round : Round). round.tally) same;
        end = h.end ∙ ap (λ (round : Round). round.end) same;
      })

  pub count_ends : (first now later : Totals) (whole : Round) (tally after : Tally) (xs : List X) (i : ℕ) (x : X) (end : Option End) → i < length xs → x ≡ get_or xs i x
      → CountLeft first now whole (rest_of tally xs i) → later ≡ and_lines now (one_of tally x).lines → after ≡ (one_of tally x).tally → end ≡ (one_of tally x).end
      → is_some end ≡ true → RoundCounted first later whole after end
  count_ends first now later whole tally after xs i x None below is h k t e some = cc
  count_ends first now later whole tally after xs i x (Some end) below is h k t e some =
      let part = one_of tally x in
      let same = rest_of-cons tally xs i x below is ∙ then_round-Some part (λ next. rest_of next xs (i + 1)) end (sym e) in
      record {
        counted = k ∙ sym (h.counted ∙ ap (λ (round : Round). and_lines now round.lines) same);
        tally_is = t ∙ sym (h.tally ∙ ap (λ (round : Round). round.tally) same);
        end_is = e ∙ sym (h.end ∙ ap (λ (round : Round). round.end) same);
      }

  pub all_counted : (first now : Totals) (whole : Round) (tally : Tally) (xs : List X) (i : ℕ) → length xs ≤ i
      → CountLeft first now whole (rest_of tally xs i) → RoundCounted first now whole tally None
  all_counted first now whole tally xs i past h =
      let same = ap (λ ys. round_of d limit tally (map f ys)) (drop_all i xs past) ∙ round_of-nil d limit tally in
      record {
        counted = sym (h.counted ∙ ap (λ (round : Round). and_lines now round.lines) same);
        tally_is = sym (h.tally ∙ ap (λ (round : Round). round.tally) same);
        end_is = sym (h.end ∙ ap (λ (round : Round). round.end) same);
      }

-- What is left of what a search had to list, where what was before it was counted.
pub record TotalsLeft (now : Totals) (first s : Standing) : Type 0 where
  pub counted : totals_of (left_of first) ≡ and_lines now (left_of s).lines
  pub end : (left_of first).end ≡ (left_of s).end

pub totals-begin : (now : Totals) (s : Standing) → now ≡ no_lines → TotalsLeft now s s
totals-begin now s is = record { counted = ap (λ (totals : Totals). and_lines totals (left_of s).lines) (sym is); end = refl }

-- a round was counted
pub totals-go_on : (now later : Totals) (first s after : Standing) → left_of s ≡ after_lines (round_at s).lines (left_of after)
    → TotalsLeft now first s → later ≡ and_lines now (round_at s).lines → TotalsLeft later first after
totals-go_on now later first s after left h k = record {
  counted = h.counted ∙ ap (λ listing. and_lines now listing.lines) left ∙ and_lines-append now (round_at s).lines (left_of after).lines
      ∙ ap (λ (totals : Totals). and_lines totals (left_of after).lines) (sym k);
  end = h.end ∙ ap (λ listing. listing.end) left;
}

-- the last round was counted
pub totals-end : (now later : Totals) (first s : Standing) (end : End) → s.round ≤ s.limits.rounds → end_at s ≡ Some end
    → TotalsLeft now first s → later ≡ and_lines now (round_at s).lines → later ≡ totals_of (left_of first)
totals-end now later first s end within some h k =
    k ∙ sym (h.counted ∙ ap (λ listing. and_lines now listing.lines) (left-ends s end within some) ∙ and_lines-append now (round_at s).lines [])
