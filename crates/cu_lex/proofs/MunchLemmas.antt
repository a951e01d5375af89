-- The prefix that `longest` gives is the longest of a class.
use Rattle.std.proofs.Common.{◌≡◌, ◌<◌, ◌≤◌, List, [], ◌∷◌, ◌++◌, length, Option, None, Some, IsSome, is_some, refl, sym, ap, subst, ◌∙◌, append_assoc, true≢false, arith}
use Rattle.std.specs.Option.{option_map, option_or}
use Rattle.cu_lex.specs.Laws.{GivesLongest, GivesNone}
use Rattle.cu_lex.specs.Located.{Located}
use Rattle.cu_lex.specs.Munch.{Classes, Cut, cut_at, longest_after, longest, IsLongest}

-- a prefix's parts
same_prefix : (prefix other rest left : List Located) → prefix ++ rest ≡ other ++ left → length prefix ≡ length other → (prefix ≡ other) × (rest ≡ left)
same_prefix [] [] rest left whole sizes = (refl, whole)
same_prefix [] (d ∷ other) rest left whole sizes = absurd (omega arith)
same_prefix (c ∷ prefix) [] rest left whole sizes = absurd (omega arith)
same_prefix (c ∷ prefix) (d ∷ other) rest left whole sizes =
    let heads : c ≡ d = cc in
    let tails : prefix ++ rest ≡ other ++ left = cc in
    let more = same_prefix prefix other rest left tails (omega arith) in
    ((λ j. heads j ∷ more.0 j), more.1)

module _ {X : Type 0} (classes : Classes X) where
  -- what `longest_after` gives
  record Found (begun text : List Located) (cut : Cut X) : Type 0 where
    after : List Located
    prefix_is : cut.prefix ≡ begun ++ after
    whole : after ++ cut.rest ≡ text
    some : 0 < length after
    allowed : classes cut.prefix cut.rest ≡ Some cut.what
    most : (prefix rest : List Located) → prefix ++ rest ≡ text → 0 < length prefix → IsSome (classes (begun ++ prefix) rest) → length prefix ≤ length after

  abbrev IsNowhere : List Located → List Located → Type 0
  IsNowhere begun text = (prefix rest : List Located) → prefix ++ rest ≡ text → 0 < length prefix → classes (begun ++ prefix) rest ≡ None

  -- one more character at the beginning
  nowhere_step : (begun text : List Located) (c : Located) → classes (begun ++ c ∷ []) text ≡ None → IsNowhere (begun ++ c ∷ []) text → IsNowhere begun (c ∷ text)
  nowhere_step begun text c here later [] rest whole some = absurd (omega arith)
  nowhere_step begun text c here later (d ∷ []) rest whole some =
      let heads : d ≡ c = cc in
      let tails : rest ≡ text = cc in
      rw (heads, tails) here
  nowhere_step begun text c here later (d ∷ e ∷ prefix) rest whole some =
      let heads : d ≡ c = cc in
      let tails : (e ∷ prefix) ++ rest ≡ text = cc in
      rw heads (ap (λ f. classes f rest) (sym (append_assoc begun (c ∷ []) (e ∷ prefix))) ∙ later (e ∷ prefix) rest tails (omega arith))

  found_later : (begun text : List Located) (c : Located) (cut : Cut X) → Found (begun ++ c ∷ []) text cut → Found begun (c ∷ text) cut
  found_later begun text c cut found = record {
    after = c ∷ found.after;
    prefix_is = found.prefix_is ∙ append_assoc begun (c ∷ []) found.after;
    whole = ap (λ t. c ∷ t) found.whole;
    some = omega arith;
    allowed = found.allowed;
    most = most;
  }
    where
      most : (prefix rest : List Located) → prefix ++ rest ≡ c ∷ text → 0 < length prefix → IsSome (classes (begun ++ prefix) rest) → length prefix ≤ length (c ∷ found.after)
      most [] rest whole some is = omega arith
      most (d ∷ []) rest whole some is = omega arith
      most (d ∷ e ∷ prefix) rest whole some is =
          let heads : d ≡ c = cc in
          let tails : (e ∷ prefix) ++ rest ≡ text = cc in
          let moved : begun ++ d ∷ e ∷ prefix ≡ (begun ++ c ∷ []) ++ (e ∷ prefix) = ap (λ x. begun ++ x ∷ e ∷ prefix) heads ∙ sym (append_assoc begun (c ∷ []) (e ∷ prefix)) in
          let shorter = found.most (e ∷ prefix) rest tails (omega arith) (subst (λ f. IsSome (classes f rest)) moved is) in
          omega arith

  found_here : (begun text : List Located) (c : Located) (what : X) → IsNowhere (begun ++ c ∷ []) text → classes (begun ++ c ∷ []) text ≡ Some what → Found begun (c ∷ text) (cut_at (begun ++ c ∷ []) text what)
  found_here begun text c what later here = record {
    after = c ∷ [];
    prefix_is = refl;
    whole = refl;
    some = omega arith;
    allowed = here;
    most = most;
  }
    where
      most : (prefix rest : List Located) → prefix ++ rest ≡ c ∷ text → 0 < length prefix → IsSome (classes (begun ++ prefix) rest) → length prefix ≤ 1
      most [] rest whole some is = omega arith
      most (d ∷ []) rest whole some is = omega arith
      most (d ∷ e ∷ prefix) rest whole some is =
          let heads : d ≡ c = cc in
          let tails : (e ∷ prefix) ++ rest ≡ text = cc in
          let moved : begun ++ d ∷ e ∷ prefix ≡ (begun ++ c ∷ []) ++ (e ∷ prefix) = ap (λ x. begun ++ x ∷ e ∷ prefix) heads ∙ sym (append_assoc begun (c ∷ []) (e ∷ prefix)) in
          let none = later (e ∷ prefix) rest tails (omega arith) in
          absurd (true≢false (sym is ∙ ap (λ f. is_some (classes f rest)) moved ∙ ap is_some none))

  -- what `longest_after` gives, by its answer
  abbrev Answers : List Located → List Located → Option (Cut X) → Type 0
  Answers begun text None = IsNowhere begun text
  Answers begun text (Some cut) = Found begun text cut

  answers : (begun text : List Located) → Answers begun text (longest_after classes begun text)
  unfolding longest_after
  answers begun [] = none
    where
      none : IsNowhere begun []
      none [] rest whole some = absurd (omega arith)
      none (c ∷ prefix) rest whole some = cc
  answers begun (c ∷ text) = by (longest_after classes (begun ++ c ∷ []) text) (answers (begun ++ c ∷ []) text) (classes (begun ++ c ∷ []) text) refl
    where
      by : (later : Option (Cut X)) → Answers (begun ++ c ∷ []) text later → (here : Option X) → classes (begun ++ c ∷ []) text ≡ here → Answers begun (c ∷ text) (option_or later (option_map (cut_at (begun ++ c ∷ []) text) here))
      by (Some cut) found here is = found_later begun text c cut found
      by None nowhere (Some what) is = found_here begun text c what nowhere is
      by None nowhere None is = nowhere_step begun text c is nowhere

  -- the answer of `longest`, by cases
  pub longest_from_none : (text : List Located) → ((prefix rest : List Located) → prefix ++ rest ≡ text → 0 < length prefix → classes prefix rest ≡ None) → longest classes text ≡ None
  longest_from_none text nowhere = by (longest classes text) (answers [] text)
    where
      by : (o : Option (Cut X)) → Answers [] text o → o ≡ None
      by None a = refl
      by (Some cut) found =
          let none = nowhere found.after cut.rest found.whole found.some in
          let here : classes found.after cut.rest ≡ Some cut.what = subst (λ f. classes f cut.rest ≡ Some cut.what) found.prefix_is found.allowed in
          cc

  pub none_from_longest : (text : List Located) → longest classes text ≡ None → (prefix rest : List Located) → prefix ++ rest ≡ text → 0 < length prefix → classes prefix rest ≡ None
  none_from_longest text is = subst (Answers [] text) is (answers [] text)

  pub longest-is : (text : List Located) (cut : Cut X) → longest classes text ≡ Some cut → IsLongest classes text cut
  longest-is text cut is =
      let found = subst (Answers [] text) is (answers [] text) in
      record {
        whole = ap (λ f. f ++ cut.rest) found.prefix_is ∙ found.whole;
        some = subst (λ f. 0 < length f) (sym found.prefix_is) found.some;
        allowed = found.allowed;
        most = λ prefix rest whole is. most found prefix rest whole is;
      }
    where
      most : Found [] text cut → (prefix rest : List Located) → prefix ++ rest ≡ text → IsSome (classes prefix rest) → length prefix ≤ length cut.prefix
      most found [] rest whole is = omega arith
      most found (c ∷ prefix) rest whole is = subst (λ f. length (c ∷ prefix) ≤ length f) (sym found.prefix_is) (found.most (c ∷ prefix) rest whole (omega arith) is)

  pub is-longest : (text : List Located) (cut : Cut X) → IsLongest classes text cut → longest classes text ≡ Some cut
  is-longest text cut law = by (longest classes text) refl
    where
      by : (o : Option (Cut X)) → longest classes text ≡ o → o ≡ Some cut
      by None is =
          let none = none_from_longest text is cut.prefix cut.rest law.whole law.some in
          let here = law.allowed in
          cc
      by (Some other) is =
          let found = longest-is text other is in
          let shorter : length cut.prefix ≤ length other.prefix = found.most cut.prefix cut.rest law.whole (ap is_some law.allowed) in
          let longer : length other.prefix ≤ length cut.prefix = law.most other.prefix other.rest found.whole (ap is_some found.allowed) in
          let same = same_prefix other.prefix cut.prefix other.rest cut.rest (found.whole ∙ sym law.whole) (omega arith) in
          let what : Some other.what ≡ Some cut.what = sym found.allowed ∙ (λ j. classes (same.0 j) (same.1 j)) ∙ law.allowed in
          let whats : other.what ≡ cut.what = cc in
          (λ j. Some (cut_at (same.0 j) (same.1 j) (whats j)))

  pub gives_longest : GivesLongest classes
  gives_longest text cut = (longest-is text cut, is-longest text cut)

  pub gives_none : GivesNone classes
  gives_none text = (none_from_longest text, longest_from_none text)
