-- The pieces of a text, one by one.
use Rattle.std.proofs.Common.{◌≡◌, ℕ, zero, suc, ◌<◌, ◌≤◌, List, [], ◌∷◌, length, Option, Some, None, refl, ap, ◌∙◌, arith}
use Rattle.std.proofs.lemmas.List.{length-append}
use Rattle.cu_lex.specs.Laws.{StepsSuffice}
use Rattle.cu_lex.specs.Located.{Located}
use Rattle.cu_lex.specs.Munch.{Classes, Cut, longest, cut_within, cut_all, no_pieces, with_piece, pieces_from}
use Rattle.cu_lex.proofs.MunchLemmas.{longest-is}

module _ {X : Type 0} (classes : Classes X) where
  pub rest-shorter : (text : List Located) (cut : Cut X) → longest classes text ≡ Some cut → length cut.rest < length text
  rest-shorter text cut is =
      let law = longest-is classes text cut is in
      let some = law.some in
      omega (arith, ap length law.whole, length-append cut.prefix cut.rest)

  -- more steps than characters change nothing
  pub cut-enough : (n m : ℕ) (text : List Located) → length text ≤ n → length text ≤ m → cut_within classes n text ≡ cut_within classes m text
  unfolding cut_within
  cut-enough zero zero text fits fits' = refl
  cut-enough zero (suc m) [] fits fits' = refl
  cut-enough zero (suc m) (c ∷ text) fits fits' = absurd (omega arith)
  cut-enough (suc n) zero [] fits fits' = refl
  cut-enough (suc n) zero (c ∷ text) fits fits' = absurd (omega arith)
  cut-enough (suc n) (suc m) [] fits fits' = refl
  cut-enough (suc n) (suc m) (c ∷ text) fits fits' =
      by (λ rest a b. cut-enough n m rest a b) (longest classes (c ∷ text)) refl
    where
      by : ((rest : List Located) → length rest ≤ n → length rest ≤ m → cut_within classes n rest ≡ cut_within classes m rest)
          → (o : Option (Cut X)) → longest classes (c ∷ text) ≡ o → pieces_from (cut_within classes n) c text o ≡ pieces_from (cut_within classes m) c text o
      by more None is = refl
      by more (Some cut) is =
          let shorter = rest-shorter (c ∷ text) cut is in
          ap (with_piece cut.what c.at) (more cut.rest (omega arith) (omega arith))

  pub cut-step : (c : Located) (text : List Located) (cut : Cut X) → longest classes (c ∷ text) ≡ Some cut → cut_all classes (c ∷ text) ≡ with_piece cut.what c.at (cut_all classes cut.rest)
  unfolding cut_within
  cut-step c text cut is =
      let shorter = rest-shorter (c ∷ text) cut is in
      ap (pieces_from (cut_within classes (length text)) c text) is
      ∙ ap (with_piece cut.what c.at) (cut-enough (length text) (length cut.rest) cut.rest (omega arith) (omega arith))

  pub cut-none : (text : List Located) → longest classes text ≡ None → cut_all classes text ≡ no_pieces text
  unfolding cut_within
  cut-none [] is = refl
  cut-none (c ∷ text) is = ap (pieces_from (cut_within classes (length text)) c text) is

  pub steps_suffice : StepsSuffice classes
  steps_suffice = λ n text fits. cut-enough n (length text) text fits (omega arith)
