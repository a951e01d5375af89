-- What rows match goes over to other rows that have those that are used.
use Rattle.std.proofs.Common.{◌≡◌, ℕ, zero, suc, Bool, false, List, [], ◌∷◌, Some, refl, arith}
use Rattle.std.specs.Prelude.{All, slice_get}
use Rattle.cu_peg.specs.declared.class.Class.{Class}
use Rattle.cu_peg.specs.declared.row.Row.{Row}
use Rattle.cu_peg.specs.Matches as m
use Rattle.cu_peg.specs.Matches.{Fails, Matches, RowFails, RowMatches}
use Rattle.cu_peg.specs.Parse.{ParseTree}
use Rattle.cu_peg.specs.WellFormed.{named}
use Rattle.cu_peg.proofs.FoundedRows.{All-tail}
use Rattle.cu_peg.proofs.KeptLemmas.{is_nothing}

-- what matches something isn't the row that matches nothing
pub matches-some : {T : Type 0} (rows : List Row) (has : Class → T → Bool) (e : Row) (text rest : List T) (tree : ParseTree T) → RowMatches rows has e text rest tree → is_nothing e ≡ false
matches-some rows has _ _ _ _ (m.token c x rest h) = refl
matches-some rows has _ _ _ _ (m.empty text) = refl
matches-some rows has _ _ _ _ (m.sequence p ps text after rest tree trees d more) = refl
matches-some rows has _ _ _ _ (m.first p ps text rest tree d) = refl
matches-some rows has _ _ _ _ (m.later p ps text rest n tree f d) = refl
matches-some rows has _ _ _ _ (m.present p text rest tree d) = refl
matches-some rows has _ _ _ _ (m.absent p text f) = refl
matches-some rows has _ _ _ _ (m.no_more p text f) = refl
matches-some rows has _ _ _ _ (m.one_more p text after rest tree trees d more) = refl
matches-some rows has _ _ _ _ (m.at_least_one p text after rest tree trees d more) = refl
matches-some rows has _ _ _ _ (m.last p s text rest tree d f) = refl
matches-some rows has _ _ _ _ (m.separated p s text after suffix rest tree separator trees d b more) = refl
matches-some rows has _ _ _ _ (m.ahead p text rest tree d) = refl
matches-some rows has _ _ _ _ (m.not_ahead p text f) = refl

module _ {T : Type 0} (rows rows' : List Row) (has : Class → T → Bool) (W : ℕ → Type 0) (agree : (r : ℕ) (e : Row) → W r → slice_get rows r ≡ Some e → (slice_get rows' r ≡ Some e) × All W (named e)) where
  head : (p : ℕ) (ps : List ℕ) → All W (p ∷ ps) → W p
  head p ps all = all 0 p (omega arith)

  pair : (s p : ℕ) → All W (p ∷ s ∷ []) → All W (s ∷ p ∷ [])
  pair s p all zero d h = all 1 s (omega arith)
  pair s p all (suc zero) d h = all 0 p (omega arith)
  pair s p all (suc (suc k)) d h = absurd (omega arith)

  mutual
    pub matches-over : {r : ℕ} {text rest : List T} {tree : ParseTree T} → Matches rows has r text rest tree → W r → Matches rows' has r text rest tree
    matches-over (m.matches r e text rest tree is d) expected = let a = agree r e expected is in m.matches r e text rest tree a.0 (row-matches-over d a.1)

    fails-over : {r : ℕ} {text : List T} → Fails rows has r text → W r → Fails rows' has r text
    fails-over (m.fails r e text is f) expected = let a = agree r e expected is in m.fails r e text a.0 (row-fails-over f a.1)

    row-matches-over : {e : Row} {text rest : List T} {tree : ParseTree T} → RowMatches rows has e text rest tree → All W (named e) → RowMatches rows' has e text rest tree
    row-matches-over (m.token c x rest h) all = m.token c x rest h
    row-matches-over (m.empty text) all = m.empty text
    row-matches-over (m.sequence p ps text after rest tree trees d more) all = m.sequence p ps text after rest tree trees (matches-over d (head p ps all)) (row-matches-over more (All-tail W p ps all))
    row-matches-over (m.first p ps text rest tree d) all = m.first p ps text rest tree (matches-over d (head p ps all))
    row-matches-over (m.later p ps text rest n tree f d) all = m.later p ps text rest n tree (fails-over f (head p ps all)) (row-matches-over d (All-tail W p ps all))
    row-matches-over (m.present p text rest tree d) all = m.present p text rest tree (matches-over d (head p [] all))
    row-matches-over (m.absent p text f) all = m.absent p text (fails-over f (head p [] all))
    row-matches-over (m.no_more p text f) all = m.no_more p text (fails-over f (head p [] all))
    row-matches-over (m.one_more p text after rest tree trees d more) all = m.one_more p text after rest tree trees (matches-over d (head p [] all)) (row-matches-over more all)
    row-matches-over (m.at_least_one p text after rest tree trees d more) all = m.at_least_one p text after rest tree trees (matches-over d (head p [] all)) (row-matches-over more all)
    row-matches-over (m.last p s text rest tree d f) all = m.last p s text rest tree (matches-over d (head p (s ∷ []) all)) (row-fails-over f (pair s p all))
    row-matches-over (m.separated p s text after suffix rest tree separator trees d b more) all =
        m.separated p s text after suffix rest tree separator trees (matches-over d (head p (s ∷ []) all)) (matches-over b (head s (p ∷ []) (pair s p all))) (row-matches-over more all)
    row-matches-over (m.ahead p text rest tree d) all = m.ahead p text rest tree (matches-over d (head p [] all))
    row-matches-over (m.not_ahead p text f) all = m.not_ahead p text (fails-over f (head p [] all))

    row-fails-over : {e : Row} {text : List T} → RowFails rows has e text → All W (named e) → RowFails rows' has e text
    row-fails-over (m.no_token c) all = m.no_token c
    row-fails-over (m.other_token c x rest h) all = m.other_token c x rest h
    row-fails-over (m.part_fails p ps text f) all = m.part_fails p ps text (fails-over f (head p ps all))
    row-fails-over (m.rest_fails p ps text after tree d f) all = m.rest_fails p ps text after tree (matches-over d (head p ps all)) (row-fails-over f (All-tail W p ps all))
    row-fails-over (m.no_alternative text) all = m.no_alternative text
    row-fails-over (m.all_fail p ps text f g) all = m.all_fail p ps text (fails-over f (head p ps all)) (row-fails-over g (All-tail W p ps all))
    row-fails-over (m.not_even_one p text f) all = m.not_even_one p text (fails-over f (head p [] all))
    row-fails-over (m.no_part p s text f) all = m.no_part p s text (fails-over f (head p (s ∷ []) all))
    row-fails-over (m.not_found p text f) all = m.not_found p text (fails-over f (head p [] all))
    row-fails-over (m.found p text rest tree d) all = m.found p text rest tree (matches-over d (head p [] all))
