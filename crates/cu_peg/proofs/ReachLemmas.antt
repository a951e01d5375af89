-- Rows that are reached.
use Rattle.std.proofs.Common.{◌≡◌, ◌∙◌, ℕ, zero, suc, ◌+◌, ◌<◌, ◌⊎◌, inl, inr, ⊎_elim, Bool, true, false, List, [], ◌∷◌, ◌++◌, Some, length, length-append, get_or, set, length-set, take, replicate, refl, ap, sym, subst, arith}
use Rattle.std.specs.Prelude.{All, Contains, slice_get}
use Rattle.std.proofs.lemmas.List.{get_or-set_same, take_more}
use Rattle.std.proofs.lemmas.List.Elements.{All-append, Contains-append_left, Contains-push, Contains-push_cases}
use Rattle.cu_peg.specs.Inside.Closure.{marked}
use Rattle.cu_peg.specs.declared.row.Row.{Row}
use Rattle.cu_peg.specs.Inside.Reached.{IsReached, Spreads}
use Rattle.cu_peg.specs.WellFormed.{named}
use Rattle.cu_peg.proofs.ClosureLemmas.{marked-set, none_marked, set-marked, unmarked-set}

pub spreads-none : (marks : List Bool) (pending : List ℕ) → Spreads marks pending marks pending
spreads-none marks pending = record { long = refl; grows = λ r h. h; fresh = λ r h. inl h; keeps = λ r c. c; known = λ all r c. all r c; fewer = omega arith }

pub spreads-then : (a b c : List Bool) (p q s : List ℕ) → Spreads a p b q → Spreads b q c s → Spreads a p c s
spreads-then a b c p q s x y = record {
  long = y.long ∙ x.long;
  grows = λ r h. y.grows r (x.grows r h);
  fresh = λ r h. ⊎_elim (λ old. ⊎_elim (λ older. inl older) (λ new. inr (y.keeps r new)) (x.fresh r old)) (λ new. inr new) (y.fresh r h);
  keeps = λ r h. y.keeps r (x.keeps r h);
  known = λ all. y.known (x.known all);
  fewer = omega (arith, x.fewer, y.fewer);
}

pub spreads-one : (marks marks' : List Bool) (pending pending' : List ℕ) (row : ℕ) → row < length marks → marked marks row ≡ false → marks' ≡ set marks row true → pending' ≡ pending ++ row ∷ [] → Spreads marks pending marks' pending'
spreads-one marks marks' pending pending' row h new made pushed =
    subst (λ ms. Spreads marks pending ms pending') (sym made) (subst (λ ps. Spreads marks pending (set marks row true) ps) (sym pushed) plain)
  where
    at_row : marked (set marks row true) row ≡ true
    at_row = get_or-set_same marks row true false h

    plain : Spreads marks pending (set marks row true) (pending ++ row ∷ [])
    plain = record {
      long = length-set marks row true;
      grows = λ r old. set-marked marks row r h old;
      fresh = λ r is. ⊎_elim (λ same. inr (subst (Contains (pending ++ row ∷ [])) (sym same) (Contains-push pending row))) (λ old. inl old) (marked-set marks row r is);
      keeps = λ r c. Contains-append_left pending (row ∷ []) r c;
      known = λ all r c. ⊎_elim (λ old. set-marked marks row r h (all r old)) (λ same. subst (λ k. marked (set marks row true) k ≡ true) same at_row) (Contains-push_cases pending row r c);
      fewer = omega (arith, unmarked-set marks row h new, length-append pending (row ∷ []));
    }

pub one-marked : (marks marks' : List Bool) (row : ℕ) → row < length marks → marks' ≡ set marks row true → marked marks' row ≡ true
one-marked marks marks' row h made = ap (λ ms. marked ms row) made ∙ get_or-set_same marks row true false h

-- ---- the parts of a row

pub parts-more : (parts : List ℕ) (marks marks' : List Bool) (pending pending' : List ℕ) (i d : ℕ) → i < length parts → All (λ p. marked marks p ≡ true) (take i parts) → Spreads marks pending marks' pending'
    → marked marks' (get_or parts i d) ≡ true → All (λ p. marked marks' p ≡ true) (take (i + 1) parts)
parts-more parts marks marks' pending pending' i d h all s new =
    subst (All (λ p. marked marks' p ≡ true)) (sym (take_more parts i d h))
    (All-append (λ p. marked marks' p ≡ true) (take i parts) (get_or parts i d ∷ []) (λ k e below. s.grows _ (all k e below)) one)
  where
    one : All (λ p. marked marks' p ≡ true) (get_or parts i d ∷ [])
    one zero e below = new
    one (suc k) e below = absurd (omega arith)

-- ---- the rows that are still to be looked at

pub record Going (rows : List Row) (start : ℕ) (marks : List Bool) (pending : List ℕ) : Type 0 where
  pub long : length marks ≡ length rows
  pub start_in : marked marks start ≡ true
  pub closed : (r : ℕ) (e : Row) → marked marks r ≡ true → slice_get rows r ≡ Some e → Contains pending r ⊎ All (λ p. marked marks p ≡ true) (named e)
  pub known : (r : ℕ) → Contains pending r → marked marks r ≡ true

none-in : (r : ℕ) → Contains [] r → ⊥
none-in r c = omega (arith, c.1)

pub going-start : (rows : List Row) (start n : ℕ) (none marks : List Bool) (nothing pending : List ℕ) → none ≡ replicate n false → nothing ≡ [] → n ≡ length rows → length none ≡ n → Spreads none nothing marks pending → marked marks start ≡ true
    → Going rows start marks pending
going-start rows start n none marks nothing pending is empty count long s first = record {
  long = s.long ∙ long ∙ count;
  start_in = first;
  closed = λ r e h at. ⊎_elim (λ old. absurd (none_marked n r (sym (ap (λ ms. marked ms r) is) ∙ old))) (λ c. inl c) (s.fresh r h);
  known = s.known (λ r c. absurd (none-in r (subst (λ ps. Contains ps r) empty c)));
}

pub going-more : (rows : List Row) (start row : ℕ) (e : Row) (marks marks' : List Bool) (longer rest pending' : List ℕ) → longer ≡ rest ++ row ∷ [] → Going rows start marks longer → slice_get rows row ≡ Some e → Spreads marks rest marks' pending'
    → All (λ p. marked marks' p ≡ true) (named e) → Going rows start marks' pending'
going-more rows start row e marks marks' longer rest pending' is going at s all = record {
  long = s.long ∙ going.long;
  start_in = s.grows start going.start_in;
  closed = λ r f h f_at. ⊎_elim (λ old. before r f f_at (going.closed r f old f_at)) (λ c. inl c) (s.fresh r h);
  known = s.known (λ r c. going.known r (subst (λ ps. Contains ps r) (sym is) (Contains-append_left rest (row ∷ []) r c)));
}
  where
    here : (r : ℕ) (f : Row) → slice_get rows r ≡ Some f → row ≡ r → All (λ p. marked marks' p ≡ true) (named f)
    here r f f_at same = let equal : e ≡ f = (let both : Some e ≡ Some f = sym at ∙ ap (slice_get rows) same ∙ f_at in cc) in subst (λ x. All (λ p. marked marks' p ≡ true) (named x)) equal all

    before : (r : ℕ) (f : Row) → slice_get rows r ≡ Some f → Contains longer r ⊎ All (λ p. marked marks p ≡ true) (named f) → Contains pending' r ⊎ All (λ p. marked marks' p ≡ true) (named f)
    before r f f_at (inr done) = inr (λ k d h. s.grows _ (done k d h))
    before r f f_at (inl c) = ⊎_elim (λ left. inl (s.keeps r left)) (λ same. inr (here r f f_at same)) (Contains-push_cases rest row r (subst (λ ps. Contains ps r) is c))

pub going-done : (rows : List Row) (start : ℕ) (marks : List Bool) (pending : List ℕ) → pending ≡ [] → Going rows start marks pending → IsReached rows start marks
going-done rows start marks pending empty going = record {
  start_in = going.start_in;
  closed = λ r e h at. ⊎_elim (λ c. absurd (none-in r (subst (λ ps. Contains ps r) empty c))) (λ all. all) (going.closed r e h at);
}

-- what holds of the row that stands in a place holds of any that does
pub same-row : (rows : List Row) (r : ℕ) (e f : Row) (P : Row → Type 0) → slice_get rows r ≡ Some e → slice_get rows r ≡ Some f → P e → P f
same-row rows r e f P at f_at p = let equal : e ≡ f = cc in subst P equal p
