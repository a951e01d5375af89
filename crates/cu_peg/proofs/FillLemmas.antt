-- Filling the table of ends keeps it right.
use Rattle.std.proofs.Common.{◌≡◌, ◌≢◌, ℕ, zero, suc, ◌+◌, ◌-◌, ◌<◌, ◌≤◌, ◌⊎◌, inl, inr, Bool, true, false, List, [], ◌∷◌, ◌++◌, Option, None, Some, length, get_or, set, take, eqb, refl, ap, sym, subst, ◌∙◌, arith, eqb-true, eq-eqb, true≢false, get_or-set_same, get_or-set_other}
use Rattle.std.specs.Prelude.{Contains, slice_get}
use Rattle.std.specs.Option.{option_map_or}
use Rattle.std.proofs.lemmas.List.{get_or_append_left, get_or_push, take_more}
use Rattle.std.proofs.lemmas.List.Elements.{Contains-push_cases}
use Rattle.std.proofs.lemmas.Option.{slice_get_past, slice_get_within}
use Rattle.cu_lex.specs.Tokens.{Lexeme}
use Rattle.cu_peg.specs.Classes.{has}
use Rattle.cu_peg.specs.declared.class.Class.{Class}
use Rattle.cu_peg.specs.declared.row.Row.{Row}
use Rattle.cu_peg.specs.declared.table.End.{End}
use Rattle.cu_peg.specs.Inside.Ends.{IsEnd, end_at, row_end}
use Rattle.cu_peg.specs.Order.{IsGrammar}
use Rattle.cu_peg.specs.Result.{has_at}
use Rattle.cu_peg.specs.WellFormed.{Calls}
use Rattle.cu_peg.proofs.EndLemmas.{cell_right}
use Rattle.cu_peg.proofs.FoundedRows.{named_within}

-- no class has the token past the end
pub has_past : (text : List Lexeme) (c : Class) (k : ℕ) → length text ≤ k → has_at text c k ≡ false
has_past text c k h = ap (λ (o : Option Lexeme). option_map_or (has c) o false) (slice_get_past text k h)

pub end_at-append : (table : List (List (Option End))) (column : List (Option End)) (r k : ℕ) → k < length table → end_at (table ++ column ∷ []) r k ≡ end_at table r k
end_at-append table column r k h = ap (λ (c : List (Option End)). get_or c r None) (get_or_append_left table (column ∷ []) [] k h)

pub column-append : (table : List (List (Option End))) (column : List (Option End)) (k : ℕ) → length table ≡ k → get_or (table ++ column ∷ []) k [] ≡ column
column-append table column k h = get_or_push table column [] k h

pub end_at-set_place : (table : List (List (Option End))) (column : List (Option End)) (q left k : ℕ) → k < left → end_at (set table left column) q k ≡ end_at table q k
end_at-set_place table column q left k h =
    let other : k ≢ left = λ e. absurd (omega (arith, e)) in ap (λ (c : List (Option End)). get_or c q None) (get_or-set_other table left k column [] other)

pub column-set : (table : List (List (Option End))) (column : List (Option End)) (left : ℕ) → left < length table → get_or (set table left column) left [] ≡ column
column-set table column left h = get_or-set_same table left column [] h

pub end_at-set_same : (table : List (List (Option End))) (row left : ℕ) (end : Option End) → left < length table → row < length (get_or table left [])
    → end_at (set table left (set (get_or table left []) row end)) row left ≡ end
end_at-set_same table row left end h k =
    ap (λ (c : List (Option End)). get_or c row None) (column-set table (set (get_or table left []) row end) left h) ∙ get_or-set_same (get_or table left []) row end None k

pub end_at-set_row : (table : List (List (Option End))) (row q left : ℕ) (end : Option End) → left < length table → q ≢ row
    → end_at (set table left (set (get_or table left []) row end)) q left ≡ end_at table q left
end_at-set_row table row q left end h other =
    ap (λ (c : List (Option End)). get_or c q None) (column-set table (set (get_or table left []) row end) left h)
    ∙ get_or-set_other (get_or table left []) row q end None other

module _ (rows : List Row) (order : List ℕ) (grammar : IsGrammar rows order) (text : List Lexeme) (n : ℕ) (as_long : length text ≡ n) (table : List (List (Option End))) (left : ℕ)
    (place : left ≤ n) (long : length table ≡ left + 1) (wide : length (get_or table left []) ≡ length rows) where
  new_right : (i row : ℕ) (e : Row) (end : Option End) → i < length order → row ≡ get_or order i 0 → slice_get rows row ≡ Some e
      → end ≡ row_end (λ c. has_at text c (n - left)) (end_at table) e row left
      → ((k q : ℕ) → k < left → q < length rows → IsEnd rows (has_at text) n q k (end_at table q k))
      → ((q : ℕ) → Contains (take i order) q → IsEnd rows (has_at text) n q left (end_at table q left)) → IsEnd rows (has_at text) n row left end
  new_right i row e end h at is ends before here =
      subst (IsEnd rows (has_at text) n row left) (sym ends)
      (cell_right rows (has_at text) n (end_at table) row left e (λ c. has_at text c (n - left)) is (slice_get_within rows row e is)
      (named_within rows grammar.closed row e is) grammar.well_formed place
      (λ c t. not_at_end c t) (λ c some_left. refl) before
      (λ q c. here q (grammar.ordered.after_calls i q h (subst (λ (r : ℕ). Calls rows r q) at (record { caller = e; is = is; calls = c })))))
    where
      not_at_end : (c : Class) → has_at text c (n - left) ≡ true → 0 < left
      not_at_end c t = by left refl
        where
          by : (k : ℕ) → k ≡ left → 0 < left
          by zero e = absurd (true≢false (sym t ∙ has_past text c (n - left) (omega arith)))
          by (suc k) e = omega arith

  pub placed : (i row : ℕ) (e : Row) (end : Option End) (after : List (List (Option End))) → i < length order → row ≡ get_or order i 0 → slice_get rows row ≡ Some e
      → end ≡ row_end (λ c. has_at text c (n - left)) (end_at table) e row left → after ≡ set table left (set (get_or table left []) row end)
      → ((k q : ℕ) → k < left → q < length rows → IsEnd rows (has_at text) n q k (end_at table q k))
      → ((q : ℕ) → Contains (take i order) q → IsEnd rows (has_at text) n q left (end_at table q left))
      → (q : ℕ) → Contains (take (i + 1) order) q → IsEnd rows (has_at text) n q left (end_at after q left)
  placed i row e end after h at is ends made before here q c =
      let inside : left < length table = omega arith in
      let within : row < length (get_or table left []) = omega (arith, slice_get_within rows row e is) in
      let new = new_right i row e end h at is ends before here in
      subst (λ (t : List (List (Option End))). IsEnd rows (has_at text) n q left (end_at t q left)) (sym made)
      (by (eqb q row) refl (Contains-push_cases (take i order) row q (subst (λ (xs : List ℕ). Contains xs q) (more) c)) inside within new)
    where
      more : take (i + 1) order ≡ take i order ++ row ∷ []
      more = take_more order i 0 h ∙ ap (λ (r : ℕ). take i order ++ r ∷ []) (sym at)

      filled : List (List (Option End))
      filled = set table left (set (get_or table left []) row end)

      by : (b : Bool) → eqb q row ≡ b → Contains (take i order) q ⊎ (row ≡ q) → left < length table → row < length (get_or table left []) → IsEnd rows (has_at text) n row left end
          → IsEnd rows (has_at text) n q left (end_at (set table left (set (get_or table left []) row end)) q left)
      by true e either inside within new =
          subst (λ (r : ℕ). IsEnd rows (has_at text) n r left (end_at (set table left (set (get_or table left []) row end)) r left)) (sym (eqb-true q row e))
          (subst (IsEnd rows (has_at text) n row left) (sym (end_at-set_same table row left end inside within)) new)
      by false e (inr same) inside within new = absurd (true≢false (sym (eq-eqb q row (sym same)) ∙ e))
      by false e (inl old) inside within new =
          let other : q ≢ row = λ same. true≢false (sym (eq-eqb q row same) ∙ e) in
          subst (IsEnd rows (has_at text) n q left) (sym (end_at-set_row table row q left end inside other)) (here q old)

-- what holds of a number holds of those up to it, where it holds of those below
pub below_or_at : (left k : ℕ) → k < left + 1 → (P : ℕ → Type 0) → (k < left → P k) → P left → P k
below_or_at left k h P below at = by (eqb k left) refl
  where
    by : (b : Bool) → eqb k left ≡ b → P k
    by true e = subst P (sym (eqb-true k left e)) at
    by false e = let other : k ≢ left = λ same. true≢false (sym (eq-eqb k left same) ∙ e) in below (omega (arith, other))
