-- A grammar of some rows alone.
use Rattle.std.proofs.Common.{◌≡◌, ◌∙◌, ℕ, zero, suc, ◌<◌, inl, inr, Bool, true, false, ◌&&◌, List, [], ◌∷◌, Option, None, Some, length, nat_lt, refl, ap, sym, subst, true≢false}
use Rattle.std.specs.Prelude.{All, slice_get, slice_index}
use Rattle.std.specs.List.{list_all}
use Rattle.cu_peg.specs.Inside.Closure.{marked}
use Rattle.cu_peg.specs.declared.row.Row.{Row}
use Rattle.cu_peg.specs.declared.row.Row.TheVariants as row
use Rattle.cu_peg.specs.Order.{IsGrammar}
use Rattle.cu_peg.specs.Inside.Reached.{kept, kept_row}
use Rattle.cu_peg.specs.WellFormed as w
use Rattle.cu_peg.specs.WellFormed.{Calls, IsClosed, IsEndless, IsNullable, IsWellFormed, Reaches, RepeatsNullable, RowCalls, RowIsNullable, RowRepeatsNullable, named}

pub length-kept : (marks : List Bool) (rows : List Row) → length (kept marks rows) ≡ length rows
length-kept [] [] = refl
length-kept (mark ∷ marks) [] = refl
length-kept [] (e ∷ rows) = ap suc (length-kept [] rows)
length-kept (mark ∷ marks) (e ∷ rows) = ap suc (length-kept marks rows)

pub kept-get : (marks : List Bool) (rows : List Row) (r : ℕ) (e : Row) → slice_get rows r ≡ Some e → slice_get (kept marks rows) r ≡ Some (kept_row (marked marks r) e)
kept-get [] [] r e is = let never : ⊥ = cc in absurd never
kept-get (mark ∷ marks) [] r e is = let never : ⊥ = cc in absurd never
kept-get [] (x ∷ rows) zero e is = refl
kept-get (mark ∷ marks) (x ∷ rows) zero e is = ap (λ o. first mark o) is
  where
    first : Bool → Option Row → Option Row
    first b None = None
    first b (Some e) = Some (kept_row b e)
kept-get [] (x ∷ rows) (suc r) e is = kept-get [] rows r e is
kept-get (mark ∷ marks) (x ∷ rows) (suc r) e is = kept-get marks rows r e is

-- what stands in a place
pub record Stands (marks : List Bool) (rows : List Row) (r : ℕ) (e : Row) : Type 0 where
  pub real : Row
  pub is : slice_get rows r ≡ Some real
  pub same : e ≡ kept_row (marked marks r) real

pub kept-from : (marks : List Bool) (rows : List Row) (r : ℕ) (e : Row) → slice_get (kept marks rows) r ≡ Some e → Stands marks rows r e
kept-from [] [] r e is = let never : ⊥ = cc in absurd never
kept-from (mark ∷ marks) [] r e is = let never : ⊥ = cc in absurd never
kept-from [] (x ∷ rows) zero e is = record { real = x; is = refl; same = (let same : row.Choice [] ≡ e = cc in sym same) }
kept-from (mark ∷ marks) (x ∷ rows) zero e is = record { real = x; is = refl; same = (let same : kept_row mark x ≡ e = cc in sym same) }
kept-from [] (x ∷ rows) (suc r) e is = let s = kept-from [] rows r e is in record { real = s.real; is = s.is; same = s.same }
kept-from (mark ∷ marks) (x ∷ rows) (suc r) e is = let s = kept-from marks rows r e is in record { real = s.real; is = s.is; same = s.same }

-- a row that matches nothing
abbrev pub is_nothing : Row → Bool
is_nothing (row.Choice []) = true
is_nothing _ = false

pub kept-real : (marks : List Bool) (rows : List Row) (r : ℕ) (e : Row) → slice_get (kept marks rows) r ≡ Some e → is_nothing e ≡ false → slice_get rows r ≡ Some e
kept-real marks rows r e is some = let s = kept-from marks rows r e is in by s.real s.is (marked marks r) s.same
  where
    by : (real : Row) → slice_get rows r ≡ Some real → (b : Bool) → e ≡ kept_row b real → slice_get rows r ≡ Some e
    by real at true same = at ∙ ap Some (sym same)
    by real at false same = absurd (true≢false (sym (ap is_nothing same) ∙ some))

pub kept-marked : (marks : List Bool) (rows : List Row) (r : ℕ) (e : Row) → slice_get (kept marks rows) r ≡ Some e → marked marks r ≡ true → slice_get rows r ≡ Some e
kept-marked marks rows r e is mark =
    let s = kept-from marks rows r e is in s.is ∙ ap Some (sym (s.same ∙ ap (λ b. kept_row b s.real) mark))

-- ---- the conditions on a grammar

all-within : (n : ℕ) (marks : List Bool) (rows : List Row) → list_all (λ e. list_all (λ p. nat_lt p n) (named e)) rows ≡ true → list_all (λ e. list_all (λ p. nat_lt p n) (named e)) (kept marks rows) ≡ true
all-within n [] [] all = refl
all-within n (mark ∷ marks) [] all = refl
all-within n [] (e ∷ rows) all = all-within n [] rows (and-right (list_all (λ p. nat_lt p n) (named e)) (list_all (λ e. list_all (λ p. nat_lt p n) (named e)) rows) all)
  where
    and-right : (a b : Bool) → a && b ≡ true → b ≡ true
    and-right true b h = h
    and-right false b h = absurd (true≢false (sym h))
all-within n (mark ∷ marks) (e ∷ rows) all = by mark (list_all (λ p. nat_lt p n) (named e)) (all-within n marks rows) refl all
  where
    by : (b c : Bool) → (list_all (λ e. list_all (λ p. nat_lt p n) (named e)) rows ≡ true → list_all (λ e. list_all (λ p. nat_lt p n) (named e)) (kept marks rows) ≡ true) → list_all (λ p. nat_lt p n) (named e) ≡ c → c && list_all (λ e. list_all (λ p. nat_lt p n) (named e)) rows ≡ true
        → list_all (λ p. nat_lt p n) (named (kept_row b e)) && list_all (λ e. list_all (λ p. nat_lt p n) (named e)) (kept marks rows) ≡ true
    by true true go here more = rw here (go more)
    by false true go here more = go more
    by b false go here more = absurd (true≢false (sym more))

closed-kept : (marks : List Bool) (rows : List Row) → IsClosed rows → IsClosed (kept marks rows)
closed-kept marks rows closed =
    ap (λ n. list_all (λ e. list_all (λ p. nat_lt p n) (named e)) (kept marks rows)) (length-kept marks rows) ∙ all-within (length rows) marks rows closed

nullable-some : (rows : List Row) (e : Row) → RowIsNullable rows e → is_nothing e ≡ false
nullable-some rows _ w.empty = refl
nullable-some rows _ (w.sequence p ps h d) = refl
nullable-some rows _ (w.first p ps h) = refl
nullable-some rows _ (w.later p ps d) = refl
nullable-some rows _ (w.optional p) = refl
nullable-some rows _ (w.many p) = refl
nullable-some rows _ (w.at_least_one p h) = refl
nullable-some rows _ (w.separated p s h) = refl
nullable-some rows _ (w.ahead p) = refl
nullable-some rows _ (w.not_ahead p) = refl

calls-some : (rows : List Row) (e : Row) (q : ℕ) → RowCalls rows e q → is_nothing e ≡ false
calls-some rows _ _ (w.first_part p ps) = refl
calls-some rows _ _ (w.later_part p ps q h c) = refl
calls-some rows _ _ (w.first_alternative p ps) = refl
calls-some rows _ _ (w.later_alternative p ps q c) = refl
calls-some rows _ _ (w.optional_part p) = refl
calls-some rows _ _ (w.many_part p) = refl
calls-some rows _ _ (w.at_least_one_part p) = refl
calls-some rows _ _ (w.separated_part p s) = refl
calls-some rows _ _ (w.separator p s h) = refl
calls-some rows _ _ (w.ahead_part p) = refl
calls-some rows _ _ (w.not_ahead_part p) = refl

repeats-some : (rows : List Row) (e : Row) → RowRepeatsNullable rows e → is_nothing e ≡ false
repeats-some rows _ (w.repeated_many p h) = refl
repeats-some rows _ (w.repeated_at_least_one p h) = refl
repeats-some rows _ (w.repeated_separated p s h k) = refl

module _ (marks : List Bool) (rows : List Row) where
  mutual
    nullable-in : {r : ℕ} → IsNullable (kept marks rows) r → IsNullable rows r
    nullable-in (w.nullable r e is d) = let inside = row-nullable-in d in w.nullable r e (kept-real marks rows r e is (nullable-some rows e inside)) inside

    row-nullable-in : {e : Row} → RowIsNullable (kept marks rows) e → RowIsNullable rows e
    row-nullable-in w.empty = w.empty
    row-nullable-in (w.sequence p ps h d) = w.sequence p ps (nullable-in h) (row-nullable-in d)
    row-nullable-in (w.first p ps h) = w.first p ps (nullable-in h)
    row-nullable-in (w.later p ps d) = w.later p ps (row-nullable-in d)
    row-nullable-in (w.optional p) = w.optional p
    row-nullable-in (w.many p) = w.many p
    row-nullable-in (w.at_least_one p h) = w.at_least_one p (nullable-in h)
    row-nullable-in (w.separated p s h) = w.separated p s (nullable-in h)
    row-nullable-in (w.ahead p) = w.ahead p
    row-nullable-in (w.not_ahead p) = w.not_ahead p

  row-calls-in : {e : Row} {q : ℕ} → RowCalls (kept marks rows) e q → RowCalls rows e q
  row-calls-in (w.first_part p ps) = w.first_part p ps
  row-calls-in (w.later_part p ps q h c) = w.later_part p ps q (nullable-in h) (row-calls-in c)
  row-calls-in (w.first_alternative p ps) = w.first_alternative p ps
  row-calls-in (w.later_alternative p ps q c) = w.later_alternative p ps q (row-calls-in c)
  row-calls-in (w.optional_part p) = w.optional_part p
  row-calls-in (w.many_part p) = w.many_part p
  row-calls-in (w.at_least_one_part p) = w.at_least_one_part p
  row-calls-in (w.separated_part p s) = w.separated_part p s
  row-calls-in (w.separator p s h) = w.separator p s (nullable-in h)
  row-calls-in (w.ahead_part p) = w.ahead_part p
  row-calls-in (w.not_ahead_part p) = w.not_ahead_part p

  calls-in : (r q : ℕ) → Calls (kept marks rows) r q → Calls rows r q
  calls-in r q c = let inside = row-calls-in c.calls in record { caller = c.caller; is = kept-real marks rows r c.caller c.is (calls-some rows c.caller q inside); calls = inside }

  reaches-in : {r q : ℕ} → Reaches (kept marks rows) r q → Reaches rows r q
  reaches-in (w.one r q c) = w.one r q (calls-in r q c)
  reaches-in (w.more r p q c d) = w.more r p q (calls-in r p c) (reaches-in d)

  row-repeats-in : {e : Row} → RowRepeatsNullable (kept marks rows) e → RowRepeatsNullable rows e
  row-repeats-in (w.repeated_many p h) = w.repeated_many p (nullable-in h)
  row-repeats-in (w.repeated_at_least_one p h) = w.repeated_at_least_one p (nullable-in h)
  row-repeats-in (w.repeated_separated p s h k) = w.repeated_separated p s (nullable-in h) (nullable-in k)

  repeats-in : (r : ℕ) → RepeatsNullable (kept marks rows) r → RepeatsNullable rows r
  repeats-in r d =
      let inside = row-repeats-in d.repeats in record { repeater = d.repeater; is = kept-real marks rows r d.repeater d.is (repeats-some rows d.repeater inside); repeats = inside }

  endless-in : (r : ℕ) → IsEndless (kept marks rows) r → IsEndless rows r
  endless-in r (inl d) = inl (reaches-in d)
  endless-in r (inr d) = inr (repeats-in r d)

  pub grammar-kept : (order : List ℕ) → IsGrammar rows order → IsGrammar (kept marks rows) order
  grammar-kept order g = record {
    closed = closed-kept marks rows g.closed;
    well_formed = λ r endless. g.well_formed r (endless-in r endless);
    ordered = record {
      within = subst (λ n. All (λ r. r < n) order) (sym (length-kept marks rows)) g.ordered.within;
      complete = λ r h. g.ordered.complete r (subst (λ n. r < n) (length-kept marks rows) h);
      after_calls = λ i q h c. g.ordered.after_calls i q h (calls-in (slice_index order i) q c);
    };
  }
