-- Where no row is left recursive, the calls from each row end.
use Rattle.std.proofs.Common.{◌≡◌, ℕ, zero, suc, ◌+◌, ◌<◌, ◌≤◌, inl, Bool, true, false, List, [], ◌∷◌, Some, length, nat_lt, get_or, eqb, refl, sym, subst, arith, eqb-true, eq-eqb, true≢false}
use Rattle.std.specs.Prelude.{All, slice_get, ◌||◌}
use Rattle.std.specs.List.{AllByRecursion, IsDistinct, list_all, list_any}
use Rattle.std.proofs.lemmas.List.Sums.{AllPass-from_list_all}
use borrow.Author.Tests.{ltb-true}
use Rattle.std.proofs.lemmas.Option.{get_or_from_slice_get, slice_get_within}
use Rattle.std.proofs.lemmas.Map.Steps.{length-le_from_distinct_below}
use Rattle.cu_peg.specs.declared.row.Row.{Row}
use Rattle.cu_peg.specs.declared.row.Row.TheVariants as row
use Rattle.cu_peg.specs.WellFormed as w
use Rattle.cu_peg.specs.WellFormed.{Calls, IsClosed, IsEndless, IsNullable, IsWellFormed, Reaches, RowCalls, named}

-- All calls that begin at a row end.
pub data Founded (rows : List Row) : ℕ → Type 0 where
  founded : (r : ℕ) → ((q : ℕ) → Calls rows r q → Founded rows q) → Founded rows r

pub All-slice_get : {X : Type 0} (P : X → Type 0) (xs : List X) (i : ℕ) (x : X) → All P xs → slice_get xs i ≡ Some x → P x
All-slice_get P xs i x all e = subst P (get_or_from_slice_get xs i x x e) (all i x (slice_get_within xs i x e))

pub All-tail : {X : Type 0} (P : X → Type 0) (x : X) (xs : List X) → All P (x ∷ xs) → All P xs
All-tail P x xs all k d h = all (suc k) d (omega arith)

-- what a row calls it names
pub row_calls_within : (rows : List Row) (n : ℕ) (e : Row) (q : ℕ) → All (λ p. p < n) (named e) → RowCalls rows e q → q < n
row_calls_within rows n _ _ all (w.first_part p ps) = all 0 0 (omega arith)
row_calls_within rows n _ _ all (w.later_part p ps q h c) = row_calls_within rows n (row.Sequence ps) q (All-tail (λ p. p < n) p ps all) c
row_calls_within rows n _ _ all (w.first_alternative p ps) = all 0 0 (omega arith)
row_calls_within rows n _ _ all (w.later_alternative p ps q c) = row_calls_within rows n (row.Choice ps) q (All-tail (λ p. p < n) p ps all) c
row_calls_within rows n _ _ all (w.optional_part p) = all 0 0 (omega arith)
row_calls_within rows n _ _ all (w.many_part p) = all 0 0 (omega arith)
row_calls_within rows n _ _ all (w.at_least_one_part p) = all 0 0 (omega arith)
row_calls_within rows n _ _ all (w.separated_part p s) = all 0 0 (omega arith)
row_calls_within rows n _ _ all (w.separator p s h) = all 1 0 (omega arith)
row_calls_within rows n _ _ all (w.ahead_part p) = all 0 0 (omega arith)
row_calls_within rows n _ _ all (w.not_ahead_part p) = all 0 0 (omega arith)

-- what a row names is in the table
pub named_within : (rows : List Row) → IsClosed rows → (r : ℕ) (e : Row) → slice_get rows r ≡ Some e → All (λ p. p < length rows) (named e)
named_within rows closed r e is k d h =
    let test = λ (p : ℕ). nat_lt p (length rows) in
    let each = AllPass-from_list_all (λ (e : Row). list_all test (named e)) rows closed in
    let here = All-slice_get (λ (e : Row). list_all test (named e) ≡ true) rows r e each is in
    ltb-true (get_or (named e) k d) (length rows) (AllPass-from_list_all test (named e) here k d h)

pub calls_within : (rows : List Row) → IsClosed rows → (r q : ℕ) → Calls rows r q → q < length rows
calls_within rows closed r q c =
    row_calls_within rows (length rows) c.caller q (named_within rows closed r c.caller c.is) c.calls

pub reaches_then : (rows : List Row) (r p q : ℕ) → Reaches rows r p → Calls rows p q → Reaches rows r q
reaches_then rows _ _ q (w.one r p c) d = w.more r p q c (w.one p q d)
reaches_then rows _ _ q (w.more r o p c h) d = w.more r o q c (reaches_then rows o p q h d)

-- rows of which each reaches those that stand before it
data Chain (rows : List Row) : List ℕ → Type 0 where
  nil : Chain rows []
  cons : (q : ℕ) (path : List ℕ) → q < length rows → ((x : ℕ) → list_any (eqb x) path ≡ true → Reaches rows x q) → Chain rows path → Chain rows (q ∷ path)

apart : (q : ℕ) (path : List ℕ) → ((x : ℕ) → list_any (eqb x) path ≡ true → q ≡ x → ⊥) → AllByRecursion (λ y. eqb q y ≡ false) path
apart q [] h = tt
apart q (y ∷ ys) h = (other (eqb q y) refl, apart q ys (λ x m e. h x (grind (arith, m)) e))
  where
    other : (b : Bool) → eqb q y ≡ b → eqb q y ≡ false
    other true e = absurd (h y (grind (arith, eq-eqb y y refl)) (eqb-true q y e))
    other false e = e

chain_distinct : (rows : List Row) → IsWellFormed rows → (path : List ℕ) → Chain rows path → IsDistinct eqb path
unfolding IsDistinct
chain_distinct rows good _ nil = tt
chain_distinct rows good _ (cons q path h reach c) =
    (apart q path (λ x m e. good q (inl (subst (λ (z : ℕ). Reaches rows z q) (sym e) (reach x m)))), chain_distinct rows good path c)

chain_below : (rows : List Row) (path : List ℕ) → Chain rows path → (x : ℕ) → list_any (eqb x) path ≡ true → x < length rows
chain_below rows _ nil x m = absurd (true≢false (sym m))
chain_below rows _ (cons q path h reach c) x m = by (eqb x q) refl m (chain_below rows path c x)
  where
    by : (b : Bool) → eqb x q ≡ b → (b || list_any (eqb x) path) ≡ true → (list_any (eqb x) path ≡ true → x < length rows) → x < length rows
    by true e k below = subst (λ n. n < length rows) (sym (eqb-true x q e)) h
    by false e k below = below k

longer : (rows : List Row) (r : ℕ) (path : List ℕ) (q : ℕ) → ((x : ℕ) → list_any (eqb x) path ≡ true → Reaches rows x r) → Calls rows r q
    → (x : ℕ) → list_any (eqb x) (r ∷ path) ≡ true → Reaches rows x q
longer rows r path q reach d x m = by (eqb x r) refl m
  where
    by : (b : Bool) → eqb x r ≡ b → (b || list_any (eqb x) path) ≡ true → Reaches rows x q
    by true e k = subst (λ (z : ℕ). Reaches rows z q) (sym (eqb-true x r e)) (w.one r q d)
    by false e k = reaches_then rows x r q (reach x k) d

found : (rows : List Row) → IsClosed rows → IsWellFormed rows → (fuel r : ℕ) (path : List ℕ) → r < length rows
    → ((x : ℕ) → list_any (eqb x) path ≡ true → Reaches rows x r) → Chain rows path → length rows ≤ fuel + length path → Founded rows r
found rows closed good zero r path h reach c long =
    let whole : Chain rows (r ∷ path) = cons r path h reach c in
    absurd (omega (arith, length-le_from_distinct_below (r ∷ path) (length rows) (chain_distinct rows good (r ∷ path) whole) (chain_below rows (r ∷ path) whole)))
found rows closed good (suc fuel) r path h reach c long =
    founded r (λ q d. found rows closed good fuel q (r ∷ path) (calls_within rows closed r q d) (longer rows r path q reach d) (cons r path h reach c) (omega arith))

pub all_founded : (rows : List Row) → IsClosed rows → IsWellFormed rows → (r : ℕ) → r < length rows → Founded rows r
all_founded rows closed good r h = found rows closed good (length rows) r [] h (λ x m. absurd (true≢false (sym m))) nil (omega arith)
