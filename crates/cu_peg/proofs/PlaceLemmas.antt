-- Places of which few ends are kept.
use Rattle.std.proofs.Common.{◌≡◌, ◌∙◌, ℕ, zero, suc, ◌+◌, ◌-◌, ◌<◌, ◌≤◌, inl, inr, ◌==◌, Bool, true, false, List, [], ◌∷◌, ◌++◌, Option, None, length, length-append, length-drop, take, drop, get_or, refl, ap, sym, subst, arith, add-zero, add-one, zero-add, append-nil, append_assoc, eqb-true, eq-eqb, if◌then◌else◌}
use Rattle.std.specs.Prelude.{All}
use Rattle.std.proofs.Math.Seq.{drop-append_seam}
use Rattle.std.proofs.lemmas.List.{drop-append-le, ext_get_or, get_or_past, take-append-le, take_all}
use Rattle.std.proofs.lemmas.List.Elements.{All-append}
use Rattle.std.proofs.lemmas.List.FromFn.{get_or-map-range_with_len, length-map-range_with_len}
use Rattle.cu_peg.specs.declared.places.Entry.{Entry}
use Rattle.cu_peg.specs.declared.table.End.{End}
use Rattle.cu_peg.specs.Inside.Places.{KeepsOne, Packs, Rising, cell, column, columns, span, span_at, unpacked, usual}
use Rattle.cu_peg.proofs.FillLemmas.{below_or_at}
use Rattle.cu_peg.proofs.FoundedRows.{All-tail}

-- ---- places that rise

pub rising-grows : (begins : List ℕ) (n m : ℕ) → n ≤ m → Rising begins n → Rising begins m
rising-grows [] n m h r = tt
rising-grows (a ∷ []) n m h r = omega (arith, r)
rising-grows (a ∷ b ∷ begins) n m h r = (r.0, rising-grows (b ∷ begins) n m h r.1)

pub rising-push : (begins : List ℕ) (n m : ℕ) → n ≤ m → Rising begins n → Rising (begins ++ n ∷ []) m
rising-push [] n m h r = h
rising-push (a ∷ []) n m h r = (r, h)
rising-push (a ∷ b ∷ begins) n m h r = (r.0, rising-push (b ∷ begins) n m h r.1)

first-within : (a : ℕ) (begins : List ℕ) (n : ℕ) → Rising (a ∷ begins) n → a ≤ n
first-within a [] n r = r
first-within a (b ∷ begins) n r = omega (arith, r.0, first-within b begins n r.1)

pub span-order : (begins : List ℕ) (n k : ℕ) → k < length begins → Rising begins n → get_or begins k 0 ≤ get_or begins (suc k) n
span-order [] n k h r = absurd (omega arith)
span-order (a ∷ []) n zero h r = r
span-order (a ∷ []) n (suc k) h r = absurd (omega arith)
span-order (a ∷ b ∷ begins) n zero h r = r.0
span-order (a ∷ b ∷ begins) n (suc k) h r = span-order (b ∷ begins) n k (omega arith) r.1

pub span-fits : (begins : List ℕ) (n k : ℕ) → Rising begins n → get_or begins k n ≤ n
span-fits [] n k r = omega arith
span-fits (a ∷ begins) n zero r = first-within a begins n r
span-fits (a ∷ []) n (suc k) r = omega arith
span-fits (a ∷ b ∷ begins) n (suc k) r = span-fits (b ∷ begins) n k r.1

same-default : (xs : List ℕ) (k a b : ℕ) → k < length xs → get_or xs k a ≡ get_or xs k b
same-default [] k a b h = absurd (omega arith)
same-default (x ∷ xs) zero a b h = refl
same-default (x ∷ xs) (suc k) a b h = same-default xs k a b (omega arith)

pub next-within : (begins : List ℕ) (k n : ℕ) → k + 1 < length begins → get_or begins (suc k) n ≡ get_or begins (k + 1) 0
next-within begins k n h = ap (λ i. get_or begins i n) (sym (add-one k)) ∙ same-default begins (k + 1) n 0 h

pub next-past : (begins : List ℕ) (k n : ℕ) → length begins ≤ k + 1 → get_or begins (suc k) n ≡ n
next-past begins k n h = get_or_past begins (suc k) n (omega arith)

-- ---- columns

pub length-columns : (certain : List Bool) (es : List Entry) (begins : List ℕ) (left : ℕ) → length (columns certain es begins left) ≡ length begins
length-columns certain es [] left = refl
length-columns certain es (a ∷ []) left = refl
length-columns certain es (a ∷ b ∷ begins) left = ap suc (length-columns certain es (b ∷ begins) (suc left))

to-end : (es : List Entry) (a : ℕ) → span es a (length es) ≡ drop a es
to-end es a = take_all (length es - a) (drop a es) (omega (arith, length-drop a es))

pub column-at : (certain : List Bool) (es : List Entry) (begins : List ℕ) (left k : ℕ) → k < length begins
    → get_or (columns certain es begins left) k [] ≡ column certain (left + k) (span_at es begins k)
column-at certain es [] left k h = absurd (omega arith)
column-at certain es (a ∷ []) left zero h = λ j. column certain (sym (add-zero left) j) (sym (to-end es a) j)
column-at certain es (a ∷ []) left (suc k) h = absurd (omega arith)
column-at certain es (a ∷ b ∷ begins) left zero h = ap (λ n. column certain n (span es a b)) (sym (add-zero left))
column-at certain es (a ∷ b ∷ begins) left (suc k) h =
    let same : suc left + k ≡ left + suc k = omega arith in
    column-at certain es (b ∷ begins) (suc left) k (omega arith) ∙ ap (λ n. column certain n (span_at es (b ∷ begins) k)) same

pub cell-at : (certain : List Bool) (left : ℕ) (es : List Entry) (r : ℕ) → r < length certain → get_or (column certain left es) r None ≡ cell certain left es r
cell-at certain left es r h = get_or-map-range_with_len (cell certain left es) 0 (length certain) r r None h (zero-add r)

pub cell-past : (certain : List Bool) (left : ℕ) (es : List Entry) (r : ℕ) → length certain ≤ r → get_or (column certain left es) r None ≡ None
cell-past certain left es r h = get_or_past (column certain left es) r None (omega (arith, length-map-range_with_len (cell certain left es) 0 (length certain)))

-- ---- one place more

span-before : (es kept : List Entry) (a b : ℕ) → a ≤ b → b ≤ length es → span (es ++ kept) a b ≡ span es a b
span-before es kept a b h k =
    let inside : a ≤ length es = omega arith in
    let enough : b - a ≤ length (drop a es) = omega (arith, length-drop a es) in
    ap (take (b - a)) (drop-append-le a es kept inside) ∙ take-append-le (b - a) (drop a es) kept enough

pub columns-push : (certain : List Bool) (es kept : List Entry) (begins : List ℕ) (left : ℕ) → Rising begins (length es)
    → columns certain (es ++ kept) (begins ++ length es ∷ []) left ≡ columns certain es begins left ++ column certain (left + length begins) kept ∷ []
columns-push certain es kept [] left r = λ j. column certain (sym (add-zero left) j) (drop-append_seam es kept j) ∷ []
columns-push certain es kept (a ∷ []) left r =
    let last : suc left ≡ left + 1 = omega arith in
    let first : span (es ++ kept) a (length es) ≡ drop a es = span-before es kept a (length es) r (omega arith) ∙ to-end es a in
    λ j. column certain left (first j) ∷ column certain (last j) (drop-append_seam es kept j) ∷ []
columns-push certain es kept (a ∷ b ∷ begins) left r =
    let count : suc left + length (b ∷ begins) ≡ left + length (a ∷ b ∷ begins) = omega arith in
    let first : span (es ++ kept) a b ≡ span es a b = span-before es kept a b r.0 (first-within b begins (length es) r.1) in
    let others = columns-push certain es kept (b ∷ begins) (suc left) r.1 ∙ ap (λ n. columns certain es (b ∷ begins) (suc left) ++ column certain n kept ∷ []) count in
    λ j. column certain left (first j) ∷ others j

pub finished : (certain : List Bool) (ends : List (Option End)) (left begin : ℕ) (old entries : List Entry) (begins begins' : List ℕ) → Rising begins (length old) → Packs certain ends left old entries
    → left ≡ length begins → begin ≡ length old → begins' ≡ begins ++ begin ∷ [] → columns certain entries begins' 0 ≡ columns certain old begins 0 ++ ends ∷ []
finished certain ends left begin old entries begins begins' r p at is pushed =
    (λ j. columns certain (p.joined j) (pushed j) 0)
    ∙ ap (λ n. columns certain (old ++ p.kept) (begins ++ n ∷ []) 0) is
    ∙ columns-push certain old p.kept begins 0 r
    ∙ ap (λ n. columns certain old begins 0 ++ column certain n p.kept ∷ []) (zero-add (length begins) ∙ sym at)
    ∙ ap (λ c. columns certain old begins 0 ++ c ∷ []) p.same

pub finished-rising : (begin : ℕ) (old entries : List Entry) (begins begins' : List ℕ) → Rising begins (length old) → length old ≤ length entries → begin ≡ length old → begins' ≡ begins ++ begin ∷ [] → Rising begins' (length entries)
finished-rising begin old entries begins begins' r h is pushed =
    subst (λ bs. Rising bs (length entries)) (sym (pushed ∙ ap (λ n. begins ++ n ∷ []) is)) (rising-push begins (length old) (length entries) h r)

-- ---- the ends that are kept

-- of the first rows
pub record Kept (certain : List Bool) (ends : List (Option End)) (left i : ℕ) (old entries : List Entry) : Type 0 where
  pub kept : List Entry
  pub joined : entries ≡ old ++ kept
  pub rows : All (λ e. e.row < i) kept
  pub done : (r : ℕ) → r < i → cell certain left kept r ≡ get_or ends r None

pub kept-none : (certain : List Bool) (ends : List (Option End)) (left : ℕ) (old : List Entry) → Kept certain ends left 0 old old
kept-none certain ends left old = record { kept = []; joined = sym (append-nil old); rows = λ k d h. absurd (omega arith); done = λ r h. absurd (omega arith) }

pub kept-grows : (certain : List Bool) (ends : List (Option End)) (left i : ℕ) (old entries : List Entry) → Kept certain ends left i old entries → length old ≤ length entries
kept-grows certain ends left i old entries k = omega (arith, ap length k.joined, length-append old k.kept)

row-not : (a i : ℕ) → a < i → (a == i) ≡ false
row-not a i h = by (a == i) refl
  where
    by : (b : Bool) → (a == i) ≡ b → b ≡ false
    by false e = refl
    by true e = absurd (omega (arith, eqb-true a i e))

cell-none : (certain : List Bool) (left : ℕ) (es : List Entry) (i : ℕ) → All (λ e. e.row < i) es → cell certain left es i ≡ usual certain left i
cell-none certain left [] i all = refl
cell-none certain left (e ∷ es) i all =
    ap (λ b. if b then unpacked e else cell certain left es i) (row-not e.row i (all 0 e (omega arith))) ∙ cell-none certain left es i (All-tail (λ x. x.row < i) e es all)

cell-other : (certain : List Bool) (left : ℕ) (es : List Entry) (e : Entry) (r : ℕ) → (e.row == r) ≡ false → cell certain left (es ++ e ∷ []) r ≡ cell certain left es r
cell-other certain left [] e r differs = ap (λ b. if b then unpacked e else usual certain left r) differs
cell-other certain left (x ∷ es) e r differs = ap (λ o. if x.row == r then unpacked x else o) (cell-other certain left es e r differs)

cell-one : (certain : List Bool) (left : ℕ) (es : List Entry) (e : Entry) (i : ℕ) → All (λ x. x.row < i) es → e.row ≡ i → cell certain left (es ++ e ∷ []) i ≡ unpacked e
cell-one certain left [] e i all is = ap (λ b. if b then unpacked e else usual certain left i) (eq-eqb e.row i is)
cell-one certain left (x ∷ es) e i all is =
    ap (λ b. if b then unpacked x else cell certain left (es ++ e ∷ []) i) (row-not x.row i (all 0 x (omega arith))) ∙ cell-one certain left es e i (All-tail (λ y. y.row < i) x es all) is

above : (i r : ℕ) → r < i → (i == r) ≡ false
above i r h = by (i == r) refl
  where
    by : (b : Bool) → (i == r) ≡ b → b ≡ false
    by false e = refl
    by true e = absurd (omega (arith, eqb-true i r e))

pub kept-more : (certain : List Bool) (ends : List (Option End)) (left i : ℕ) (end : Option End) (old entries new : List Entry) → Kept certain ends left i old entries → get_or ends i None ≡ end
    → KeepsOne certain left i end entries new → Kept certain ends left (i + 1) old new
kept-more certain ends left i end old entries new k is (inl (same, usual)) = record {
  kept = k.kept;
  joined = same ∙ k.joined;
  rows = λ j d h. omega (arith, k.rows j d h);
  done = λ r h. below_or_at i r h (λ x. cell certain left k.kept x ≡ get_or ends x None) (k.done r) (cell-none certain left k.kept i k.rows ∙ sym usual ∙ sym is);
}
kept-more certain ends left i end old entries new k is (inr (e, pushed, row, unpacks)) = record {
  kept = k.kept ++ e ∷ [];
  joined = pushed ∙ ap (λ es. es ++ e ∷ []) k.joined ∙ append_assoc old k.kept (e ∷ []);
  rows = All-append (λ x. x.row < i + 1) k.kept (e ∷ []) (λ j d h. omega (arith, k.rows j d h)) one;
  done = λ r h. below_or_at i r h (λ x. cell certain left (k.kept ++ e ∷ []) x ≡ get_or ends x None) (λ below. cell-other certain left k.kept e r (other r below) ∙ k.done r below)
      (cell-one certain left k.kept e i k.rows row ∙ unpacks ∙ sym is);
}
  where
    one : All (λ x. x.row < i + 1) (e ∷ [])
    one zero d h = omega (arith, row)
    one (suc j) d h = absurd (omega arith)

    other : (r : ℕ) → r < i → (e.row == r) ≡ false
    other r h = ap (λ n. n == r) row ∙ above i r h

pub kept-all : (certain : List Bool) (ends : List (Option End)) (left i : ℕ) (old entries : List Entry) → Kept certain ends left i old entries → length ends ≤ i → length ends ≡ length certain → Packs certain ends left old entries
kept-all certain ends left i old entries k h wide = record {
  kept = k.kept;
  joined = k.joined;
  same = ext_get_or None (column certain left k.kept) ends (long ∙ sym wide) (λ r below. cell-at certain left k.kept r (omega (arith, long)) ∙ k.done r (omega (arith, long, wide)));
}
  where
    long : length (column certain left k.kept) ≡ length certain
    long = length-map-range_with_len (cell certain left k.kept) 0 (length certain)
