-- The order of values on lists of cells.
use Rattle.std.specs.Prelude.{◌≡◌, ℕ, zero, suc, ◌+◌, ◌-◌, ◌<◌, ◌≤◌, Bool, true, false, List, ◌∷◌, length, min, nat_lt, refl}
use Rattle.std.specs.declared.cmp.Ordering.{Ordering}
use Rattle.std.specs.declared.cmp.Ordering.TheVariants.{Equal, Greater, Less}
use Rattle.std.specs.Cmp.{nat_cmp_is}
use Rattle.std.specs.Ordering.{nat_cmp, ordering_then}
use Rattle.std.proofs.Common.{add-one, add-suc, add-zero, ap, arith, drop, drop-cons, get_or, length-drop, ltb-false, ltb-true, sym, subst, ◌∙◌}
use Rattle.cu_calculus.specs.Order.{literal_order, value_order, values_order}
use Rattle.cu_calculus.specs.Value as value
use Rattle.cu_calculus.specs.Value.{Value, Values, count}
use Rattle.cu_values.specs.declared.cell.Cell.{Cell}
use Rattle.cu_values.specs.declared.cell.Cell.TheVariants as cell
use Rattle.cu_values.specs.Cells.{arity_of, suffix, first, prefix, put, read_all, spell, IsSpelled}
use Rattle.cu_values.specs.Inside.HeadsOrder.{cell_order}
use Rattle.cu_values.proofs.CellLemmas.{after, count-put-some, count_read_all, read_all_one, some_cell, spelled_one, After}

pub then_equal : (o : Ordering) → ordering_then o Equal ≡ o
then_equal Less = refl
then_equal Equal = refl
then_equal Greater = refl

pub then_assoc : (o p q : Ordering) → ordering_then (ordering_then o p) q ≡ ordering_then o (ordering_then p q)
then_assoc Less p q = refl
then_assoc Equal p q = refl
then_assoc Greater p q = refl

-- an order that isn't equal is not refined
pub then_final : (o p : Ordering) → (o ≡ Equal → ⊥) → ordering_then o p ≡ o
then_final Less p differ = refl
then_final Equal p differ = absurd (differ refl)
then_final Greater p differ = refl

-- the order of the first of two lists of values
abbrev pub pairs_order : ℕ → Values → Values → Ordering
pairs_order zero us vs = Equal
pairs_order (suc n) value.NoValue vs = Equal
pairs_order (suc n) (value.MoreValues u us) value.NoValue = Equal
pairs_order (suc n) (value.MoreValues u us) (value.MoreValues v vs) = ordering_then (value_order u v) (pairs_order n us vs)

-- as many arguments, and then what stands after them
pub pairs_prefix : (m q : ℕ) (us vs : Values) → m ≤ count us → m ≤ count vs
    → ordering_then (values_order (prefix m us) (prefix m vs)) (pairs_order q (suffix m us) (suffix m vs)) ≡ pairs_order (q + m) us vs
pairs_prefix zero q us vs e f = rw add-zero refl
pairs_prefix (suc m) q value.NoValue vs e f = absurd (omega (arith, e))
pairs_prefix (suc m) q (value.MoreValues u us) value.NoValue e f = absurd (omega (arith, f))
pairs_prefix (suc m) q (value.MoreValues u us) (value.MoreValues v vs) e f =
    rw add-suc
    (then_assoc (value_order u v) (values_order (prefix m us) (prefix m vs)) (pairs_order q (suffix m us) (suffix m vs))
    ∙ ap (λ o. ordering_then (value_order u v) o) (pairs_prefix m q us vs (omega (arith, e)) (omega (arith, f))))

-- fewer arguments on the left
pub pairs_fewer : (m n : ℕ) (us vs : Values) → m < n → m ≤ count us → n ≤ count vs
    → values_order (prefix m us) (prefix n vs) ≡ ordering_then (pairs_order m us vs) Less
pairs_fewer m zero us vs less e f = absurd (omega (arith, less))
pairs_fewer m (suc n) us value.NoValue less e f = absurd (omega (arith, f))
pairs_fewer zero (suc n) us (value.MoreValues v vs) less e f = refl
pairs_fewer (suc m) (suc n) value.NoValue (value.MoreValues v vs) less e f = absurd (omega (arith, e))
pairs_fewer (suc m) (suc n) (value.MoreValues u us) (value.MoreValues v vs) less e f =
    ap (λ o. ordering_then (value_order u v) o) (pairs_fewer m n us vs (omega (arith, less)) (omega (arith, e)) (omega (arith, f)))
    ∙ sym (then_assoc (value_order u v) (pairs_order m us vs) Less)

-- more arguments on the left
pub pairs_more : (m n : ℕ) (us vs : Values) → n < m → m ≤ count us → n ≤ count vs
    → values_order (prefix m us) (prefix n vs) ≡ ordering_then (pairs_order n us vs) Greater
pairs_more zero n us vs less e f = absurd (omega (arith, less))
pairs_more (suc m) n value.NoValue vs less e f = absurd (omega (arith, e))
pairs_more (suc m) zero (value.MoreValues u us) vs less e f = refl
pairs_more (suc m) (suc n) (value.MoreValues u us) value.NoValue less e f = absurd (omega (arith, f))
pairs_more (suc m) (suc n) (value.MoreValues u us) (value.MoreValues v vs) less e f =
    ap (λ o. ordering_then (value_order u v) o) (pairs_more m n us vs (omega (arith, less)) (omega (arith, e)) (omega (arith, f)))
    ∙ sym (then_assoc (value_order u v) (pairs_order n us vs) Greater)

pub put_parts : (c : Cell) (us : Values) → put c us ≡ value.MoreValues (first (put c us)) (suffix (arity_of c) us)
put_parts cell.Bottom us = refl
put_parts (cell.LVar x) us = refl
put_parts (cell.Lit l) us = refl
put_parts (cell.Con c n) us = refl
put_parts (cell.Part h n) us = refl

-- the heads decide first, and then the arguments
pub heads_order : (c d : Cell) (us vs : Values)
    → value_order (first (put c us)) (first (put d vs)) ≡ ordering_then (cell_order c d) (values_order (prefix (arity_of c) us) (prefix (arity_of d) vs))
heads_order cell.Bottom cell.Bottom us vs = refl
heads_order cell.Bottom (cell.LVar y) us vs = refl
heads_order cell.Bottom (cell.Lit m) us vs = refl
heads_order cell.Bottom (cell.Con d n) us vs = refl
heads_order cell.Bottom (cell.Part k n) us vs = refl
heads_order (cell.LVar x) (cell.LVar y) us vs = sym (then_equal (nat_cmp x y))
heads_order (cell.Lit l) (cell.Lit m) us vs = sym (then_equal (literal_order l m))
heads_order (cell.Con c m) (cell.Con d n) us vs = refl
heads_order (cell.Part h m) (cell.Part k n) us vs = refl
heads_order _ _ us vs = refl

-- cells of values of which some pairs are still to be compared, the order where these are alike,
-- and what the comparison gives
pub record Ordered (cs ds : List Cell) (left : ℕ) (last answer : Ordering) : Type 0 where
  pub spelled : IsSpelled cs
  pub others : IsSpelled ds
  pub mine : left ≤ count (read_all cs)
  pub theirs : left ≤ count (read_all ds)
  pub decides : answer ≡ ordering_then (pairs_order left (read_all cs) (read_all ds)) last

pub pairs_heads : (c d : Cell) (us vs : Values) (q : ℕ)
    → pairs_order (suc q) (put c us) (put d vs)
    ≡ ordering_then (ordering_then (cell_order c d) (values_order (prefix (arity_of c) us) (prefix (arity_of d) vs))) (pairs_order q (suffix (arity_of c) us) (suffix (arity_of d) vs))
pairs_heads c d us vs q =
    ap (λ (x : Values). pairs_order (suc q) x (put d vs)) (put_parts c us)
    ∙ ap (λ (x : Values). pairs_order (suc q) (value.MoreValues (first (put c us)) (suffix (arity_of c) us)) x) (put_parts d vs)
    ∙ ap (λ o. ordering_then o (pairs_order q (suffix (arity_of c) us) (suffix (arity_of d) vs))) (heads_order c d us vs)

-- heads that differ decide
pub order_differ : (c d : Cell) (cs ds : List Cell) (q : ℕ) (last answer : Ordering) → Ordered (c ∷ cs) (d ∷ ds) (suc q) last answer
    → (cell_order c d ≡ Equal → ⊥) → answer ≡ cell_order c d
order_differ c d cs ds q last answer p differ =
    let h = pairs_heads c d (read_all cs) (read_all ds) q in
    let o = cell_order c d in
    p.decides ∙ ap (λ x. ordering_then x last) h
    ∙ ap (λ x. ordering_then (ordering_then x (pairs_order q (suffix (arity_of c) (read_all cs)) (suffix (arity_of d) (read_all ds)))) last)
    (then_final o (values_order (prefix (arity_of c) (read_all cs)) (prefix (arity_of d) (read_all ds))) differ)
    ∙ ap (λ x. ordering_then x last) (then_final o (pairs_order q (suffix (arity_of c) (read_all cs)) (suffix (arity_of d) (read_all ds))) differ)
    ∙ then_final o last differ

pub whole_enough : (c : Cell) (cs : List Cell) → After c cs → arity_of c ≤ count (read_all cs)
whole_enough c cs b = omega (arith, b.counted, count-put-some c (read_all cs))

-- heads that are alike leave their arguments to be compared
pub order_alike : (c d : Cell) (cs ds : List Cell) (q : ℕ) (last answer : Ordering) → Ordered (c ∷ cs) (d ∷ ds) (suc q) last answer
    → cell_order c d ≡ Equal
    → answer ≡ ordering_then (ordering_then (values_order (prefix (arity_of c) (read_all cs)) (prefix (arity_of d) (read_all ds))) (pairs_order q (suffix (arity_of c) (read_all cs)) (suffix (arity_of d) (read_all ds)))) last
order_alike c d cs ds q last answer p alike =
    p.decides ∙ ap (λ x. ordering_then x last) (pairs_heads c d (read_all cs) (read_all ds) q)
    ∙ ap (λ x. ordering_then (ordering_then (ordering_then x (values_order (prefix (arity_of c) (read_all cs)) (prefix (arity_of d) (read_all ds)))) (pairs_order q (suffix (arity_of c) (read_all cs)) (suffix (arity_of d) (read_all ds)))) last) alike

-- a prefix that differs is not refined by what stands after it
pub then_last : (p l b last : Ordering) → (l ≡ Equal → ⊥) → ordering_then (ordering_then (ordering_then p l) b) last ≡ ordering_then p l
then_last Less l b last differ = refl
then_last Equal l b last differ = ap (λ x. ordering_then x last) (then_final l b differ) ∙ then_final l last differ
then_last Greater l b last differ = refl

-- what is left after heads that are alike
pub record Left (m n q : ℕ) (last : Ordering) (left : ℕ) (new : Ordering) : Type 0 where
  pub same : m ≡ n → (left ≡ q + m) × (new ≡ last)
  pub differ : (m ≡ n → ⊥) → (left ≡ min m n) × (new ≡ nat_cmp m n)

pub step_same : (c d : Cell) (cs ds : List Cell) (q : ℕ) (last answer : Ordering) (left : ℕ) (new : Ordering)
    → Ordered (c ∷ cs) (d ∷ ds) (suc q) last answer → cell_order c d ≡ Equal → Left (arity_of c) (arity_of d) q last left new → arity_of c ≡ arity_of d
    → Ordered cs ds left new answer
step_same c d cs ds q last answer left new p alike l e =
    let us = read_all cs in
    let vs = read_all ds in
    let b : After c cs = after c cs p.spelled in
    let k : After d ds = after d ds p.others in
    let n : left ≡ q + arity_of c = (l.same e).0 in
    let o : new ≡ last = (l.same e).1 in
    let mine : arity_of c ≤ count us = whole_enough c cs b in
    let theirs : arity_of c ≤ count vs = rw e (whole_enough d ds k) in
    let begun = order_alike c d cs ds q last answer p alike in
    let even : answer ≡ ordering_then (ordering_then (values_order (prefix (arity_of c) us) (prefix (arity_of c) vs)) (pairs_order q (suffix (arity_of c) us) (suffix (arity_of c) vs))) last =
    subst (λ (m : ℕ). answer ≡ ordering_then (ordering_then (values_order (prefix (arity_of c) us) (prefix m vs)) (pairs_order q (suffix (arity_of c) us) (suffix m vs))) last) (sym e) begun in
    rw (n, o) record {
      spelled = b.others;
      others = k.others;
      mine = omega (arith, b.counted, p.mine);
      theirs = omega (arith, k.counted, p.theirs, e);
      decides = even ∙ ap (λ x. ordering_then x last) (pairs_prefix (arity_of c) q us vs mine theirs);
    }

pub step_fewer : (c d : Cell) (cs ds : List Cell) (q : ℕ) (last answer : Ordering) (left : ℕ) (new : Ordering)
    → Ordered (c ∷ cs) (d ∷ ds) (suc q) last answer → cell_order c d ≡ Equal → Left (arity_of c) (arity_of d) q last left new → arity_of c < arity_of d
    → Ordered cs ds left new answer
step_fewer c d cs ds q last answer left new p alike l less =
    let us = read_all cs in
    let vs = read_all ds in
    let b : After c cs = after c cs p.spelled in
    let k : After d ds = after d ds p.others in
    let unlike : arity_of c ≡ arity_of d → ⊥ = omega (arith, less) in
    let n : left ≡ arity_of c = omega (arith, (l.differ unlike).0, less) in
    let o : new ≡ Less = (l.differ unlike).1 ∙ sym (nat_cmp_is (arity_of c) (arity_of d) Less less) in
    let mine : arity_of c ≤ count us = whole_enough c cs b in
    let theirs : arity_of d ≤ count vs = whole_enough d ds k in
    let begun = order_alike c d cs ds q last answer p alike in
    let after_them = pairs_order q (suffix (arity_of c) us) (suffix (arity_of d) vs) in
    rw (n, o) record {
      spelled = b.others;
      others = k.others;
      mine = mine;
      theirs = omega (arith, theirs, less);
      decides =
          begun ∙ ap (λ x. ordering_then (ordering_then x after_them) last) (pairs_fewer (arity_of c) (arity_of d) us vs less mine theirs)
          ∙ then_last (pairs_order (arity_of c) us vs) Less after_them last (λ e. cc);
    }

pub step_more : (c d : Cell) (cs ds : List Cell) (q : ℕ) (last answer : Ordering) (left : ℕ) (new : Ordering)
    → Ordered (c ∷ cs) (d ∷ ds) (suc q) last answer → cell_order c d ≡ Equal → Left (arity_of c) (arity_of d) q last left new → arity_of d < arity_of c
    → Ordered cs ds left new answer
step_more c d cs ds q last answer left new p alike l less =
    let us = read_all cs in
    let vs = read_all ds in
    let b : After c cs = after c cs p.spelled in
    let k : After d ds = after d ds p.others in
    let unlike : arity_of c ≡ arity_of d → ⊥ = omega (arith, less) in
    let n : left ≡ arity_of d = omega (arith, (l.differ unlike).0, less) in
    let o : new ≡ Greater = (l.differ unlike).1 ∙ sym (nat_cmp_is (arity_of c) (arity_of d) Greater less) in
    let mine : arity_of c ≤ count us = whole_enough c cs b in
    let theirs : arity_of d ≤ count vs = whole_enough d ds k in
    let begun = order_alike c d cs ds q last answer p alike in
    let after_them = pairs_order q (suffix (arity_of c) us) (suffix (arity_of d) vs) in
    rw (n, o) record {
      spelled = b.others;
      others = k.others;
      mine = omega (arith, mine, less);
      theirs = theirs;
      decides =
          begun ∙ ap (λ x. ordering_then (ordering_then x after_them) last) (pairs_more (arity_of c) (arity_of d) us vs less mine theirs)
          ∙ then_last (pairs_order (arity_of d) us vs) Greater after_them last (λ e. cc);
    }

pub order_step : (c d : Cell) (cs ds : List Cell) (q : ℕ) (last answer : Ordering) (left : ℕ) (new : Ordering)
    → Ordered (c ∷ cs) (d ∷ ds) (suc q) last answer → cell_order c d ≡ Equal → Left (arity_of c) (arity_of d) q last left new → Ordered cs ds left new answer
order_step c d cs ds q last answer left new p alike l = by (nat_lt (arity_of c) (arity_of d)) refl
  where
    further : (b : Bool) → nat_lt (arity_of d) (arity_of c) ≡ b → arity_of d ≤ arity_of c → Ordered cs ds left new answer
    further true e f = step_more c d cs ds q last answer left new p alike l (ltb-true (arity_of d) (arity_of c) e)
    further false e f = step_same c d cs ds q last answer left new p alike l (omega (arith, ltb-false (arity_of d) (arity_of c) e, f))

    by : (b : Bool) → nat_lt (arity_of c) (arity_of d) ≡ b → Ordered cs ds left new answer
    by true e = step_fewer c d cs ds q last answer left new p alike l (ltb-true (arity_of c) (arity_of d) e)
    by false e = further (nat_lt (arity_of d) (arity_of c)) refl (ltb-false (arity_of c) (arity_of d) e)

-- ---- the order, at places in lists of cells

pub order_beginning : (u v : Value) (cs ds : List Cell) (left : ℕ) (last : Ordering) → cs ≡ spell u → ds ≡ spell v → left ≡ 1 → last ≡ Equal
    → Ordered cs ds left last (value_order u v)
order_beginning u v cs ds left last e f n o =
    rw (e, f, n, o) record {
      spelled = spelled_one u;
      others = spelled_one v;
      mine = rw (read_all_one u) (omega arith);
      theirs = rw (read_all_one v) (omega arith);
      decides = rw (read_all_one u, read_all_one v) (sym (then_equal (ordering_then (value_order u v) Equal) ∙ then_equal (value_order u v)));
    }

pub order_here : (cells others : List Cell) (i left : ℕ) (d : Cell) (last answer : Ordering) → 0 < left
    → Ordered (drop i cells) (drop i others) left last answer
    → Ordered (get_or cells i d ∷ drop (suc i) cells) (get_or others i d ∷ drop (suc i) others) (suc (left - 1)) last answer
order_here cells others i left d last answer some p =
    let mine : i < length cells = some_cell cells i (omega (arith, p.mine, some)) in
    let theirs : i < length others = some_cell others i (omega (arith, p.theirs, some)) in
    let n : left ≡ suc (left - 1) = omega (arith, some) in
    subst (λ (x : List Cell). Ordered (get_or cells i d ∷ drop (suc i) cells) x (suc (left - 1)) last answer) (drop-cons others i d theirs)
    (subst (λ (x : List Cell). Ordered x (drop i others) (suc (left - 1)) last answer) (drop-cons cells i d mine)
    (subst (λ (x : ℕ). Ordered (drop i cells) (drop i others) x last answer) n p))

pub order_differ_at : (cells others : List Cell) (i left : ℕ) (d : Cell) (last answer : Ordering) → 0 < left
    → Ordered (drop i cells) (drop i others) left last answer
    → (cell_order (get_or cells i d) (get_or others i d) ≡ Equal → ⊥) → answer ≡ cell_order (get_or cells i d) (get_or others i d)
order_differ_at cells others i left d last answer some p differ =
    order_differ (get_or cells i d) (get_or others i d) (drop (suc i) cells) (drop (suc i) others) (left - 1) last answer
    (order_here cells others i left d last answer some p) differ

pub order_step_at : (cells others : List Cell) (i left : ℕ) (d : Cell) (last answer : Ordering) (n : ℕ) (new : Ordering) → 0 < left
    → Ordered (drop i cells) (drop i others) left last answer → cell_order (get_or cells i d) (get_or others i d) ≡ Equal
    → Left (arity_of (get_or cells i d)) (arity_of (get_or others i d)) (left - 1) last n new
    → Ordered (drop (i + 1) cells) (drop (i + 1) others) n new answer
order_step_at cells others i left d last answer n new some p alike l =
    rw (add-one i)
    (order_step (get_or cells i d) (get_or others i d) (drop (suc i) cells) (drop (suc i) others) (left - 1) last answer n new
    (order_here cells others i left d last answer some p) alike l)

-- there are no more pairs than cells
pub order_room : (cells others : List Cell) (i left : ℕ) (last answer : Ordering) → Ordered (drop i cells) (drop i others) left last answer → left ≤ length cells - i
order_room cells others i left last answer p = omega (arith, p.mine, count_read_all (drop i cells), length-drop i cells)

-- the arguments of a cell are among those that are left
pub arity_room : (cells others : List Cell) (i left : ℕ) (d : Cell) (last answer : Ordering) → 0 < left
    → Ordered (drop i cells) (drop i others) left last answer → left + arity_of (get_or cells i d) ≤ length cells + 1
arity_room cells others i left d last answer some p =
    let q = order_here cells others i left d last answer some p in
    let b : After (get_or cells i d) (drop (suc i) cells) = after (get_or cells i d) (drop (suc i) cells) q.spelled in
    omega (arith, b.counted, q.mine, count_read_all (drop (suc i) cells), length-drop (suc i) cells, some)

pub left_from : (m n a b left : ℕ) (last : Ordering) (k : ℕ) (new : Ordering) → m ≡ a → n ≡ b → 0 < left
    → (m ≡ n → (k + 1 ≡ left + m) × (new ≡ last)) → ((m ≡ n → ⊥) → (k ≡ min m n) × (new ≡ nat_cmp m n)) → Left a b (left - 1) last k new
left_from m n a b left last k new e f some same differ =
    rw (← e, ← f) record {
      same = λ g. (omega (arith, (same g).0, some), (same g).1);
      differ = differ;
    }

pub order_end : (cs ds : List Cell) (left : ℕ) (last answer : Ordering) → left ≡ 0 → Ordered cs ds left last answer → last ≡ answer
order_end cs ds left last answer e p =
    let q : Ordered cs ds 0 last answer = subst (λ (n : ℕ). Ordered cs ds n last answer) e p in
    sym q.decides
