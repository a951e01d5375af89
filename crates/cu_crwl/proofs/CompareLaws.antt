-- Comparing by a walk over the cells of both values.
use Rattle.std.proofs.Common.{◌≡◌, ◌≢◌, ◌⊎◌, inl, inr, ℕ, zero, suc, ◌+◌, ◌-◌, ◌<◌, ◌≤◌, Bool, true, false, List, ◌∷◌, Option, None, Some, if◌then◌else◌, length, min, drop, get_or, drop-cons, length-drop, add-one, add-suc, add-zero, arith, refl, ap, sym, subst, ◌∙◌}
use Rattle.std.proofs.Math.Dec.{eqb}
use Rattle.std.proofs.lemmas.Bool.Decides.{eqb_tells}
use Rattle.cu_calculus.specs.Compared.{all_compared, and_compared, compared}
use Rattle.cu_calculus.specs.Literal.{same_literal}
use Rattle.cu_calculus.specs.Match.{same_constructor}
use Rattle.cu_calculus.specs.Value as value
use Rattle.cu_calculus.specs.Value.{Value, Values, count}
use Rattle.cu_values.specs.Cells.{arity_of, suffix, first, prefix, put, read_all, spell, IsSpelled}
use Rattle.cu_values.specs.declared.cell.Cell.{Cell}
use Rattle.cu_values.specs.declared.cell.Cell.TheVariants as cell
use Rattle.cu_values.proofs.CellLemmas.{after, count_read_all, read_all_one, some_cell, spelled_one, After}
use Rattle.cu_values.proofs.OrderLemmas.{put_parts, whole_enough}
use Rattle.cu_crwl.specs.Inside.Comparing.{heads_meet}
use Rattle.cu_crwl.specs.declared.compare.Met.{Met}
use Rattle.cu_crwl.specs.declared.compare.Met.TheVariants as met

-- the answer where all pairs are the same
abbrev pub ending : Bool → Option Bool
ending true = Some true
ending false = None

-- the first pairs of two lists of values, and then what is left
abbrev pub pairs_compared : ℕ → Values → Values → Option Bool → Option Bool
pairs_compared zero us vs last = last
pairs_compared (suc n) value.NoValue vs last = None
pairs_compared (suc n) (value.MoreValues u us) value.NoValue last = None
pairs_compared (suc n) (value.MoreValues u us) (value.MoreValues v vs) last = and_compared (compared u v) (pairs_compared n us vs last)

abbrev pub answer_of : Met → Values → Values → Option Bool
answer_of met.Unanswered us vs = None
answer_of met.Different us vs = Some false
answer_of met.Alike us vs = all_compared us vs

literals_met : (b : Bool) → Some b ≡ answer_of (if b then met.Alike else met.Different) value.NoValue value.NoValue
literals_met true = refl
literals_met false = refl

arguments_met : (b : Bool) (us vs : Values) → (if b then all_compared us vs else Some false) ≡ answer_of (if b then met.Alike else met.Different) us vs
arguments_met true us vs = refl
arguments_met false us vs = refl

-- the heads decide first, and then the arguments
heads_compared : (c d : Cell) (us vs : Values)
    → compared (first (put c us)) (first (put d vs)) ≡ answer_of (heads_meet c d) (prefix (arity_of c) us) (prefix (arity_of d) vs)
heads_compared (cell.Lit l) (cell.Lit m) us vs = literals_met (same_literal l m)
heads_compared (cell.Con c m) (cell.Con d n) us vs = arguments_met (same_constructor c d) (prefix m us) (prefix n vs)
heads_compared _ _ us vs = refl

and_assoc : (a b c : Option Bool) → and_compared (and_compared a b) c ≡ and_compared a (and_compared b c)
and_assoc None b c = refl
and_assoc (Some true) b c = refl
and_assoc (Some false) b c = refl

-- as many arguments, and then what stands after them
pairs_prefix : (m q : ℕ) (us vs : Values) (last : Option Bool) → m ≤ count us → m ≤ count vs
    → and_compared (all_compared (prefix m us) (prefix m vs)) (pairs_compared q (suffix m us) (suffix m vs) last) ≡ pairs_compared (q + m) us vs last
pairs_prefix zero q us vs last e f = rw add-zero refl
pairs_prefix (suc m) q value.NoValue vs last e f = absurd (omega (arith, e))
pairs_prefix (suc m) q (value.MoreValues u us) value.NoValue last e f = absurd (omega (arith, f))
pairs_prefix (suc m) q (value.MoreValues u us) (value.MoreValues v vs) last e f =
    rw add-suc
    (and_assoc (compared u v) (all_compared (prefix m us) (prefix m vs)) (pairs_compared q (suffix m us) (suffix m vs) last)
    ∙ ap (and_compared (compared u v)) (pairs_prefix m q us vs last (omega (arith, e)) (omega (arith, f))))

-- more arguments on one side
pairs_unlike : (m n k : ℕ) (us vs : Values) (rest : Option Bool) → (m ≡ n → ⊥) → k ≡ min m n → m ≤ count us → n ≤ count vs
    → and_compared (all_compared (prefix m us) (prefix n vs)) rest ≡ pairs_compared k us vs None
pairs_unlike zero zero k us vs rest differ is e f = absurd (differ refl)
pairs_unlike zero (suc n) k us value.NoValue rest differ is e f = absurd (omega (arith, f))
pairs_unlike zero (suc n) zero us (value.MoreValues v vs) rest differ is e f = refl
pairs_unlike zero (suc n) (suc k) us (value.MoreValues v vs) rest differ is e f = absurd (omega (arith, is))
pairs_unlike (suc m) n k value.NoValue vs rest differ is e f = absurd (omega (arith, e))
pairs_unlike (suc m) zero zero (value.MoreValues u us) vs rest differ is e f = refl
pairs_unlike (suc m) zero (suc k) (value.MoreValues u us) vs rest differ is e f = absurd (omega (arith, is))
pairs_unlike (suc m) (suc n) k (value.MoreValues u us) value.NoValue rest differ is e f = absurd (omega (arith, f))
pairs_unlike (suc m) (suc n) zero (value.MoreValues u us) (value.MoreValues v vs) rest differ is e f = absurd (omega (arith, is))
pairs_unlike (suc m) (suc n) (suc k) (value.MoreValues u us) (value.MoreValues v vs) rest differ is e f =
    and_assoc (compared u v) (all_compared (prefix m us) (prefix n vs)) rest
    ∙ ap (and_compared (compared u v)) (pairs_unlike m n k us vs rest (λ g. differ (ap suc g)) (omega (arith, is)) (omega (arith, e)) (omega (arith, f)))

pairs_heads : (c d : Cell) (us vs : Values) (q : ℕ) (last : Option Bool)
    → pairs_compared (suc q) (put c us) (put d vs) last
    ≡ and_compared (answer_of (heads_meet c d) (prefix (arity_of c) us) (prefix (arity_of d) vs)) (pairs_compared q (suffix (arity_of c) us) (suffix (arity_of d) vs) last)
pairs_heads c d us vs q last =
    ap (λ (x : Values). pairs_compared (suc q) x (put d vs) last) (put_parts c us)
    ∙ ap (λ (x : Values). pairs_compared (suc q) (value.MoreValues (first (put c us)) (suffix (arity_of c) us)) x last) (put_parts d vs)
    ∙ ap (λ x. and_compared x (pairs_compared q (suffix (arity_of c) us) (suffix (arity_of d) vs) last)) (heads_compared c d us vs)

-- cells of values of which some pairs are still to be compared, the answer where these are the
-- same, and what the comparison answers
pub record Compares (cs ds : List Cell) (left : ℕ) (last answer : Option Bool) : Type 0 where
  pub spelled : IsSpelled cs
  pub others : IsSpelled ds
  pub mine : left ≤ count (read_all cs)
  pub theirs : left ≤ count (read_all ds)
  pub decides : answer ≡ pairs_compared left (read_all cs) (read_all ds) last

-- what the heads of the first pair say
met_first : (met : Met) (c d : Cell) (cs ds : List Cell) (q : ℕ) (last answer : Option Bool) → met ≡ heads_meet c d
    → Compares (c ∷ cs) (d ∷ ds) (suc q) last answer
    → answer
    ≡ and_compared (answer_of met (prefix (arity_of c) (read_all cs)) (prefix (arity_of d) (read_all ds)))
    (pairs_compared q (suffix (arity_of c) (read_all cs)) (suffix (arity_of d) (read_all ds)) last)
met_first met c d cs ds q last answer is p =
    p.decides ∙ pairs_heads c d (read_all cs) (read_all ds) q last
    ∙ ap (λ m. and_compared (answer_of m (prefix (arity_of c) (read_all cs)) (prefix (arity_of d) (read_all ds)))
    (pairs_compared q (suffix (arity_of c) (read_all cs)) (suffix (arity_of d) (read_all ds)) last)) (sym is)

-- what is left after heads that are alike
pub record Left (m n q : ℕ) (whole : Bool) (left : ℕ) (now : Bool) : Type 0 where
  pub same : m ≡ n → (left ≡ q + m) × (now ≡ whole)
  pub differ : (m ≡ n → ⊥) → (left ≡ min m n) × (now ≡ false)

step_same : (c d : Cell) (cs ds : List Cell) (q : ℕ) (whole : Bool) (answer : Option Bool) (left : ℕ) (now : Bool)
    → met.Alike ≡ heads_meet c d → Compares (c ∷ cs) (d ∷ ds) (suc q) (ending whole) answer → Left (arity_of c) (arity_of d) q whole left now
    → arity_of c ≡ arity_of d → Compares cs ds left (ending now) answer
step_same c d cs ds q whole answer left now alike p l e =
    let us = read_all cs in
    let vs = read_all ds in
    let b : After c cs = after c cs p.spelled in
    let k : After d ds = after d ds p.others in
    let n : left ≡ q + arity_of c = (l.same e).0 in
    let o : now ≡ whole = (l.same e).1 in
    let mine : arity_of c ≤ count us = whole_enough c cs b in
    let theirs : arity_of c ≤ count vs = rw e (whole_enough d ds k) in
    let begun = met_first met.Alike c d cs ds q (ending whole) answer alike p in
    let even : answer ≡ and_compared (all_compared (prefix (arity_of c) us) (prefix (arity_of c) vs)) (pairs_compared q (suffix (arity_of c) us) (suffix (arity_of c) vs) (ending whole)) =
    subst (λ (m : ℕ). answer ≡ and_compared (all_compared (prefix (arity_of c) us) (prefix m vs)) (pairs_compared q (suffix (arity_of c) us) (suffix m vs) (ending whole))) (sym e) begun in
    rw (n, o) record {
      spelled = b.others;
      others = k.others;
      mine = omega (arith, b.counted, p.mine);
      theirs = omega (arith, k.counted, p.theirs, e);
      decides = even ∙ pairs_prefix (arity_of c) q us vs (ending whole) mine theirs;
    }

step_differ : (c d : Cell) (cs ds : List Cell) (q : ℕ) (whole : Bool) (answer : Option Bool) (left : ℕ) (now : Bool)
    → met.Alike ≡ heads_meet c d → Compares (c ∷ cs) (d ∷ ds) (suc q) (ending whole) answer → Left (arity_of c) (arity_of d) q whole left now
    → (arity_of c ≡ arity_of d → ⊥) → Compares cs ds left (ending now) answer
step_differ c d cs ds q whole answer left now alike p l differ =
    let us = read_all cs in
    let vs = read_all ds in
    let b : After c cs = after c cs p.spelled in
    let k : After d ds = after d ds p.others in
    let n : left ≡ min (arity_of c) (arity_of d) = (l.differ differ).0 in
    let o : now ≡ false = (l.differ differ).1 in
    let mine : arity_of c ≤ count us = whole_enough c cs b in
    let theirs : arity_of d ≤ count vs = whole_enough d ds k in
    let begun = met_first met.Alike c d cs ds q (ending whole) answer alike p in
    rw o record {
      spelled = b.others;
      others = k.others;
      mine = omega (arith, n, mine);
      theirs = omega (arith, n, theirs);
      decides =
          begun
          ∙ pairs_unlike (arity_of c) (arity_of d) left us vs (pairs_compared q (suffix (arity_of c) us) (suffix (arity_of d) vs) (ending whole)) differ n mine theirs;
    }

step : (c d : Cell) (cs ds : List Cell) (q : ℕ) (whole : Bool) (answer : Option Bool) (left : ℕ) (now : Bool)
    → met.Alike ≡ heads_meet c d → Compares (c ∷ cs) (d ∷ ds) (suc q) (ending whole) answer → Left (arity_of c) (arity_of d) q whole left now
    → Compares cs ds left (ending now) answer
step c d cs ds q whole answer left now alike p l = go (eqb_tells (arity_of c) (arity_of d))
  where
    go : ((eqb (arity_of c) (arity_of d) ≡ true) × (arity_of c ≡ arity_of d)) ⊎ ((eqb (arity_of c) (arity_of d) ≡ false) × (arity_of c ≢ arity_of d))
        → Compares cs ds left (ending now) answer
    go (inl e) = step_same c d cs ds q whole answer left now alike p l e.1
    go (inr e) = step_differ c d cs ds q whole answer left now alike p l e.1

-- ---- the same at places in lists of cells

pub begins : (u v : Value) (cs ds : List Cell) → cs ≡ spell u → ds ≡ spell v → Compares cs ds 1 (Some true) (compared u v)
begins u v cs ds e f =
    rw (e, f) record {
      spelled = spelled_one u;
      others = spelled_one v;
      mine = rw (read_all_one u) (omega arith);
      theirs = rw (read_all_one v) (omega arith);
      decides = rw (read_all_one u, read_all_one v) (only (compared u v));
    }
  where
    only : (o : Option Bool) → o ≡ and_compared o (Some true)
    only None = refl
    only (Some true) = refl
    only (Some false) = refl

here : (cells others : List Cell) (i left : ℕ) (d : Cell) (last answer : Option Bool) → 0 < left
    → Compares (drop i cells) (drop i others) left last answer
    → Compares (get_or cells i d ∷ drop (suc i) cells) (get_or others i d ∷ drop (suc i) others) (suc (left - 1)) last answer
here cells others i left d last answer some p =
    let mine : i < length cells = some_cell cells i (omega (arith, p.mine, some)) in
    let theirs : i < length others = some_cell others i (omega (arith, p.theirs, some)) in
    let n : left ≡ suc (left - 1) = omega (arith, some) in
    subst (λ (x : List Cell). Compares (get_or cells i d ∷ drop (suc i) cells) x (suc (left - 1)) last answer) (drop-cons others i d theirs)
    (subst (λ (x : List Cell). Compares x (drop i others) (suc (left - 1)) last answer) (drop-cons cells i d mine)
    (subst (λ (x : ℕ). Compares (drop i cells) (drop i others) x last answer) n p))

pub no_answer : (cells others : List Cell) (i left : ℕ) (d : Cell) (last answer : Option Bool) → 0 < left
    → Compares (drop i cells) (drop i others) left last answer → met.Unanswered ≡ heads_meet (get_or cells i d) (get_or others i d) → None ≡ answer
no_answer cells others i left d last answer some p is =
    sym (met_first met.Unanswered (get_or cells i d) (get_or others i d) (drop (suc i) cells) (drop (suc i) others) (left - 1) last answer is
    (here cells others i left d last answer some p))

pub differ_at : (cells others : List Cell) (i left : ℕ) (d : Cell) (last answer : Option Bool) → 0 < left
    → Compares (drop i cells) (drop i others) left last answer → met.Different ≡ heads_meet (get_or cells i d) (get_or others i d) → Some false ≡ answer
differ_at cells others i left d last answer some p is =
    sym (met_first met.Different (get_or cells i d) (get_or others i d) (drop (suc i) cells) (drop (suc i) others) (left - 1) last answer is
    (here cells others i left d last answer some p))

pub alike_at : (cells others : List Cell) (i left : ℕ) (d : Cell) (whole : Bool) (answer : Option Bool) (n : ℕ) (now : Bool) → 0 < left
    → Compares (drop i cells) (drop i others) left (ending whole) answer → met.Alike ≡ heads_meet (get_or cells i d) (get_or others i d)
    → Left (arity_of (get_or cells i d)) (arity_of (get_or others i d)) (left - 1) whole n now
    → Compares (drop (i + 1) cells) (drop (i + 1) others) n (ending now) answer
alike_at cells others i left d whole answer n now some p alike l =
    rw (add-one i)
    (step (get_or cells i d) (get_or others i d) (drop (suc i) cells) (drop (suc i) others) (left - 1) whole answer n now alike
    (here cells others i left d (ending whole) answer some p) l)

-- the arguments of a cell are among those that are left
pub arity_room : (cells others : List Cell) (i left : ℕ) (d : Cell) (last answer : Option Bool) → 0 < left
    → Compares (drop i cells) (drop i others) left last answer → left + arity_of (get_or cells i d) ≤ length cells + 1
arity_room cells others i left d last answer some p =
    let q = here cells others i left d last answer some p in
    let b : After (get_or cells i d) (drop (suc i) cells) = after (get_or cells i d) (drop (suc i) cells) q.spelled in
    omega (arith, b.counted, q.mine, count_read_all (drop (suc i) cells), length-drop (suc i) cells, some)

pub left_from : (m n a b left : ℕ) (whole : Bool) (k : ℕ) (now : Bool) → m ≡ a → n ≡ b → 0 < left
    → (m ≡ n → (k + 1 ≡ left + m) × (now ≡ whole)) → ((m ≡ n → ⊥) → (k ≡ min m n) × (now ≡ false)) → Left a b (left - 1) whole k now
left_from m n a b left whole k now e f some same differ =
    rw (← e, ← f) record {
      same = λ g. (omega (arith, (same g).0, some), (same g).1);
      differ = differ;
    }

pub ends : (cs ds : List Cell) (left : ℕ) (last answer : Option Bool) → left ≡ 0 → Compares cs ds left last answer → last ≡ answer
ends cs ds left last answer e p =
    let q : Compares cs ds 0 last answer = subst (λ (n : ℕ). Compares cs ds n last answer) e p in
    sym q.decides
