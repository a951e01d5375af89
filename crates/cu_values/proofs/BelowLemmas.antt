-- The test of approximation on lists of cells.
use Rattle.std.specs.Prelude.{◌≡◌, ℕ, zero, suc, ◌+◌, ◌<◌, ◌≤◌, Bool, true, false, ◌&&◌, List, [], ◌∷◌, length, refl, ℤ, IsTrue}
use Rattle.std.specs.Ordering.{int_eq}
use Rattle.std.proofs.Common.{add-one, ap, arith, drop, drop-cons, drop_of_length-le, eq-eqb, eqb-true, get_or, ne_eqb, sym, subst, ◌∙◌}
use Rattle.std.proofs.lemmas.Bool.Decides.{Decides-int_eq}
use Rattle.cu_calculus.specs.declared.ConId.{ConId}
use Rattle.cu_calculus.specs.declared.FunId.{FunId}
use Rattle.cu_calculus.specs.declared.Head.{Head}
use Rattle.cu_calculus.specs.declared.Head.TheVariants as head
use Rattle.cu_calculus.specs.declared.Lit.{Lit}
use Rattle.cu_calculus.specs.declared.Lit.TheVariants as lit
use Rattle.cu_calculus.specs.Below as below
use Rattle.cu_calculus.specs.Below.{AllBelow, Below}
use Rattle.cu_calculus.specs.Literal.{same_literal}
use Rattle.cu_calculus.specs.Match.{same_constructor}
use Rattle.cu_calculus.specs.Value as value
use Rattle.cu_calculus.specs.Value.{Value, Values, count}
use Rattle.cu_values.specs.Approximation.{are_below, is_below, same_head}
use Rattle.cu_values.specs.declared.cell.Cell.{Cell}
use Rattle.cu_values.specs.declared.cell.Cell.TheVariants as cell
use Rattle.cu_values.specs.Cells.{arity_of, suffix, prefix, put, read_all, spell, IsSpelled}
use Rattle.cu_values.proofs.CellLemmas.{after, read_all_one, some_cell, some_value, spelled_one, After}

-- tests of equality

pub same_constructor_itself : (c : ConId) → same_constructor c c ≡ true
same_constructor_itself c = eq-eqb c.0 c.0 refl

pub same_constructor_is : (c d : ConId) → same_constructor c d ≡ true → c ≡ d
same_constructor_is c d e = let make : ℕ → ConId = λ n. record { 0 = n } in ap make (eqb-true c.0 d.0 e)

pub same_function_is : (f g : FunId) → f.0 ≡ g.0 → f ≡ g
same_function_is f g e = let make : ℕ → FunId = λ n. record { 0 = n } in ap make e

pub int_eq_itself : (n : ℤ) → int_eq n n ≡ true
int_eq_itself n = (Decides-int_eq n n).1 refl

pub same_literal_itself : (l : Lit) → same_literal l l ≡ true
same_literal_itself (lit.Int n) = int_eq_itself n
same_literal_itself (lit.Char c) = eq-eqb c c refl

pub same_literal_is : (l m : Lit) → same_literal l m ≡ true → l ≡ m
same_literal_is (lit.Int m) (lit.Int n) e = ap lit.Int ((Decides-int_eq m n).0 e)
same_literal_is (lit.Char m) (lit.Char n) e = ap lit.Char (eqb-true m n e)
same_literal_is _ _ e = cc

pub same_head_itself : (h : Head) → same_head h h ≡ true
same_head_itself (head.Fun f) = eq-eqb f.0 f.0 refl
same_head_itself (head.Con f) = eq-eqb f.0 f.0 refl
same_head_itself (head.Set f) = eq-eqb f.0 f.0 refl

pub same_head_is : (h k : Head) → same_head h k ≡ true → h ≡ k
same_head_is (head.Fun f) (head.Fun g) e = ap head.Fun (same_function_is f g (eqb-true f.0 g.0 e))
same_head_is (head.Con c) (head.Con d) e = ap head.Con (same_constructor_is c d e)
same_head_is (head.Set f) (head.Set g) e = ap head.Set (same_function_is f g (eqb-true f.0 g.0 e))
same_head_is _ _ e = cc

pub both_true : (a b : Bool) → (a && b) ≡ true → (a ≡ true) × (b ≡ true)
both_true true true e = (refl, refl)
both_true true false e = cc
both_true false b e = cc

-- the test decides the relation

mutual
  pub below_from : (u v : Value) → is_below u v ≡ true → Below u v
  below_from value.Bottom v e = below.bottom v
  below_from (value.Variable x) (value.Variable y) e = subst (λ (z : ℕ). Below (value.Variable x) (value.Variable z)) (eqb-true x y e) (below.variable x)
  below_from (value.Literal l) (value.Literal m) e = subst (λ (z : Lit). Below (value.Literal l) (value.Literal z)) (same_literal_is l m e) (below.literal l)
  below_from (value.Constructed c us) (value.Constructed d vs) e =
      let b : (same_constructor c d ≡ true) × (are_below us vs ≡ true) = both_true (same_constructor c d) (are_below us vs) e in
      subst (λ (z : ConId). Below (value.Constructed c us) (value.Constructed z vs)) (same_constructor_is c d b.0)
      (below.constructed c us vs (all_below_from us vs b.1))
  below_from (value.Partial h us) (value.Partial k vs) e =
      let b : (same_head h k ≡ true) × (are_below us vs ≡ true) = both_true (same_head h k) (are_below us vs) e in
      subst (λ (z : Head). Below (value.Partial h us) (value.Partial z vs)) (same_head_is h k b.0)
      (below.partial h us vs (all_below_from us vs b.1))
  below_from _ _ e = let no : ⊥ = cc in absurd no

  pub all_below_from : (us vs : Values) → are_below us vs ≡ true → AllBelow us vs
  all_below_from value.NoValue value.NoValue e = below.none
  all_below_from (value.MoreValues u us) (value.MoreValues v vs) e =
      let b : (is_below u v ≡ true) × (are_below us vs ≡ true) = both_true (is_below u v) (are_below us vs) e in
      below.more u v us vs (below_from u v b.0) (all_below_from us vs b.1)
  all_below_from _ _ e = let no : ⊥ = cc in absurd no

mutual
  pub below_to : (u v : Value) → Below u v → is_below u v ≡ true
  below_to _ _ (below.bottom v) = refl
  below_to _ _ (below.variable x) = eq-eqb x x refl
  below_to _ _ (below.literal l) = same_literal_itself l
  below_to _ _ (below.constructed c us vs p) = rw (same_constructor_itself c, all_below_to us vs p) refl
  below_to _ _ (below.partial h us vs p) = rw (same_head_itself h, all_below_to us vs p) refl

  pub all_below_to : (us vs : Values) → AllBelow us vs → are_below us vs ≡ true
  all_below_to _ _ below.none = refl
  all_below_to _ _ (below.more u v us vs p ps) = rw (below_to u v p, all_below_to us vs ps) refl

-- the walk

pub and_assoc : (a b c : Bool) → ((a && b) && c) ≡ (a && (b && c))
and_assoc true b c = refl
and_assoc false b c = refl

pub and_true : (a : Bool) → (a && true) ≡ a
and_true true = refl
and_true false = refl

pub prefix_suffix_below : (n : ℕ) (us vs : Values) → (are_below (prefix n us) (prefix n vs) && are_below (suffix n us) (suffix n vs)) ≡ are_below us vs
prefix_suffix_below zero us vs = refl
prefix_suffix_below (suc n) value.NoValue value.NoValue = refl
prefix_suffix_below (suc n) value.NoValue (value.MoreValues v vs) = refl
prefix_suffix_below (suc n) (value.MoreValues u us) value.NoValue = refl
prefix_suffix_below (suc n) (value.MoreValues u us) (value.MoreValues v vs) =
    and_assoc (is_below u v) _ _ ∙ ap (λ b. is_below u v && b) (prefix_suffix_below n us vs)

pub below_counts : (us vs : Values) → are_below us vs ≡ true → count us ≡ count vs
below_counts value.NoValue value.NoValue e = refl
below_counts (value.MoreValues u us) (value.MoreValues v vs) e =
    let b : (is_below u v ≡ true) × (are_below us vs ≡ true) = both_true (is_below u v) (are_below us vs) e in
    ap (λ n. n + 1) (below_counts us vs b.1)
below_counts _ _ e = let no : ⊥ = cc in absurd no

pub same_heads : (c : Cell) (us vs : Values) → are_below (put c us) (put c vs) ≡ are_below us vs
same_heads cell.Bottom us vs = refl
same_heads (cell.LVar x) us vs = rw (eq-eqb x x refl) refl
same_heads (cell.Lit l) us vs = rw (same_literal_itself l) refl
same_heads (cell.Con c n) us vs = rw (same_constructor_itself c) (prefix_suffix_below n us vs)
same_heads (cell.Part h n) us vs = rw (same_head_itself h) (prefix_suffix_below n us vs)

-- applications whose heads or numbers of arguments differ
pub differing : (same : Bool) (m n : ℕ) (fs gs : Values) (rest : Bool) → count fs ≡ m → count gs ≡ n → (same ≡ true → m ≡ n → ⊥)
    → ((same && are_below fs gs) && rest) ≡ false
differing false m n fs gs rest e f differ = refl
differing true m n fs gs rest e f differ = by (are_below fs gs) refl
  where
    by : (b : Bool) → are_below fs gs ≡ b → (are_below fs gs && rest) ≡ false
    by true k = absurd (differ refl (sym e ∙ below_counts fs gs k ∙ f))
    by false k = rw k refl

pub other_heads : (c d : Cell) (us vs : Values) → count (prefix (arity_of c) us) ≡ arity_of c → count (prefix (arity_of d) vs) ≡ arity_of d
    → (c ≡ cell.Bottom → ⊥) → (d ≡ c → ⊥) → are_below (put c us) (put d vs) ≡ false
other_heads cell.Bottom d us vs e f known differ = absurd (known refl)
other_heads (cell.LVar x) (cell.LVar y) us vs e f known differ = rw (ne_eqb x y (λ p. differ (ap cell.LVar (sym p)))) refl
other_heads (cell.Lit l) (cell.Lit m) us vs e f known differ = by (same_literal l m) refl
  where
    by : (b : Bool) → same_literal l m ≡ b → (same_literal l m && are_below us vs) ≡ false
    by true k = absurd (differ (ap cell.Lit (sym (same_literal_is l m k))))
    by false k = rw k refl
other_heads (cell.Con c m) (cell.Con d n) us vs e f known differ =
    differing (same_constructor c d) m n (prefix m us) (prefix n vs) _ e f (λ k s. let g : c ≡ d = same_constructor_is c d k in differ cc)
other_heads (cell.Part c m) (cell.Part d n) us vs e f known differ =
    differing (same_head c d) m n (prefix m us) (prefix n vs) _ e f (λ k s. let g : c ≡ d = same_head_is c d k in differ cc)
other_heads _ _ us vs e f known differ = refl

-- cells of the values that are still to be compared, and what the comparison gives
pub record Compared (cs ds : List Cell) (answer : Bool) : Type 0 where
  pub spelled : IsSpelled cs
  pub others : IsSpelled ds
  pub counts : count (read_all cs) ≡ count (read_all ds)
  pub decides : answer ≡ are_below (read_all cs) (read_all ds)

-- a pair of heads that are the same
pub step_same : (c : Cell) (cs ds : List Cell) (answer : Bool) → Compared (c ∷ cs) (c ∷ ds) answer → Compared cs ds answer
step_same c cs ds answer p =
    let b : After c cs = after c cs p.spelled in
    let d : After c ds = after c ds p.others in
    record {
      spelled = b.others;
      others = d.others;
      counts = omega (arith, b.counted, d.counted, p.counts);
      decides = p.decides ∙ same_heads c (read_all cs) (read_all ds);
    }

-- nothing is known on the left
pub skip_below : (us vs : Values) → count us + 1 ≡ count vs → are_below (value.MoreValues value.Bottom us) vs ≡ are_below us (suffix 1 vs)
skip_below us value.NoValue e = absurd (omega (arith, e))
skip_below us (value.MoreValues v vs) e = refl

pub skip_count : (vs : Values) → 1 ≤ count vs → count (suffix 1 vs) + 1 ≡ count vs
skip_count value.NoValue e = absurd (omega (arith, e))
skip_count (value.MoreValues v vs) e = refl

pub step_bottom : (cs ds es : List Cell) (answer : Bool) → Compared (cell.Bottom ∷ cs) ds answer → IsSpelled es
    → read_all es ≡ suffix 1 (read_all ds) → Compared cs es answer
step_bottom cs ds es answer p spelled rest =
    let b : After cell.Bottom cs = after cell.Bottom cs p.spelled in
    let n : count (read_all cs) + 1 ≡ count (read_all ds) = p.counts in
    let k : count (suffix 1 (read_all ds)) + 1 ≡ count (read_all ds) = skip_count (read_all ds) (omega (arith, n)) in
    record {
      spelled = b.others;
      others = spelled;
      counts = rw rest (omega (arith, n, k));
      decides = rw rest (p.decides ∙ skip_below (read_all cs) (read_all ds) n);
    }

-- heads that differ
pub step_other : (c d : Cell) (cs ds : List Cell) (answer : Bool) → Compared (c ∷ cs) (d ∷ ds) answer → (c ≡ cell.Bottom → ⊥) → (d ≡ c → ⊥) → answer ≡ false
step_other c d cs ds answer p known differ =
    let b : After c cs = after c cs p.spelled in
    let e : After d ds = after d ds p.others in
    p.decides ∙ other_heads c d (read_all cs) (read_all ds) b.whole e.whole known differ

-- no cell is left
pub at_end : (ds : List Cell) (answer : Bool) → Compared [] ds answer → answer ≡ true
at_end ds answer p = by (read_all ds) p.counts p.decides
  where
    by : (vs : Values) → 0 ≡ count vs → answer ≡ are_below value.NoValue vs → answer ≡ true
    by value.NoValue n d = d
    by (value.MoreValues v vs) n d = absurd (omega (arith, n))

-- ---- approximation, at places in lists of cells

pub beginning : (u v : Value) (cs ds : List Cell) → cs ≡ spell u → ds ≡ spell v → Compared cs ds (is_below u v)
beginning u v cs ds e f =
    rw (e, f) record {
      spelled = spelled_one u;
      others = spelled_one v;
      counts = rw (read_all_one u, read_all_one v) refl;
      decides = rw (read_all_one u, read_all_one v) (sym (and_true (is_below u v)));
    }

pub there : (cells others : List Cell) (i at : ℕ) (d : Cell) (answer : Bool) → i < length cells
    → Compared (drop i cells) (drop at others) answer → at < length others
there cells others i at d answer within p = some_cell others at (omega (arith, p.counts, some_value cells i d within))

pub same_at : (cells others : List Cell) (i at : ℕ) (d : Cell) (answer : Bool) → i < length cells
    → get_or others at d ≡ get_or cells i d → Compared (drop i cells) (drop at others) answer
    → Compared (drop (i + 1) cells) (drop (at + 1) others) answer
same_at cells others i at d answer within e p =
    let inside : at < length others = there cells others i at d answer within p in
    let c = get_or cells i d in
    let mine : drop i cells ≡ c ∷ drop (suc i) cells = drop-cons cells i d within in
    let theirs : drop at others ≡ c ∷ drop (suc at) others =
    subst (λ (x : Cell). drop at others ≡ x ∷ drop (suc at) others) e (drop-cons others at d inside) in
    let q : Compared (c ∷ drop (suc i) cells) (c ∷ drop (suc at) others) answer =
    subst (λ (x : List Cell). Compared (c ∷ drop (suc i) cells) x answer) theirs
    (subst (λ (x : List Cell). Compared x (drop at others) answer) mine p) in
    rw (add-one i, add-one at) (step_same c (drop (suc i) cells) (drop (suc at) others) answer q)

pub bottom_at : (cells others : List Cell) (i at end : ℕ) (d : Cell) (answer : Bool) → i < length cells
    → get_or cells i d ≡ cell.Bottom → Compared (drop i cells) (drop at others) answer
    → IsSpelled (drop end others) → read_all (drop end others) ≡ suffix 1 (read_all (drop at others))
    → Compared (drop (i + 1) cells) (drop end others) answer
bottom_at cells others i at end d answer within e p spelled rest =
    let mine : drop i cells ≡ cell.Bottom ∷ drop (suc i) cells =
    subst (λ (x : Cell). drop i cells ≡ x ∷ drop (suc i) cells) e (drop-cons cells i d within) in
    let q : Compared (cell.Bottom ∷ drop (suc i) cells) (drop at others) answer =
    subst (λ (x : List Cell). Compared x (drop at others) answer) mine p in
    rw (add-one i) (step_bottom (drop (suc i) cells) (drop at others) (drop end others) answer q spelled rest)

pub other_at : (cells others : List Cell) (i at : ℕ) (d : Cell) (answer : Bool) → i < length cells
    → (get_or cells i d ≡ cell.Bottom → ⊥) → (get_or others at d ≡ get_or cells i d → ⊥)
    → Compared (drop i cells) (drop at others) answer → answer ≡ false
other_at cells others i at d answer within known differ p =
    let inside : at < length others = there cells others i at d answer within p in
    let c = get_or cells i d in
    let k = get_or others at d in
    let q : Compared (c ∷ drop (suc i) cells) (k ∷ drop (suc at) others) answer =
    subst (λ (x : List Cell). Compared (c ∷ drop (suc i) cells) x answer) (drop-cons others at d inside)
    (subst (λ (x : List Cell). Compared x (drop at others) answer) (drop-cons cells i d within) p) in
    step_other c k (drop (suc i) cells) (drop (suc at) others) answer q known differ

pub end_at : (cells others : List Cell) (i at : ℕ) (answer : Bool) → length cells ≤ i → Compared (drop i cells) (drop at others) answer → answer ≡ true
end_at cells others i at answer past p =
    at_end (drop at others) answer (subst (λ (x : List Cell). Compared x (drop at others) answer) (drop_of_length-le cells past) p)

-- what the test says of the relation
pub related : (u v : Value) (r : Bool) → r ≡ is_below u v → (IsTrue r → Below u v) × (Below u v → IsTrue r)
related u v r e = (λ h. below_from u v (sym e ∙ h), λ p. e ∙ below_to u v p)
