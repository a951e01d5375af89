-- Joining the classes of a pair: the three ways out.
use Rattle.std.proofs.Common.{◌≡◌, ◌≢◌, ℕ, zero, suc, ◌+◌, ◌<◌, ◌≤◌, ◌⊎◌, inl, inr, Bool, true, false, cond, min, List, [], ◌∷◌, ◌++◌, Option, None, Some, drop, length, map, nat_eq, option_map, get_or, slice_get, refl, sym, ap, ◌∙◌, subst, arith, length-append}
use Rattle.std.proofs.lemmas.Bool.{cases_eq, eq-eqb, eqb-true, ne_eqb}
use Rattle.std.proofs.lemmas.List.{get_or_append_left, get_or_push}
use Rattle.std.proofs.lemmas.Option.{slice_get-map, slice_get_read, slice_get_within}
use Rattle.cu_types.proofs.ClosingLemmas.{closing_dropped, closing_joined, closing_rooted, closing_turned, each_append, each_suffix, each_paired, meet_turned, turned}
use Rattle.cu_types.proofs.Debts.{owed_less, owed_same}
use Rattle.cu_types.proofs.TableLemmas.{mapped_length}
use Rattle.cu_types.specs.Inside.Classes.{Represents, is_root, joined}
use Rattle.cu_types.specs.Inside.Closing.{Each, IsClosing, IsOriented, IsWithin, Joined, Meet, PairIsEqual, Unites, debt, is_variable, owed, paired, weight}
use Rattle.cu_types.specs.Table as shape
use Rattle.cu_types.specs.Table.{IsTable, MayStand, Shape, places, shape_of, trees}
use Rattle.cu_types.specs.declared.node.Node.{Node}
use Rattle.cu_types.specs.declared.pair.Pair.{Pair}

append_nil : (xs : List Pair) → xs ++ [] ≡ xs
append_nil [] = refl
append_nil (x ∷ xs) = ap (λ (ys : List Pair). x ∷ ys) (append_nil xs)

paired_none : (ps : List ℕ) → paired ps [] ≡ []
paired_none [] = refl
paired_none (p ∷ ps) = refl

paired_done : (ps qs : List ℕ) (k : ℕ) → min (length ps) (length qs) ≤ k → paired (drop k ps) (drop k qs) ≡ []
paired_done [] qs zero done = refl
paired_done [] qs (suc k) done = refl
paired_done (p ∷ ps) [] zero done = refl
paired_done (p ∷ ps) [] (suc k) done = paired_none (drop k ps)
paired_done (p ∷ ps) (q ∷ qs) zero done = absurd (omega arith)
paired_done (p ∷ ps) (q ∷ qs) (suc k) done = paired_done ps qs k (omega arith)

-- all pairs are written
pub paired_all : (ps qs : List ℕ) (k : ℕ) (xs whole : List Pair) → min (length ps) (length qs) ≤ k
    → xs ++ paired (drop k ps) (drop k qs) ≡ whole → xs ≡ whole
paired_all ps qs k xs whole done is =
    sym (append_nil xs) ∙ ap (λ (ys : List Pair). xs ++ ys) (sym (paired_done ps qs k done)) ∙ is

-- the shape of a node that was read
pub shape_read : (nodes : List Node) (i : ℕ) (x : Node) → i < length nodes → x ≡ get_or nodes i x
    → slice_get (map shape_of nodes) i ≡ Some (shape_of x)
shape_read nodes i x within is =
    slice_get-map shape_of nodes i ∙ ap (option_map shape_of) (slice_get_read nodes (length nodes) i x refl within is)

-- the representatives of a pair
pub record Found (parents then : List ℕ) (p q : Pair) : Type 0 where
  pub roots : (k : ℕ) → is_root then k ≡ is_root parents k
  pub class : (class : ℕ → ℕ) → Represents parents class
      → Represents then class × (q.left ≡ class p.left) × (q.right ≡ class p.right)

pub within_ss : (nodes : List Node) (p : Pair) → IsWithin (length nodes) p → IsWithin (length (map shape_of nodes)) p
within_ss nodes p within = subst (λ (n : ℕ). IsWithin n p) (sym (mapped_length shape_of nodes)) within

pub each_within_ss : (nodes : List Node) (ps : List Pair) → Each (IsWithin (length nodes)) ps
    → Each (IsWithin (length (map shape_of nodes))) ps
each_within_ss nodes ps within = subst (λ (n : ℕ). Each (IsWithin n) ps) (sym (mapped_length shape_of nodes)) within

found_debt : (ss : List Shape) (before : List Pair) (parents then : List ℕ) (p q : Pair) → Found parents then p q
    → debt ss before then ≤ debt ss before parents
found_debt ss before parents then p q found =
    let same : owed (is_root then) ss ≡ owed (is_root parents) ss = owed_same ss (is_root parents) (is_root then) found.roots in
    omega arith

pub joined_same : (ss : List Shape) (p q : Pair) (before : List Pair) (parents then : List ℕ) → IsWithin (length ss) p
    → Each (IsWithin (length ss)) before → Found parents then p q → q.left ≡ q.right → Joined ss p before parents before then None
joined_same ss p q before parents then within inside found same = record {
  within = inside;
  nearer = found_debt ss before parents then p q found;
  closing = λ equations given class c.
      let here = found.class class c.represents in (
        class,
        closing_dropped equations ss given before q then class same
            (closing_rooted equations ss given before p q parents then class here.0 within here.1 here.2 c),
      );
}

pub joined_apart : (ss : List Shape) (p q : Pair) (before : List Pair) (parents then : List ℕ) → IsWithin (length ss) p
    → IsWithin (length ss) q → Each (IsWithin (length ss)) before → Found parents then p q
    → (s t : Shape) → slice_get ss q.left ≡ Some s → slice_get ss q.right ≡ Some t → (Meet s t → ⊥)
    → Joined ss p before parents before then (Some q)
joined_apart ss p q before parents then within q_within inside found s t left right unlike = record {
  within = inside;
  nearer = found_debt ss before parents then p q found;
  closing = λ equations given class c.
      let here = found.class class c.represents in
      let rooted : IsClosing equations ss given (before ++ q ∷ []) then class =
      closing_rooted equations ss given before p q parents then class here.0 within here.1 here.2 c in
      record {
        within = q_within;
        equal = (each_suffix (PairIsEqual equations (trees ss)) before (q ∷ []) rooted.pending_sound).0;
        apart = λ u v is it meet.
            let e : Some s ≡ Some u = sym left ∙ is in
            let f : Some t ≡ Some v = sym right ∙ it in
            let su : u ≡ s = cc in
            let tv : v ≡ t = cc in
            unlike (subst (λ (x : Shape). Meet x t) su (subst (Meet u) tv meet));
      };
}

-- an argument stands within the table
pub place_within : (ss : List Shape) (i : ℕ) (s : Shape) (k a : ℕ) → IsTable ss → slice_get ss i ≡ Some s
    → slice_get (places s) k ≡ Some a → a < length ss
place_within ss i (shape.Variable x) k a table is it = let no : ⊥ = cc in absurd no
place_within ss i (shape.Applied h ps) k a table is it =
    let below : a < i = (table.stand i (shape.Applied h ps) is).1 a k it in
    let within : i < length ss = slice_get_within ss i (shape.Applied h ps) is in
    omega arith

paired_length : (ps qs : List ℕ) → length (paired ps qs) ≤ length ps
paired_length [] qs = omega arith
paired_length (p ∷ ps) [] = omega arith
paired_length (p ∷ ps) (q ∷ qs) = let rest = paired_length ps qs in omega arith

root_kept : (parents then : List ℕ) (child k : ℕ) → is_root then k ≡ cond (nat_eq k child) false (is_root parents k) → k ≢ child
    → is_root then k ≡ is_root parents k
root_kept parents then child k is other =
    is ∙ ap (λ (b : Bool). cond b false (is_root parents k)) (ne_eqb k child other)

root_gone : (parents then : List ℕ) (child : ℕ) → is_root then child ≡ cond (nat_eq child child) false (is_root parents child)
    → is_root then child ≡ false
root_gone parents then child is = is ∙ ap (λ (b : Bool). cond b false (is_root parents child)) (eq-eqb child child refl)

-- a class was joined to another
pub joined_united : (ss : List Shape) (p q : Pair) (before after : List Pair) (parents middle then : List ℕ) → IsTable ss
    → length middle ≡ length ss → IsWithin (length ss) p → Each (IsWithin (length ss)) before → Found parents middle p q
    → (u : Pair) (s t : Shape) → slice_get ss u.left ≡ Some s → slice_get ss u.right ≡ Some t → Meet s t
    → (is_variable t ≡ true → is_variable s ≡ true) → u.left ≢ u.right → is_root middle u.left ≡ true → is_root middle u.right ≡ true
    → Unites s t u before middle after then → ((u ≡ q) ⊎ (u ≡ turned q)) → Joined ss p before parents after then None
joined_united ss p q before after parents middle then table sized within inside found u s t left right meet kinds apart left_root right_root unites way =
    let left_in : u.left < length ss = slice_get_within ss u.left s left in
    let right_in : u.right < length ss = slice_get_within ss u.right t right in
    record {
      within = subst (Each (IsWithin (length ss))) (sym unites.pushed)
          (each_append (IsWithin (length ss)) before (paired (places s) (places t)) inside
          (each_paired (IsWithin (length ss)) (places s) (places t)
          (λ k a b e f. (place_within ss u.left s k a table left e, place_within ss u.right t k b table right f))));
      nearer =
          let was : owed (is_root middle) ss ≡ owed (is_root parents) ss = owed_same ss (is_root parents) (is_root middle) found.roots in
          let less : owed (is_root then) ss + weight s ≡ owed (is_root middle) ss =
          owed_less ss u.left s (is_root middle) (is_root then) left left_root (root_gone middle then u.left (unites.roots u.left))
          (λ k n. root_kept middle then u.left k (unites.roots k) n) in
          let short : length (paired (places s) (places t)) ≤ length (places s) = paired_length (places s) (places t) in
          let long : length (before ++ paired (places s) (places t)) ≡ length before + length (paired (places s) (places t)) =
          length-append before (paired (places s) (places t)) in
          let grown : length after ≡ length before + length (paired (places s) (places t)) = ap length unites.pushed ∙ long in
          omega arith;
      closing = λ equations given class c.
          let here = found.class class c.represents in
          let rooted : IsClosing equations ss given (before ++ q ∷ []) middle class =
          closing_rooted equations ss given before p q parents middle class here.0 within here.1 here.2 c in
          let oriented : IsClosing equations ss given (before ++ u ∷ []) middle class = elim way [
            | inl e ↦ subst (λ (x : Pair). IsClosing equations ss given (before ++ x ∷ []) middle class) (sym e) rooted
            | inr e ↦ subst (λ (x : Pair). IsClosing equations ss given (before ++ x ∷ []) middle class) (sym e)
                (closing_turned equations ss given before q middle class rooted)
          ] in
          let left_own : class u.left ≡ u.left =
          here.0.root u.left (omega arith) (eqb-true (get_or middle u.left 0) u.left left_root) in
          let right_own : class u.right ≡ u.right =
          here.0.root u.right (omega arith) (eqb-true (get_or middle u.right 0) u.right right_root) in (
            joined u.left u.right class,
            subst (λ (xs : List Pair). IsClosing equations ss given xs then (joined u.left u.right class)) (sym unites.pushed)
                (closing_joined equations ss given before u.left u.right s t middle then class table apart left_own right_own
                (unites.class class here.0) left right meet kinds oriented),
          );
    }

pub oriented_within : (n : ℕ) (q u : Pair) (s t : Shape) → IsOriented q s t u → IsWithin n q → IsWithin n u
oriented_within n q u s t (inl way) within = subst (IsWithin n) (sym way.0) within
oriented_within n q u s t (inr way) within = subst (IsWithin n) (sym way.0) (within.1, within.0)

same_shape : (ss : List Shape) (i j : ℕ) (s t : Shape) → i ≡ j → slice_get ss i ≡ Some s → slice_get ss j ≡ Some t → t ≡ s
same_shape ss i j s t e is it =
    let f : Some t ≡ Some s = sym it ∙ ap (slice_get ss) (sym e) ∙ is in cc

pub joined_oriented : (ss : List Shape) (p q u : Pair) (before after : List Pair) (parents middle then : List ℕ) → IsTable ss
    → length middle ≡ length ss → IsWithin (length ss) p → Each (IsWithin (length ss)) before → Found parents middle p q
    → q.left ≢ q.right → is_root middle q.left ≡ true → is_root middle q.right ≡ true
    → (v w s t : Shape) → slice_get ss q.left ≡ Some v → slice_get ss q.right ≡ Some w → Meet v w → IsOriented q v w u
    → slice_get ss u.left ≡ Some s → slice_get ss u.right ≡ Some t → Unites s t u before middle after then
    → Joined ss p before parents after then None
joined_oriented ss p q u before after parents middle then table sized within inside found apart left_root right_root v w s t at_v at_w meet (inl way) at_s at_t unites =
    let eu : u.left ≡ q.left = ap (λ (x : Pair). x.left) way.0 in
    let ev : u.right ≡ q.right = ap (λ (x : Pair). x.right) way.0 in
    let vs : v ≡ s = same_shape ss u.left q.left s v eu at_s at_v in
    let wt : w ≡ t = same_shape ss u.right q.right t w ev at_t at_w in
    joined_united ss p q before after parents middle then table sized within inside found u s t at_s at_t
    (subst (λ (x : Shape). Meet x t) vs (subst (Meet v) wt meet))
    (λ e. sym (ap is_variable vs) ∙ way.1 (ap is_variable wt ∙ e))
    (λ e. apart (sym eu ∙ e ∙ ev))
    (subst (λ (k : ℕ). is_root middle k ≡ true) (sym eu) left_root)
    (subst (λ (k : ℕ). is_root middle k ≡ true) (sym ev) right_root) unites (inl way.0)
joined_oriented ss p q u before after parents middle then table sized within inside found apart left_root right_root v w s t at_v at_w meet (inr way) at_s at_t unites =
    let eu : u.left ≡ q.right = ap (λ (x : Pair). x.left) way.0 in
    let ev : u.right ≡ q.left = ap (λ (x : Pair). x.right) way.0 in
    let ws : w ≡ s = same_shape ss u.left q.right s w eu at_s at_w in
    let vt : v ≡ t = same_shape ss u.right q.left t v ev at_t at_v in
    joined_united ss p q before after parents middle then table sized within inside found u s t at_s at_t
    (subst (λ (x : Shape). Meet x t) ws (subst (Meet w) vt (meet_turned v w meet)))
    (λ e. sym (ap is_variable ws) ∙ way.1 (ap is_variable vt ∙ e))
    (λ e. apart (sym (sym eu ∙ e ∙ ev)))
    (subst (λ (k : ℕ). is_root middle k ≡ true) (sym eu) right_root)
    (subst (λ (k : ℕ). is_root middle k ≡ true) (sym ev) left_root) unites (inr way.0)

pub none_of : (o : Option Pair) → ((p : Pair) → o ≡ Some p → ⊥) → o ≡ None
none_of None never = refl
none_of (Some p) never = absurd (never p refl)

pub no_items : (xs : List Pair) → length xs ≡ 0 → xs ≡ []
no_items [] none = refl
no_items (x ∷ xs) none = absurd (omega arith)

read_twice : (nodes : List Node) (i : ℕ) (x y : Node) → i < length nodes → x ≡ get_or nodes i x → y ≡ get_or nodes i y
    → shape_of x ≡ shape_of y
read_twice nodes i x y within is it =
    let e : Some (shape_of x) ≡ Some (shape_of y) = sym (shape_read nodes i x within is) ∙ shape_read nodes i y within it in cc

-- shapes that meet, read a second time
pub meet_again : (nodes : List Node) (i j : ℕ) (a b c d : Node) → i < length nodes → j < length nodes
    → a ≡ get_or nodes i a → b ≡ get_or nodes j b → c ≡ get_or nodes i c → d ≡ get_or nodes j d
    → Meet (shape_of a) (shape_of b) → Meet (shape_of c) (shape_of d)
meet_again nodes i j a b c d i_in j_in is_a is_b is_c is_d meet =
    subst (λ (x : Shape). Meet x (shape_of d)) (read_twice nodes i a c i_in is_a is_c)
    (subst (Meet (shape_of a)) (read_twice nodes j b d j_in is_b is_d) meet)

pub each_within_converse : (nodes : List Node) (ps : List Pair) → Each (IsWithin (length (map shape_of nodes))) ps
    → Each (IsWithin (length nodes)) ps
each_within_converse nodes ps within = subst (λ (n : ℕ). Each (IsWithin n) ps) (mapped_length shape_of nodes) within

-- one more representative
pub class_more : (xs ys : List ℕ) (n root : ℕ) (class : ℕ → ℕ) → length xs ≡ n → ((k : ℕ) → k < n → get_or xs k 0 ≡ class k)
    → root ≡ class n → ys ≡ xs ++ root ∷ [] → (k : ℕ) → k < n + 1 → get_or ys k 0 ≡ class k
class_more xs ys n root class sized before is pushed k within =
    ap (λ (zs : List ℕ). get_or zs k 0) pushed ∙
    elim (cases_eq k n) [
      | inl e ↦ ap (λ (j : ℕ). get_or (xs ++ root ∷ []) j 0) e ∙ get_or_push xs root 0 n sized ∙ is ∙ ap class (sym e)
      | inr differs ↦
          let lt : k < n = omega arith in
          get_or_append_left xs (root ∷ []) 0 k (omega arith) ∙ before k lt
    ]

pub shape_read_in : (nodes : List Node) (i : ℕ) (x : Node) → i < length (map shape_of nodes) → x ≡ get_or nodes i x
    → slice_get (map shape_of nodes) i ≡ Some (shape_of x)
shape_read_in nodes i x within is =
    let sized : length (map shape_of nodes) ≡ length nodes = mapped_length shape_of nodes in
    shape_read nodes i x (omega arith) is
