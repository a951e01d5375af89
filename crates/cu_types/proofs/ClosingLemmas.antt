-- Joining classes until they agree with pairs and shapes.
use Rattle.std.proofs.Common.{◌≡◌, ◌≢◌, ℕ, suc, ◌<◌, true, false, List, [], ◌∷◌, ◌++◌, Some, length, map, option_map, get_or, slice_get, refl, sym, ap, ◌∙◌, subst, arith}
use Rattle.std.proofs.lemmas.Option.{slice_get-map, slice_get_within}
use Rattle.cu_kernel.specs.TypeExpr.{TypeExpr}
use Rattle.cu_types.proofs.ForestLemmas.{at_joined, joined_there}
use Rattle.cu_types.proofs.TableLemmas.{built_arguments, built_head, mapped_length, trees_fit}
use Rattle.cu_types.specs.Inside.Classes.{Represents, is_root, joined}
use Rattle.cu_types.specs.Inside.Closing.{Agrees, AreEqual, Each, IsAlike, IsClosed, IsClosing, IsWithin, Joins, Meet, PairIsEqual, is_variable, paired}
use Rattle.cu_types.specs.Table as shape
use Rattle.cu_types.specs.Table.{IsFull, IsTable, MayStand, Shape, at, built, places, tree_over, trees}
use Rattle.cu_types.specs.Types.{HaveOneHead, arguments, head_of}
use Rattle.cu_types.specs.Unification as made
use Rattle.cu_types.specs.Unification.{Equation, MadeEqual}
use Rattle.cu_types.specs.declared.node.TypeHead.{TypeHead}
use Rattle.cu_types.specs.declared.pair.Pair.{Pair}

pub each_append : (P : Pair → Type 0) (xs ys : List Pair) → Each P xs → Each P ys → Each P (xs ++ ys)
each_append P [] ys left right = right
each_append P (x ∷ xs) ys left right = (left.0, each_append P xs ys left.1 right)

pub each_prefix : (P : Pair → Type 0) (xs ys : List Pair) → Each P (xs ++ ys) → Each P xs
each_prefix P [] ys all = tt
each_prefix P (x ∷ xs) ys all = (all.0, each_prefix P xs ys all.1)

pub each_suffix : (P : Pair → Type 0) (xs ys : List Pair) → Each P (xs ++ ys) → Each P ys
each_suffix P [] ys all = all
each_suffix P (x ∷ xs) ys all = each_suffix P xs ys all.1

pub each_paired : (P : Pair → Type 0) (ps qs : List ℕ)
    → ((k a b : ℕ) → slice_get ps k ≡ Some a → slice_get qs k ≡ Some b → P (record { left = a; right = b }))
    → Each P (paired ps qs)
each_paired P [] qs all = tt
each_paired P (p ∷ ps) [] all = tt
each_paired P (p ∷ ps) (q ∷ qs) all = (all 0 p q refl refl, each_paired P ps qs (λ k a b e f. all (suc k) a b e f))

-- pairs of arguments that are joined
joined_maps : (f : ℕ → ℕ) (ps qs : List ℕ) → length ps ≡ length qs → Each (Joins f) (paired ps qs) → map f ps ≡ map f qs
joined_maps f [] [] same all = refl
joined_maps f [] (q ∷ qs) same all = absurd (omega arith)
joined_maps f (p ∷ ps) [] same all = absurd (omega arith)
joined_maps f (p ∷ ps) (q ∷ qs) same all =
    let first : f p ≡ f q = all.0 in
    let rest : map f ps ≡ map f qs = joined_maps f ps qs (omega arith) all.1 in
    cc

pub alike_self : (f : ℕ → ℕ) (s : Shape) → IsAlike f s s
alike_self f (shape.Variable x) = tt
alike_self f (shape.Applied h ps) = (refl, refl)

alike_through : (f : ℕ → ℕ) (u s t : Shape) → IsAlike f u s → IsAlike f s t → IsAlike f u t
alike_through f (shape.Variable x) s t first second = tt
alike_through f (shape.Applied h ps) (shape.Variable y) t first second = absurd first
alike_through f (shape.Applied h ps) (shape.Applied g qs) (shape.Variable z) first second = absurd second
alike_through f (shape.Applied h ps) (shape.Applied g qs) (shape.Applied i rs) first second =
    (first.0 ∙ second.0, first.1 ∙ second.1)

-- shapes that meet, whose arguments are joined
alike_met : (f : ℕ → ℕ) (s t : Shape) → Meet s t → (is_variable t ≡ true → is_variable s ≡ true)
    → Each (Joins f) (paired (places s) (places t)) → IsAlike f s t
alike_met f (shape.Variable x) t meet kinds all = tt
alike_met f (shape.Applied h ps) (shape.Variable y) meet kinds all = let no : false ≡ true = kinds refl in let none : ⊥ = cc in none
alike_met f (shape.Applied h ps) (shape.Applied g qs) meet kinds all =
    (sym meet.0, joined_maps f ps qs (sym meet.1) all)

pub meet_turned : (s t : Shape) → Meet s t → Meet t s
meet_turned (shape.Variable x) (shape.Variable y) meet = tt
meet_turned (shape.Variable x) (shape.Applied g qs) meet = tt
meet_turned (shape.Applied h ps) (shape.Variable y) meet = tt
meet_turned (shape.Applied h ps) (shape.Applied g qs) meet = (sym meet.0, sym meet.1)

-- the argument at a place of a list of places
pub there : (ts : List TypeExpr) (ps : List ℕ) (k a : ℕ) → slice_get ps k ≡ Some a → slice_get (map (at ts) ps) k ≡ Some (at ts a)
there ts ps k a is = slice_get-map (at ts) ps k ∙ ap (option_map (at ts)) is

-- types of shapes with one head
pub one_head : (ss : List Shape) (i j : ℕ) (h g : TypeHead) (ps qs : List ℕ) → IsTable ss
    → slice_get ss i ≡ Some (shape.Applied h ps) → slice_get ss j ≡ Some (shape.Applied g qs) → h ≡ g → length ps ≡ length qs
    → HaveOneHead (at (trees ss) i) (at (trees ss) j)
one_head ss i j h g ps qs table p q heads counts =
    let full_left : IsFull h (length ps) = (table.stand i (shape.Applied h ps) p).0 in
    let full_right : IsFull g (length qs) = (table.stand j (shape.Applied g qs) q).0 in
    let left : at (trees ss) i ≡ built h (map (at (trees ss)) ps) = trees_fit ss i (shape.Applied h ps) table p in
    let right : at (trees ss) j ≡ built g (map (at (trees ss)) qs) = trees_fit ss j (shape.Applied g qs) table q in
    let left_full : IsFull h (length (map (at (trees ss)) ps)) = subst (IsFull h) (sym (mapped_length (at (trees ss)) ps)) full_left in
    let right_full : IsFull g (length (map (at (trees ss)) qs)) = subst (IsFull g) (sym (mapped_length (at (trees ss)) qs)) full_right in
    record {
      head = h;
      left = ap head_of left ∙ built_head h (map (at (trees ss)) ps) left_full;
      right = ap head_of right ∙ built_head g (map (at (trees ss)) qs) right_full ∙ ap Some (sym heads);
      count = ap (λ (t : TypeExpr). length (arguments t)) left ∙ ap length (built_arguments h (map (at (trees ss)) ps) left_full)
          ∙ mapped_length (at (trees ss)) ps ∙ counts ∙ sym (mapped_length (at (trees ss)) qs)
          ∙ sym (ap length (built_arguments g (map (at (trees ss)) qs) right_full))
          ∙ sym (ap (λ (t : TypeExpr). length (arguments t)) right);
    }

-- the arguments of the type at a place
pub arguments_at : (ss : List Shape) (i : ℕ) (h : TypeHead) (ps : List ℕ) → IsTable ss → slice_get ss i ≡ Some (shape.Applied h ps)
    → arguments (at (trees ss) i) ≡ map (at (trees ss)) ps
arguments_at ss i h ps table p =
    ap arguments (trees_fit ss i (shape.Applied h ps) table p)
    ∙ built_arguments h (map (at (trees ss)) ps)
    (subst (IsFull h) (sym (mapped_length (at (trees ss)) ps)) (table.stand i (shape.Applied h ps) p).0)

-- the arguments of types that are made equal, and whose shapes meet
pub arguments_equal : (equations : List Equation) (ss : List Shape) (i j : ℕ) (s t : Shape) → IsTable ss
    → slice_get ss i ≡ Some s → slice_get ss j ≡ Some t → Meet s t → AreEqual equations (trees ss) i j
    → Each (PairIsEqual equations (trees ss)) (paired (places s) (places t))
arguments_equal equations ss i j (shape.Variable x) t table p q meet equal = tt
arguments_equal equations ss i j (shape.Applied h []) (shape.Variable y) table p q meet equal = tt
arguments_equal equations ss i j (shape.Applied h (a ∷ ps)) (shape.Variable y) table p q meet equal = tt
arguments_equal equations ss i j (shape.Applied h ps) (shape.Applied g qs) table p q meet equal =
    each_paired (PairIsEqual equations (trees ss)) ps qs
    (λ k a b e f. made.argument (at (trees ss) i) (at (trees ss) j) (at (trees ss) a) (at (trees ss) b) k
    (one_head ss i j h g ps qs table p q (sym meet.0) (sym meet.1)) equal
    (ap (λ (xs : List TypeExpr). slice_get xs k) (arguments_at ss i h ps table p) ∙ there (trees ss) ps k a e)
    (ap (λ (xs : List TypeExpr). slice_get xs k) (arguments_at ss j g qs table q) ∙ there (trees ss) qs k b f))

-- all pairs are pending, and each place is alone
pub closing_starts : (equations : List Equation) (ss : List Shape) (given : List Pair) (parents : List ℕ)
    → Represents parents (λ k. k) → Each (PairIsEqual equations (trees ss)) given
    → IsClosing equations ss given given parents (λ k. k)
closing_starts equations ss given parents alone sound = record {
  represents = alone;
  sound = λ k lt. made.reflexive (at (trees ss) k);
  pending_sound = sound;
  complete = λ f respects joins. record {
    joins = joins;
    alike = λ k s t is it.
        let e : Some s ≡ Some t = sym is ∙ it in
        let same : s ≡ t = cc in
        subst (IsAlike f s) same (alike_self f s);
  };
}

-- a pair is that of its representatives
pub closing_rooted : (equations : List Equation) (ss : List Shape) (given prefix : List Pair) (p q : Pair) (before after : List ℕ)
    (class : ℕ → ℕ) → Represents after class → IsWithin (length ss) p → q.left ≡ class p.left → q.right ≡ class p.right
    → IsClosing equations ss given (prefix ++ p ∷ []) before class → IsClosing equations ss given (prefix ++ q ∷ []) after class
closing_rooted equations ss given prefix p q before after class represents within left right c =
    let equal : PairIsEqual equations (trees ss) p =
    (each_suffix (PairIsEqual equations (trees ss)) prefix (p ∷ []) c.pending_sound).0 in
    let up : AreEqual equations (trees ss) p.left (class p.left) = c.sound p.left within.0 in
    let down : AreEqual equations (trees ss) p.right (class p.right) = c.sound p.right within.1 in
    let between : AreEqual equations (trees ss) (class p.left) (class p.right) =
    made.transitive (at (trees ss) (class p.left)) (at (trees ss) p.left) (at (trees ss) (class p.right))
    (made.symmetric (at (trees ss) p.left) (at (trees ss) (class p.left)) up)
    (made.transitive (at (trees ss) p.left) (at (trees ss) p.right) (at (trees ss) (class p.right)) equal down) in
    record {
      represents = represents;
      sound = c.sound;
      pending_sound = each_append (PairIsEqual equations (trees ss)) prefix (q ∷ [])
          (each_prefix (PairIsEqual equations (trees ss)) prefix (p ∷ []) c.pending_sound) (
            subst (λ (x : ℕ). AreEqual equations (trees ss) x q.right) (sym left)
                (subst (λ (x : ℕ). AreEqual equations (trees ss) (class p.left) x) (sym right) between),
            tt,
          );
      complete = λ f respects joins. c.complete f respects
          (each_append (Joins f) prefix (p ∷ []) (each_prefix (Joins f) prefix (q ∷ []) joins)
          (let e : f q.left ≡ f q.right = (each_suffix (Joins f) prefix (q ∷ []) joins).0 in
          (sym (respects p.left within.0) ∙ ap f (sym left) ∙ e ∙ ap f right ∙ respects p.right within.1, tt)));
    }

-- a pair of one place says nothing
pub closing_dropped : (equations : List Equation) (ss : List Shape) (given prefix : List Pair) (q : Pair) (parents : List ℕ)
    (class : ℕ → ℕ) → q.left ≡ q.right → IsClosing equations ss given (prefix ++ q ∷ []) parents class
    → IsClosing equations ss given prefix parents class
closing_dropped equations ss given prefix q parents class same c = record {
  represents = c.represents;
  sound = c.sound;
  pending_sound = each_prefix (PairIsEqual equations (trees ss)) prefix (q ∷ []) c.pending_sound;
  complete = λ f respects joins. c.complete f respects (each_append (Joins f) prefix (q ∷ []) joins (ap f same, tt));
}

abbrev pub turned : Pair → Pair
turned p = record { left = p.right; right = p.left }

pub closing_turned : (equations : List Equation) (ss : List Shape) (given prefix : List Pair) (q : Pair) (parents : List ℕ)
    (class : ℕ → ℕ) → IsClosing equations ss given (prefix ++ q ∷ []) parents class
    → IsClosing equations ss given (prefix ++ turned q ∷ []) parents class
closing_turned equations ss given prefix q parents class c = record {
  represents = c.represents;
  sound = c.sound;
  pending_sound = each_append (PairIsEqual equations (trees ss)) prefix (turned q ∷ [])
      (each_prefix (PairIsEqual equations (trees ss)) prefix (q ∷ []) c.pending_sound) (
        made.symmetric (at (trees ss) q.left) (at (trees ss) q.right)
            (each_suffix (PairIsEqual equations (trees ss)) prefix (q ∷ []) c.pending_sound).0,
        tt,
      );
  complete = λ f respects joins. c.complete f respects
      (each_append (Joins f) prefix (q ∷ []) (each_prefix (Joins f) prefix (turned q ∷ []) joins)
      (let e : f q.right ≡ f q.left = (each_suffix (Joins f) prefix (turned q ∷ []) joins).0 in (sym e, tt)));
}

-- a function that agrees with the joined classes and the arguments agrees with the classes before, and with both shapes
closing_agrees : (ss : List Shape) (given prefix : List Pair) (child root : ℕ) (s t : Shape) (class f : ℕ → ℕ)
    → slice_get ss child ≡ Some s → slice_get ss root ≡ Some t → Meet s t → (is_variable t ≡ true → is_variable s ≡ true)
    → class root ≡ root → class child ≡ child → child ≢ root → child < length ss → root < length ss
    → ((g : ℕ → ℕ) → ((k : ℕ) → k < length ss → g (class k) ≡ g k)
    → Each (Joins g) (prefix ++ (record { left = child; right = root }) ∷ []) → Agrees ss given class g)
    → ((k : ℕ) → k < length ss → f (joined child root class k) ≡ f k)
    → Each (Joins f) (prefix ++ paired (places s) (places t)) → Agrees ss given (joined child root class) f
closing_agrees ss given prefix child root s t class f is_child is_root meet kinds own child_own apart child_in root_in complete respects joins =
    let joined_child : joined child root class child ≡ root = joined_there child root child class child_own in
    let same : f child ≡ f root = sym (respects child child_in) ∙ ap f joined_child in
    let classes : (k : ℕ) → k < length ss → f (class k) ≡ f k = λ k lt.
    at_joined child root k class (λ x. f x ≡ f k → f (class k) ≡ f k)
    (λ e it. ap f e ∙ same ∙ it) (λ n it. it) (respects k lt) in
    let before : Agrees ss given class f =
    complete f classes (each_append (Joins f) prefix ((record { left = child; right = root }) ∷ [])
    (each_prefix (Joins f) prefix (paired (places s) (places t)) joins) (same, tt)) in
    let met : IsAlike f s t = alike_met f s t meet kinds (each_suffix (Joins f) prefix (paired (places s) (places t)) joins) in
    record {
      joins = before.joins;
      alike = λ k u v is it.
          at_joined child root k class (λ x. slice_get ss x ≡ Some v → IsAlike f u v)
          (λ e there.
          let at_child : slice_get ss (class k) ≡ Some s = ap (slice_get ss) e ∙ is_child in
          let same_root : Some t ≡ Some v = sym is_root ∙ there in
          let e2 : t ≡ v = cc in
          subst (IsAlike f u) e2 (alike_through f u s t (before.alike k u s is at_child) met))
          (λ n there. before.alike k u v is there) it;
    }

-- the class of one representative is joined to that of another, and their arguments are pending
pub closing_joined : (equations : List Equation) (ss : List Shape) (given prefix : List Pair) (child root : ℕ) (s t : Shape)
    (parents then : List ℕ) (class : ℕ → ℕ) → IsTable ss → child ≢ root → class child ≡ child → class root ≡ root
    → Represents then (joined child root class) → slice_get ss child ≡ Some s → slice_get ss root ≡ Some t → Meet s t
    → (is_variable t ≡ true → is_variable s ≡ true)
    → IsClosing equations ss given (prefix ++ (record { left = child; right = root }) ∷ []) parents class
    → IsClosing equations ss given (prefix ++ paired (places s) (places t)) then (joined child root class)
closing_joined equations ss given prefix child root s t parents then class table apart child_own own represents is_child is_root meet kinds c =
    let equal : AreEqual equations (trees ss) child root =
    (each_suffix (PairIsEqual equations (trees ss)) prefix ((record { left = child; right = root }) ∷ []) c.pending_sound).0 in
    record {
      represents = represents;
      sound = λ k lt. at_joined child root k class (AreEqual equations (trees ss) k)
          (λ e. made.transitive (at (trees ss) k) (at (trees ss) child) (at (trees ss) root)
          (subst (AreEqual equations (trees ss) k) e (c.sound k lt)) equal)
          (λ n. c.sound k lt);
      pending_sound = each_append (PairIsEqual equations (trees ss)) prefix (paired (places s) (places t))
          (each_prefix (PairIsEqual equations (trees ss)) prefix ((record { left = child; right = root }) ∷ []) c.pending_sound)
          (arguments_equal equations ss child root s t table is_child is_root meet equal);
      complete = λ f respects joins. closing_agrees ss given prefix child root s t class f is_child is_root meet kinds own child_own apart
          (slice_get_within ss child s is_child) (slice_get_within ss root t is_root)
          c.complete respects joins;
    }

-- nothing is pending: the representatives agree with all
pub closing_ends : (equations : List Equation) (ss : List Shape) (given : List Pair) (parents classes : List ℕ) (class : ℕ → ℕ)
    → IsTable ss → length parents ≡ length ss → length classes ≡ length ss
    → ((k : ℕ) → k < length ss → get_or classes k 0 ≡ class k) → IsClosing equations ss given [] parents class
    → IsClosed equations ss given classes
closing_ends equations ss given parents classes class table sized listed same c =
    let inside : (k : ℕ) → k < length ss → class k < length ss = λ k lt.
    let it : class k < length parents = c.represents.within k (omega arith) in omega arith in
    let twice : (k : ℕ) → k < length ss → class (class k) ≡ class k = λ k lt.
    let here : k < length parents = omega arith in
    c.represents.root (class k) (c.represents.within k here) (c.represents.fixed k here) in
    let agrees : Agrees ss given class (λ k. get_or classes k 0) =
    c.complete (λ k. get_or classes k 0)
    (λ k lt. same (class k) (inside k lt) ∙ twice k lt ∙ sym (same k lt)) tt in
    record {
      sized = listed;
      within = λ k lt. subst (λ (x : ℕ). x < length ss) (sym (same k lt)) (inside k lt);
      fixed = λ k lt. ap (λ (x : ℕ). get_or classes x 0) (same k lt) ∙ same (class k) (inside k lt) ∙ twice k lt ∙ sym (same k lt);
      sound = λ k lt. subst (AreEqual equations (trees ss) k) (sym (same k lt)) (c.sound k lt);
      joins = agrees.joins;
      alike = λ k s t is it. agrees.alike k s t is
          (ap (slice_get ss) (sym (same k (slice_get_within ss k s is))) ∙ it);
    }
