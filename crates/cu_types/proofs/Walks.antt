-- The walk over classes: each task, and what it leaves.
use Rattle.std.proofs.Common.{◌≡◌, ◌≢◌, ℕ, zero, suc, ◌+◌, ◌<◌, ◌≤◌, ◌⊎◌, inl, inr, List, [], ◌∷◌, ◌++◌, Some, length, map, replicate, reverse, take, get_or, set, slice_get, refl, sym, ap, ◌∙◌, subst, arith, length-append, get_or-set_same, get_or-set_other}
use Rattle.std.proofs.Math.ListN.{length-set}
use Rattle.std.proofs.lemmas.Bool.{cases_eq, cases_lt}
use Rattle.std.proofs.lemmas.List.{get_or_push, get_or_read, length-replicate, map_more, reverse-append, reverse-reverse}
use Rattle.std.proofs.lemmas.Option.{get_or_from_slice_get, slice_get-get_or, slice_get_within}
use Rattle.cu_kernel.specs.TypeExpr as type
use Rattle.cu_kernel.specs.TypeExpr.{TypeExpr, TypeExprs}
use Rattle.cu_kernel.specs.TypesOf.{type_list}
use Rattle.cu_types.proofs.Joins.{place_within}
use Rattle.cu_types.proofs.TableLemmas.{map_same, mapped_length, mapped_twice, trees-append, trees-length, trees-push, trees_fit}
use Rattle.cu_types.specs.Inside.Ordering.{AreFixed, AreLinked, AreOpen, AreWithin, IsCyclic, IsFixed, IsPlaced, IsUnder, IsWalk, Leaves, Promises, Respects, Uses, class_of, place_of, placed_shape, state_of, value_of}
use Rattle.cu_types.specs.Table as shape
use Rattle.cu_types.specs.Table.{IsFull, IsTable, MayStand, Shape, at, built, places, tree_over, trees}
use Rattle.cu_types.specs.Types.{Substitution, apply, apply_all}
use Rattle.cu_types.specs.declared.node.TypeHead.{TypeHead}
use Rattle.cu_types.specs.declared.node.TypeHead.TheVariants as head
use Rattle.cu_types.specs.declared.order.State.{State}
use Rattle.cu_types.specs.declared.order.State.TheVariants as state
use Rattle.cu_types.specs.declared.order.Task.{Task}
use Rattle.cu_types.specs.declared.order.Task.TheVariants as task

-- one more argument's place
pub places_more : (states : List State) (classes qs : List ℕ) (i : ℕ) (x : State) (place : ℕ) (found after : List ℕ)
    → i < length qs → class_of classes (get_or qs i 0) < length states
    → x ≡ get_or states (class_of classes (get_or qs i 0)) x → place ≡ place_of x
    → found ≡ map (λ a. place_of (state_of states (class_of classes a))) (take i qs) → after ≡ found ++ place ∷ []
    → after ≡ map (λ a. place_of (state_of states (class_of classes a))) (take (i + 1) qs)
places_more states classes qs i x place found after within inside is it before pushed =
    let here : x ≡ state_of states (class_of classes (get_or qs i 0)) =
    get_or_read states (class_of classes (get_or qs i 0)) x inside is state.Unseen in
    pushed ∙ ap (λ (xs : List ℕ). xs ++ place ∷ []) before
    ∙ ap (λ (p : ℕ). map (λ a. place_of (state_of states (class_of classes a))) (take i qs) ++ p ∷ []) (it ∙ ap place_of here)
    ∙ sym (map_more (λ a. place_of (state_of states (class_of classes a))) qs i 0 within)

-- substitutions over shapes

applied_type_list : (τ : Substitution) (ts : List TypeExpr) → apply_all τ (type_list ts) ≡ type_list (map (apply τ) ts)
applied_type_list τ [] = refl
applied_type_list τ (t ∷ ts) = ap (type.MoreTypes (apply τ t)) (applied_type_list τ ts)

pub applied_built : (τ : Substitution) (h : TypeHead) (ts : List TypeExpr) → IsFull h (length ts)
    → apply τ (built h ts) ≡ built h (map (apply τ) ts)
applied_built τ (head.Named name) ts full = ap (type.Named name) (applied_type_list τ ts)
applied_built τ head.Arrow (a ∷ b ∷ []) full = refl
applied_built τ head.Arrow [] full = absurd (omega arith)
applied_built τ head.Arrow (a ∷ []) full = absurd (omega arith)
applied_built τ head.Arrow (a ∷ b ∷ c ∷ ts) full = absurd (omega arith)

-- what a substitution makes of a shape depends on what it makes of its arguments
pub applied_over : (τ : Substitution) (n : ℕ) (s : Shape) (f g : ℕ → TypeExpr) → MayStand n s
    → ((k a : ℕ) → slice_get (places s) k ≡ Some a → apply τ (f a) ≡ apply τ (g a)) → apply τ (tree_over f s) ≡ apply τ (tree_over g s)
applied_over τ n (shape.Variable x) f g may same = refl
applied_over τ n (shape.Applied h ps) f g may same =
    let full_f : IsFull h (length (map f ps)) = subst (IsFull h) (sym (mapped_length f ps)) may.0 in
    let full_g : IsFull h (length (map g ps)) = subst (IsFull h) (sym (mapped_length g ps)) may.0 in
    applied_built τ h (map f ps) full_f ∙ ap (built h) (mapped_twice (apply τ) f ps)
    ∙ ap (built h) (map_same (λ a. apply τ (f a)) (λ a. apply τ (g a)) ps (λ a k e. same k a e))
    ∙ ap (built h) (sym (mapped_twice (apply τ) g ps)) ∙ sym (applied_built τ h (map g ps) full_g)

-- what stands at a shape's places
pub over_same : (s : Shape) (f g : ℕ → TypeExpr) → ((k a : ℕ) → slice_get (places s) k ≡ Some a → f a ≡ g a)
    → tree_over f s ≡ tree_over g s
over_same (shape.Variable x) f g same = refl
over_same (shape.Applied h ps) f g same = ap (built h) (map_same f g ps (λ a k e. same k a e))

-- promises of tasks

pub promises_more : (ss : List Shape) (classes : List ℕ) (P Q : ℕ → Type 0) (tasks : List Task) → ((c : ℕ) → P c → Q c)
    → Promises ss classes P tasks → Promises ss classes Q tasks
promises_more ss classes P Q [] more all = λ k lt. more (class_of classes k) (all k lt)
promises_more ss classes P Q (task.Enter i ∷ tasks) more all =
    promises_more ss classes (λ c. P c ⊎ (c ≡ class_of classes i)) (λ c. Q c ⊎ (c ≡ class_of classes i)) tasks
    (λ c w. elim w [ inl p ↦ inl (more c p) | inr e ↦ inr e ]) all
promises_more ss classes P Q (task.Leave r ∷ tasks) more all = (
  (λ s k a is it. more (class_of classes a) (all.0 s k a is it)),
  promises_more ss classes (λ c. P c ⊎ (c ≡ r)) (λ c. Q c ⊎ (c ≡ r)) tasks
      (λ c w. elim w [ inl p ↦ inl (more c p) | inr e ↦ inr e ]) all.1,
)

-- the tasks to enter places
abbrev pub entering : List ℕ → List Task → List Task
entering [] tasks = tasks
entering (q ∷ qs) tasks = task.Enter q ∷ entering qs tasks

abbrev pub Among : List ℕ → ℕ → Type 0
Among qs a = (k : ℕ) × (slice_get qs k ≡ Some a)

none_among : (k a : ℕ) → slice_get [] k ≡ Some a → ⊥
none_among k a is = let no : ⊥ = cc in no

first_or_later : (classes : List ℕ) (P : ℕ → Type 0) (q : ℕ) (qs : List ℕ) (a k : ℕ) → slice_get (q ∷ qs) k ≡ Some a
    → (P (class_of classes a) ⊎ (class_of classes a ≡ class_of classes q)) ⊎ Among qs a
first_or_later classes P q qs a zero is = let e : a ≡ q = cc in inl (inr (ap (class_of classes) e))
first_or_later classes P q qs a (suc k) is = inr (k, is)

among_first : (classes : List ℕ) (P : ℕ → Type 0) (q : ℕ) (qs : List ℕ) (a : ℕ) → Among (q ∷ qs) a
    → (P (class_of classes a) ⊎ (class_of classes a ≡ class_of classes q)) ⊎ Among qs a
among_first classes P q qs a w = first_or_later classes P q qs a w.0 w.1

promises_entering : (ss : List Shape) (classes : List ℕ) (P : ℕ → Type 0) (qs : List ℕ) (r : ℕ) (tasks : List Task)
    → ((s : Shape) (k a : ℕ) → slice_get ss r ≡ Some s → slice_get (places s) k ≡ Some a → P (class_of classes a) ⊎ Among qs a)
    → Promises ss classes (λ c. P c ⊎ (c ≡ r)) tasks → Promises ss classes P (entering qs (task.Leave r ∷ tasks))
promises_entering ss classes P [] r tasks all rest =
    ((λ s k a is it. elim (all s k a is it) [ inl p ↦ p | inr w ↦ (let no : ⊥ = none_among w.0 a w.1 in absurd no) ]), rest)
promises_entering ss classes P (q ∷ qs) r tasks all rest =
    promises_entering ss classes (λ c. P c ⊎ (c ≡ class_of classes q)) qs r tasks
    (λ s k a is it. elim (all s k a is it) [ inl p ↦ inl (inl p) | inr w ↦ among_first classes P q qs a w ])
    (promises_more ss classes (λ c. P c ⊎ (c ≡ r)) (λ c. (P c ⊎ (c ≡ class_of classes q)) ⊎ (c ≡ r)) tasks
    (λ c w. elim w [ inl p ↦ inl (inl p) | inr e ↦ inr e ]) rest)

-- tasks to enter places, and the class under which they stand

under_entering : (ss : List Shape) (classes : List ℕ) (c r : ℕ) (qs : List ℕ) (tasks : List Task) → Uses ss classes r c
    → IsUnder ss classes c (entering qs (task.Leave r ∷ tasks))
under_entering ss classes c r [] tasks uses = uses
under_entering ss classes c r (q ∷ qs) tasks uses = under_entering ss classes c r qs tasks uses

linked_entering : (ss : List Shape) (classes : List ℕ) (r : ℕ) (qs : List ℕ) (tasks : List Task) → r < length ss
    → ((k a : ℕ) → slice_get qs k ≡ Some a → (a < length ss) × Uses ss classes r (class_of classes a))
    → IsUnder ss classes r tasks → AreLinked ss classes tasks → AreLinked ss classes (entering qs (task.Leave r ∷ tasks))
linked_entering ss classes r [] tasks within all under linked = (within, under, linked)
linked_entering ss classes r (q ∷ qs) tasks within all under linked = (
  (all 0 q refl).0,
  under_entering ss classes (class_of classes q) r qs tasks (all 0 q refl).1,
  linked_entering ss classes r qs tasks within (λ k a e. all (suc k) a e) under linked,
)

open_entering : (states : List State) (qs : List ℕ) (tasks : List Task) → AreOpen states tasks → AreOpen states (entering qs tasks)
open_entering states [] tasks opened = opened
open_entering states (q ∷ qs) tasks opened = open_entering states qs tasks opened

leaves_entering : (c : ℕ) (qs : List ℕ) (tasks : List Task) → Leaves c tasks → Leaves c (entering qs tasks)
leaves_entering c [] tasks leaves = leaves
leaves_entering c (q ∷ qs) tasks leaves = leaves_entering c qs tasks leaves

-- what is left is open
leaves_open : (states : List State) (c : ℕ) (tasks : List Task) → AreOpen states tasks → Leaves c tasks
    → state_of states c ≡ state.Open
leaves_open states c [] opened leaves = absurd leaves
leaves_open states c (task.Enter i ∷ tasks) opened leaves = leaves_open states c tasks opened leaves
leaves_open states c (task.Leave r ∷ tasks) opened (inl e) = ap (state_of states) (sym e) ∙ opened.0
leaves_open states c (task.Leave r ∷ tasks) opened (inr leaves) = leaves_open states c tasks opened.2 leaves

open_kept : (states then : List State) (tasks : List Task) → ((r : ℕ) → Leaves r tasks → state_of then r ≡ state_of states r)
    → AreOpen states tasks → AreOpen then tasks
open_kept states then [] same opened = tt
open_kept states then (task.Enter i ∷ tasks) same opened = open_kept states then tasks same opened
open_kept states then (task.Leave r ∷ tasks) same opened =
    (same r (inl refl) ∙ opened.0, opened.1, open_kept states then tasks (λ q l. same q (inr l)) opened.2)

-- states after a write

pub state_here : (states : List State) (c : ℕ) (v : State) → c < length states → state_of (set states c v) c ≡ v
state_here states c v within = get_or-set_same states c v state.Unseen within

pub state_there : (states : List State) (c d : ℕ) (v : State) → d ≢ c → state_of (set states c v) d ≡ state_of states d
state_there states c d v other = get_or-set_other states c d v state.Unseen other

-- a class that was placed stands within what was placed
pub placed_within : (ss : List Shape) (classes : List ℕ) (states : List State) (solved : List Shape) (c : ℕ) (v : State)
    → AreFixed ss classes states solved → c < length ss → state_of states c ≡ v → IsPlaced v → place_of v < length solved
placed_within ss classes states solved c state.Unseen are within is placed = absurd placed
placed_within ss classes states solved c state.Open are within is placed = absurd placed
placed_within ss classes states solved c (state.Placed p) are within is placed =
    (are.fixed c p (get_or ss c (shape.Variable 0)) (slice_get-get_or ss c (shape.Variable 0) within) is).within

-- classes that were placed stay as they are
fixed_kept : (ss : List Shape) (classes : List ℕ) (states then : List State) (solved more : List Shape) (c p : ℕ) (s : Shape)
    → AreFixed ss classes states solved → AreWithin ss classes → IsTable ss → slice_get ss c ≡ Some s
    → ((d : ℕ) → IsPlaced (state_of states d) → state_of then d ≡ state_of states d)
    → IsFixed ss classes states solved c p s → IsFixed ss classes then (solved ++ more) c p s
fixed_kept ss classes states then solved more c p s are inside table is same f = record {
  within = let long = length-append solved more in let within : p < length solved = f.within in omega arith;
  arguments = λ k a e. subst IsPlaced (sym (same (class_of classes a) (f.arguments k a e))) (f.arguments k a e);
  value = trees-append solved more p f.within ∙ f.value ∙
      over_same s (λ a. value_of solved states (class_of classes a)) (λ a. value_of (solved ++ more) then (class_of classes a))
      (λ k a e.
      let placed : IsPlaced (state_of states (class_of classes a)) = f.arguments k a e in
      let place : place_of (state_of then (class_of classes a)) ≡ place_of (state_of states (class_of classes a)) =
      ap place_of (same (class_of classes a) placed) in
      let lt : place_of (state_of states (class_of classes a)) < length solved =
      placed_within ss classes states solved (class_of classes a) (state_of states (class_of classes a)) are
      (inside.within a (place_within ss c s k a table is e)) refl placed in
      sym (ap (at (trees (solved ++ more))) place
      ∙ trees-append solved more (place_of (state_of states (class_of classes a))) lt));
  general = λ τ respects. ap (apply τ) (trees-append solved more p f.within) ∙ f.general τ respects;
}

append_none : (xs : List Shape) → xs ++ [] ≡ xs
append_none [] = refl
append_none (x ∷ xs) = ap (λ (ys : List Shape). x ∷ ys) (append_none xs)

one_shape : (ss : List Shape) (i : ℕ) (s t : Shape) → slice_get ss i ≡ Some s → slice_get ss i ≡ Some t → s ≡ t
one_shape ss i s t is it = let e : Some s ≡ Some t = sym is ∙ it in cc

-- a shape that is placed after its arguments

mapped_below : (f : ℕ → ℕ) (m : ℕ) (ps : List ℕ) → ((k a : ℕ) → slice_get ps k ≡ Some a → f a < m)
    → (a k : ℕ) → slice_get (map f ps) k ≡ Some a → a < m
mapped_below f m [] below a k is = let no : ⊥ = cc in absurd no
mapped_below f m (p ∷ ps) below a zero is = let e : f p ≡ a = cc in subst (λ (x : ℕ). x < m) e (below 0 p refl)
mapped_below f m (p ∷ ps) below a (suc k) is = mapped_below f m ps (λ j b e. below (suc j) b e) a k is

may_placed : (n m : ℕ) (states : List State) (classes : List ℕ) (s : Shape) → MayStand n s
    → ((k a : ℕ) → slice_get (places s) k ≡ Some a → place_of (state_of states (class_of classes a)) < m)
    → MayStand m (placed_shape states classes s)
may_placed n m states classes (shape.Variable x) may earlier = tt
may_placed n m states classes (shape.Applied h ps) may earlier = (
  subst (IsFull h) (sym (mapped_length (λ a. place_of (state_of states (class_of classes a))) ps)) may.0,
  mapped_below (λ a. place_of (state_of states (class_of classes a))) m ps earlier,
)

last_shape : (ss : List Shape) (s t : Shape) (i : ℕ) → slice_get (ss ++ s ∷ []) i ≡ Some t → length ss ≤ i → (i ≡ length ss) × (s ≡ t)
last_shape [] s t zero is past = (refl, cc)
last_shape [] s t (suc i) is past = let no : ⊥ = cc in absurd no
last_shape (x ∷ ss) s t zero is past = absurd (omega arith)
last_shape (x ∷ ss) s t (suc i) is past = let rest = last_shape ss s t i is (omega arith) in (ap suc rest.0, rest.1)

earlier_shape : (ss : List Shape) (s t : Shape) (i : ℕ) → slice_get (ss ++ s ∷ []) i ≡ Some t → i < length ss → slice_get ss i ≡ Some t
earlier_shape [] s t i is within = absurd (omega arith)
earlier_shape (x ∷ ss) s t zero is within = is
earlier_shape (x ∷ ss) s t (suc i) is within = earlier_shape ss s t i is (omega arith)

pushed_stands : (ss : List Shape) (s : Shape) (i : ℕ) (t : Shape) → IsTable ss → MayStand (length ss) s
    → slice_get (ss ++ s ∷ []) i ≡ Some t → (i < length ss) ⊎ (length ss ≤ i) → MayStand i t
pushed_stands ss s i t table may is (inl within) = table.stand i t (earlier_shape ss s t i is within)
pushed_stands ss s i t table may is (inr past) =
    let it = last_shape ss s t i is past in
    subst (λ (j : ℕ). MayStand j t) (sym it.0) (subst (MayStand (length ss)) it.1 may)

pub table_pushed : (ss : List Shape) (s : Shape) → IsTable ss → MayStand (length ss) s → IsTable (ss ++ s ∷ [])
table_pushed ss s table may = record {
  stand = λ i t is. pushed_stands ss s i t table may is (cases_lt i (length ss));
}

-- the type of a shape that is placed
placed_value : (solved : List Shape) (states : List State) (classes : List ℕ) (s : Shape)
    → tree_over (at (trees solved)) (placed_shape states classes s) ≡ tree_over (λ a. value_of solved states (class_of classes a)) s
placed_value solved states classes (shape.Variable x) = refl
placed_value solved states classes (shape.Applied h ps) =
    ap (built h) (mapped_twice (at (trees solved)) (λ a. place_of (state_of states (class_of classes a))) ps)

-- the last type of a table
pub last_tree : (ss : List Shape) (s : Shape) → at (trees (ss ++ s ∷ [])) (length ss) ≡ tree_over (at (trees ss)) s
last_tree ss s =
    ap (λ (ts : List TypeExpr). at ts (length ss)) (trees-push ss s)
    ∙ get_or_push (trees ss) (tree_over (at (trees ss)) s) (type.Variable 0) (length ss) (trees-length ss)

-- a class that was placed says nothing but what each substitution makes the same
pub placed_general : (ss : List Shape) (classes : List ℕ) (states : List State) (solved : List Shape) (c : ℕ) (v : State) (τ : Substitution)
    → Respects ss classes τ → AreFixed ss classes states solved → c < length ss → state_of states c ≡ v → IsPlaced v
    → apply τ (at (trees solved) (place_of v)) ≡ apply τ (at (trees ss) c)
placed_general ss classes states solved c state.Unseen τ respects are within is placed = absurd placed
placed_general ss classes states solved c state.Open τ respects are within is placed = absurd placed
placed_general ss classes states solved c (state.Placed p) τ respects are within is placed =
    (are.fixed c p (get_or ss c (shape.Variable 0)) (slice_get-get_or ss c (shape.Variable 0) within) is).general τ respects

-- a class that is placed now
fixed_new : (ss : List Shape) (classes : List ℕ) (states then : List State) (solved : List Shape) (r p : ℕ) (t : Shape)
    → IsTable ss → AreWithin ss classes → AreFixed ss classes states solved
    → ((d : ℕ) → IsPlaced (state_of states d) → state_of then d ≡ state_of states d)
    → slice_get ss r ≡ Some t → length solved ≡ p
    → ((k a : ℕ) → slice_get (places t) k ≡ Some a → IsPlaced (state_of states (class_of classes a)))
    → (s : Shape) → slice_get ss r ≡ Some s
    → IsFixed ss classes then (solved ++ placed_shape states classes s ∷ []) r p t
fixed_new ss classes states then solved r p t table inside are same at_r here arguments s is =
    let one : s ≡ t = one_shape ss r s t is at_r in
    let value : at (trees (solved ++ placed_shape states classes s ∷ [])) p ≡ tree_over (λ a. value_of solved states (class_of classes a)) t =
    ap (at (trees (solved ++ placed_shape states classes s ∷ []))) (sym here) ∙ last_tree solved (placed_shape states classes s)
    ∙ placed_value solved states classes s ∙ ap (tree_over (λ a. value_of solved states (class_of classes a))) one in
    let earlier : (k a : ℕ) → slice_get (places t) k ≡ Some a → place_of (state_of states (class_of classes a)) < length solved =
    λ k a e. placed_within ss classes states solved (class_of classes a) (state_of states (class_of classes a)) are
    (inside.within a (place_within ss r t k a table at_r e)) refl (arguments k a e) in
    record {
      within = let long = length-append solved (placed_shape states classes s ∷ []) in omega arith;
      arguments = λ k a e. subst IsPlaced (sym (same (class_of classes a) (arguments k a e))) (arguments k a e);
      value = value ∙ over_same t (λ a. value_of solved states (class_of classes a))
          (λ a. value_of (solved ++ placed_shape states classes s ∷ []) then (class_of classes a))
          (λ k a e. sym (ap (at (trees (solved ++ placed_shape states classes s ∷ []))) (ap place_of (same (class_of classes a) (arguments k a e)))
          ∙ trees-append solved (placed_shape states classes s ∷ []) (place_of (state_of states (class_of classes a))) (earlier k a e)));
      general = λ τ respects.
          ap (apply τ) value
          ∙ applied_over τ r t (λ a. value_of solved states (class_of classes a)) (at (trees ss)) (table.stand r t at_r)
          (λ k a e. placed_general ss classes states solved (class_of classes a) (state_of states (class_of classes a)) τ respects are
          (inside.within a (place_within ss r t k a table at_r e)) refl (arguments k a e)
          ∙ sym (respects a (place_within ss r t k a table at_r e)))
          ∙ ap (apply τ) (sym (trees_fit ss r t table at_r));
    }

-- the tasks, one by one

-- the place's class was placed before
pub walk_placed : (ss : List Shape) (classes : List ℕ) (states : List State) (solved : List Shape) (i p : ℕ) (tasks : List Task)
    → state_of states (class_of classes i) ≡ state.Placed p → IsWalk ss classes states solved (task.Enter i ∷ tasks)
    → IsWalk ss classes states solved tasks
walk_placed ss classes states solved i p tasks is w = record {
  placed = w.placed;
  promises = promises_more ss classes (λ c. IsPlaced (state_of states c) ⊎ (c ≡ class_of classes i)) (λ c. IsPlaced (state_of states c)) tasks
      (λ c v. elim v [
        | inl e ↦ e
        | inr e ↦ subst (λ (d : ℕ). IsPlaced (state_of states d)) (sym e) (subst IsPlaced (sym is) tt)
      ]) w.promises;
  linked = w.linked.2;
  opened = w.opened;
  opens = w.opens;
}

-- its class is open
pub walk_cyclic : (ss : List Shape) (classes : List ℕ) (states : List State) (solved : List Shape) (i : ℕ) (tasks : List Task)
    → state_of states (class_of classes i) ≡ state.Open → IsWalk ss classes states solved (task.Enter i ∷ tasks)
    → IsCyclic ss classes tasks i
walk_cyclic ss classes states solved i tasks is w = record {
  within = w.linked.0;
  leaves = w.opens (class_of classes i) is;
  under = w.linked.1;
  linked = w.linked.2;
}

pub unseen_not_placed : (v : State) → v ≡ state.Unseen → IsPlaced v → ⊥
unseen_not_placed state.Unseen is placed = placed
unseen_not_placed state.Open is placed = placed
unseen_not_placed (state.Placed p) is placed = let no : ⊥ = cc in no

open_not_placed : (v : State) → v ≡ state.Open → IsPlaced v → ⊥
open_not_placed state.Unseen is placed = placed
open_not_placed state.Open is placed = placed
open_not_placed (state.Placed p) is placed = let no : ⊥ = cc in no

-- it wasn't met before: it is opened, and its arguments are entered first
pub walk_opened : (ss : List Shape) (classes : List ℕ) (states : List State) (solved : List Shape) (i r : ℕ) (s : Shape) (qs : List ℕ)
    (tasks : List Task) → IsTable ss → AreWithin ss classes → class_of classes i ≡ r → slice_get ss r ≡ Some s
    → state_of states r ≡ state.Unseen
    → ((k a : ℕ) → slice_get qs k ≡ Some a → Among (places s) a) → ((k a : ℕ) → slice_get (places s) k ≡ Some a → Among qs a)
    → IsWalk ss classes states solved (task.Enter i ∷ tasks)
    → IsWalk ss classes (set states r state.Open) solved (entering qs (task.Leave r ∷ tasks))
walk_opened ss classes states solved i r s qs tasks table inside class is unseen there converse w =
    let within : r < length ss = slice_get_within ss r s is in
    let sized : length states ≡ length ss = w.placed.sized in
    let here : state_of (set states r state.Open) r ≡ state.Open = state_here states r state.Open (omega arith) in
    let kept : (d : ℕ) → IsPlaced (state_of states d) → state_of (set states r state.Open) d ≡ state_of states d = λ d placed.
    state_there states r d state.Open (λ e. unseen_not_placed (state_of states d) (ap (state_of states) e ∙ unseen) placed) in
    record {
      placed = record {
        sized = length-set states r state.Open ∙ sized;
        table = w.placed.table;
        fixed = λ c p t at_c placed.
            let other : c ≢ r = λ e. let no : state.Open ≡ state.Placed p = sym here ∙ ap (state_of (set states r state.Open)) (sym e) ∙ placed in
            (let none : ⊥ = cc in none) in
            subst (λ (xs : List Shape). IsFixed ss classes (set states r state.Open) xs c p t) (append_none solved)
            (fixed_kept ss classes states (set states r state.Open) solved [] c p t w.placed inside table at_c kept
            (w.placed.fixed c p t at_c (sym (state_there states r c state.Open other) ∙ placed)));
      };
      promises = promises_entering ss classes (λ c. IsPlaced (state_of (set states r state.Open) c)) qs r tasks
          (λ t k a at_r e. inr (converse k a (subst (λ (x : Shape). slice_get (places x) k ≡ Some a) (one_shape ss r t s at_r is) e)))
          (promises_more ss classes (λ c. IsPlaced (state_of states c) ⊎ (c ≡ class_of classes i))
          (λ c. IsPlaced (state_of (set states r state.Open) c) ⊎ (c ≡ r)) tasks
          (λ c v. elim v [ inl e ↦ inl (subst IsPlaced (sym (kept c e)) e) | inr e ↦ inr (e ∙ class) ]) w.promises);
      linked = linked_entering ss classes r qs tasks within
          (λ k a e.
          let w : Among (places s) a = there k a e in (
            place_within ss r s w.0 a table is w.1,
            record { shape = s; place = w.0; argument = a; has = is; stands = w.1; is = refl },
          ))
          (subst (λ (x : ℕ). IsUnder ss classes x tasks) class w.linked.1) w.linked.2;
      opened = open_entering (set states r state.Open) qs (task.Leave r ∷ tasks) (
        here,
        (λ leaves. let no : state.Unseen ≡ state.Open = sym unseen ∙ leaves_open states r tasks w.opened leaves in
            (let none : ⊥ = cc in none)),
        open_kept states (set states r state.Open) tasks
            (λ q leaves. state_there states r q state.Open
            (λ e. let no : state.Unseen ≡ state.Open = sym unseen ∙ ap (state_of states) (sym e) ∙ leaves_open states q tasks w.opened leaves in
            (let none : ⊥ = cc in none)))
            w.opened,
      );
      opens = λ c now. leaves_entering c qs (task.Leave r ∷ tasks)
          (elim (cases_eq c r) [
            | inl e ↦ inl (sym e)
            | inr n ↦ inr (w.opens c (sym (state_there states r c state.Open n) ∙ now))
          ]);
    }

-- a class is left: it is placed after its arguments
pub walk_left : (ss : List Shape) (classes : List ℕ) (states : List State) (solved : List Shape) (r : ℕ) (s : Shape)
    (tasks : List Task) → IsTable ss → AreWithin ss classes → slice_get ss r ≡ Some s
    → IsWalk ss classes states solved (task.Leave r ∷ tasks)
    → IsWalk ss classes (set states r (state.Placed (length solved))) (solved ++ placed_shape states classes s ∷ []) tasks
walk_left ss classes states solved r s tasks table inside is w =
    let within : r < length ss = slice_get_within ss r s is in
    let sized : length states ≡ length ss = w.placed.sized in
    let was : state_of states r ≡ state.Open = w.opened.0 in
    let here : state_of (set states r (state.Placed (length solved))) r ≡ state.Placed (length solved) =
    state_here states r (state.Placed (length solved)) (omega arith) in
    let kept : (d : ℕ) → IsPlaced (state_of states d) → state_of (set states r (state.Placed (length solved))) d ≡ state_of states d =
    λ d placed. state_there states r d (state.Placed (length solved))
    (λ e. open_not_placed (state_of states d) (ap (state_of states) e ∙ was) placed) in
    let arguments : (k a : ℕ) → slice_get (places s) k ≡ Some a → IsPlaced (state_of states (class_of classes a)) =
    λ k a e. w.promises.0 s k a is e in
    let earlier : (k a : ℕ) → slice_get (places s) k ≡ Some a → place_of (state_of states (class_of classes a)) < length solved =
    λ k a e. placed_within ss classes states solved (class_of classes a) (state_of states (class_of classes a)) w.placed
    (inside.within a (place_within ss r s k a table is e)) refl (arguments k a e) in
    record {
      placed = record {
        sized = length-set states r (state.Placed (length solved)) ∙ sized;
        table = table_pushed solved (placed_shape states classes s) w.placed.table
            (may_placed r (length solved) states classes s (table.stand r s is) earlier);
        fixed = λ c p t at_c placed.
            elim (cases_eq c r) [
              | inl e ↦ subst (λ (x : ℕ). IsFixed ss classes (set states r (state.Placed (length solved))) (solved ++ placed_shape states classes s ∷ []) x p t) (sym e)
                  (fixed_new ss classes states (set states r (state.Placed (length solved))) solved r p t table inside w.placed kept
                  (ap (slice_get ss) (sym e) ∙ at_c)
                  (let q : state.Placed (length solved) ≡ state.Placed p = sym here ∙ ap (state_of (set states r (state.Placed (length solved)))) (sym e) ∙ placed in cc)
                  (λ k a f. w.promises.0 t k a (ap (slice_get ss) (sym e) ∙ at_c) f) s is)
              | inr n ↦ fixed_kept ss classes states (set states r (state.Placed (length solved))) solved (placed_shape states classes s ∷ []) c p t
                  w.placed inside table at_c kept
                  (w.placed.fixed c p t at_c (sym (state_there states r c (state.Placed (length solved)) n) ∙ placed))
            ];
      };
      promises = promises_more ss classes (λ c. IsPlaced (state_of states c) ⊎ (c ≡ r))
          (λ c. IsPlaced (state_of (set states r (state.Placed (length solved))) c)) tasks
          (λ c v. elim v [
            | inl e ↦ subst IsPlaced (sym (kept c e)) e
            | inr e ↦ subst (λ (d : ℕ). IsPlaced (state_of (set states r (state.Placed (length solved))) d)) (sym e) (subst IsPlaced (sym here) tt)
          ]) w.promises.1;
      linked = w.linked.2;
      opened = open_kept states (set states r (state.Placed (length solved))) tasks
          (λ q leaves. state_there states r q (state.Placed (length solved)) (λ e. w.opened.1 (subst (λ (x : ℕ). Leaves x tasks) e leaves)))
          w.opened.2;
      opens = λ c now.
          let other : c ≢ r = λ e.
          let no : state.Placed (length solved) ≡ state.Open = sym here ∙ ap (state_of (set states r (state.Placed (length solved)))) (sym e) ∙ now in
          (let none : ⊥ = cc in none) in
          elim (w.opens c (sym (state_there states r c (state.Placed (length solved)) other) ∙ now)) [
            | inl e ↦ absurd (other (sym e))
            | inr leaves ↦ leaves
          ];
    }

-- the walk begins with nothing met, and enters all classes

state_replicated : (n c : ℕ) → state_of (replicate n state.Unseen) c ≡ state.Unseen
state_replicated zero c = refl
state_replicated (suc n) zero = refl
state_replicated (suc n) (suc c) = state_replicated n c

under_all : (ss : List Shape) (classes : List ℕ) (c : ℕ) (qs : List ℕ) → IsUnder ss classes c (entering qs [])
under_all ss classes c [] = tt
under_all ss classes c (q ∷ qs) = under_all ss classes c qs

linked_all : (ss : List Shape) (classes qs : List ℕ) → ((k a : ℕ) → slice_get qs k ≡ Some a → a < length ss)
    → AreLinked ss classes (entering qs [])
linked_all ss classes [] within = tt
linked_all ss classes (q ∷ qs) within =
    (within 0 q refl, under_all ss classes (class_of classes q) qs, linked_all ss classes qs (λ k a e. within (suc k) a e))

first_class : (classes : List ℕ) (P : ℕ → Type 0) (q : ℕ) (qs : List ℕ) (k j : ℕ) → slice_get (q ∷ qs) j ≡ Some (class_of classes k)
    → class_of classes (class_of classes k) ≡ class_of classes k
    → (P (class_of classes k) ⊎ (class_of classes k ≡ class_of classes q)) ⊎ Among qs (class_of classes k)
first_class classes P q qs k zero is fixed =
    let e : q ≡ class_of classes k = cc in inl (inr (sym fixed ∙ ap (class_of classes) (sym e)))
first_class classes P q qs k (suc j) is fixed = inr (j, is)

promises_all : (ss : List Shape) (classes : List ℕ) (P : ℕ → Type 0) (qs : List ℕ)
    → ((k : ℕ) → k < length ss → P (class_of classes k) ⊎ Among qs (class_of classes k))
    → ((k : ℕ) → k < length ss → class_of classes (class_of classes k) ≡ class_of classes k)
    → Promises ss classes P (entering qs [])
promises_all ss classes P [] all fixed = λ k lt.
    elim (all k lt) [ inl p ↦ p | inr w ↦ (let no : ⊥ = none_among w.0 (class_of classes k) w.1 in absurd no) ]
promises_all ss classes P (q ∷ qs) all fixed =
    promises_all ss classes (λ c. P c ⊎ (c ≡ class_of classes q)) qs
    (λ k lt. elim (all k lt) [
      | inl p ↦ inl (inl p)
      | inr w ↦ first_class classes P q qs k w.0 w.1 (fixed k lt)
    ]) fixed

pub entering_append : (qs : List ℕ) (tasks : List Task) → entering qs [] ++ tasks ≡ entering qs tasks
entering_append [] tasks = refl
entering_append (q ∷ qs) tasks = ap (λ (ts : List Task). task.Enter q ∷ ts) (entering_append qs tasks)

pub entering_last : (qs : List ℕ) (q : ℕ) (tasks : List Task) → entering (qs ++ q ∷ []) tasks ≡ entering qs (task.Enter q ∷ tasks)
entering_last [] q tasks = refl
entering_last (p ∷ qs) q tasks = ap (λ (ts : List Task). task.Enter p ∷ ts) (entering_last qs q tasks)

-- what is among a list is among its reverse
among_append_right : (xs ys : List ℕ) (a k : ℕ) → slice_get ys k ≡ Some a → Among (xs ++ ys) a
among_append_right [] ys a k is = (k, is)
among_append_right (x ∷ xs) ys a k is = let w = among_append_right xs ys a k is in (suc w.0, w.1)

among_append_left : (xs ys : List ℕ) (a k : ℕ) → slice_get xs k ≡ Some a → slice_get (xs ++ ys) k ≡ Some a
among_append_left [] ys a k is = let no : ⊥ = cc in absurd no
among_append_left (x ∷ xs) ys a zero is = is
among_append_left (x ∷ xs) ys a (suc k) is = among_append_left xs ys a k is

pub among_reverse : (xs : List ℕ) (a k : ℕ) → slice_get xs k ≡ Some a → Among (reverse xs) a
among_reverse [] a k is = let no : ⊥ = cc in absurd no
among_reverse (x ∷ xs) a zero is =
    subst (λ (ys : List ℕ). Among ys a) (sym (reverse-append (x ∷ []) xs)) (among_append_right (reverse xs) (x ∷ []) a 0 is)
among_reverse (x ∷ xs) a (suc k) is =
    let w = among_reverse xs a k is in
    subst (λ (ys : List ℕ). Among ys a) (sym (reverse-append (x ∷ []) xs))
    (w.0, among_append_left (reverse xs) (x ∷ []) a w.0 w.1)

pub among_reversed : (xs : List ℕ) (a k : ℕ) → slice_get (reverse xs) k ≡ Some a → Among xs a
among_reversed xs a k is = subst (λ (ys : List ℕ). Among ys a) (reverse-reverse xs) (among_reverse (reverse xs) a k is)

pub reversed_tasks : (qs : List ℕ) → reverse (map (λ a. task.Enter a) qs) ≡ entering (reverse qs) []
reversed_tasks [] = refl
reversed_tasks (q ∷ qs) =
    reverse-append (task.Enter q ∷ []) (map (λ a. task.Enter a) qs)
    ∙ ap (λ (ts : List Task). ts ++ task.Enter q ∷ []) (reversed_tasks qs)
    ∙ entering_append (reverse qs) (task.Enter q ∷ []) ∙ sym (entering_last (reverse qs) q [])
    ∙ ap (λ (xs : List ℕ). entering xs []) (sym (reverse-append (q ∷ []) qs))

nothing : (i : ℕ) (s : Shape) → slice_get [] i ≡ Some s → ⊥
nothing i s is = let no : ⊥ = cc in no

class_among : (classes : List ℕ) (k : ℕ) → k < length classes → slice_get classes k ≡ Some (class_of classes k)
class_among classes k within = slice_get-get_or classes k 0 within

never_open : (n c : ℕ) (A : Type 0) → state_of (replicate n state.Unseen) c ≡ state.Open → A
never_open n c A now = let no : state.Unseen ≡ state.Open = sym (state_replicated n c) ∙ now in (let none : ⊥ = cc in absurd none)

never_placed : (n c p : ℕ) (A : Type 0) → state_of (replicate n state.Unseen) c ≡ state.Placed p → A
never_placed n c p A now =
    let no : state.Unseen ≡ state.Placed p = sym (state_replicated n c) ∙ now in (let none : ⊥ = cc in absurd none)

pub walk_starts : (ss : List Shape) (classes : List ℕ) → AreWithin ss classes
    → ((k : ℕ) → k < length ss → class_of classes (class_of classes k) ≡ class_of classes k)
    → IsWalk ss classes (replicate (length classes) state.Unseen) [] (reverse (map (λ a. task.Enter a) classes))
walk_starts ss classes inside fixed =
    let sized : length classes ≡ length ss = inside.sized in
    subst (IsWalk ss classes (replicate (length classes) state.Unseen) []) (sym (reversed_tasks classes))
    (record {
      placed = record {
        sized = length-replicate (length classes) state.Unseen ∙ sized;
        table = record { stand = λ i s is. absurd (nothing i s is) };
        fixed = λ c p s is now. never_placed (length classes) c p
            (IsFixed ss classes (replicate (length classes) state.Unseen) [] c p s) now;
      };
      promises = promises_all ss classes (λ c. IsPlaced (state_of (replicate (length classes) state.Unseen) c)) (reverse classes)
          (λ k lt. let at_k = class_among classes k (omega arith) in inr (among_reverse classes (class_of classes k) k at_k)) fixed;
      linked = linked_all ss classes (reverse classes)
          (λ k a e.
          let w : Among classes a = among_reversed classes a k e in
          let it : class_of classes w.0 ≡ a = get_or_from_slice_get classes w.0 a 0 w.1 in
          let in_it : w.0 < length classes = slice_get_within classes w.0 a w.1 in
          subst (λ (x : ℕ). x < length ss) it (inside.within w.0 (omega arith)));
      opened = open_entering (replicate (length classes) state.Unseen) (reverse classes) [] tt;
      opens = λ c now. never_open (length classes) c (Leaves c (entering (reverse classes) [])) now;
    })
