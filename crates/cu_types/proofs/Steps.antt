-- The steps of the walk over classes.
use Rattle.std.proofs.Common.{◌≡◌, ℕ, ◌+◌, ◌<◌, ◌≤◌, inl, inr, true, List, [], ◌∷◌, ◌++◌, Option, None, Some, length, map, reverse, get_or, set, slice_get, refl, sym, ap, ◌∙◌, subst, arith, length-append}
use Rattle.std.proofs.lemmas.Bool.{cases_eq}
use Rattle.std.proofs.lemmas.List.{get_or_read, reverse-append}
use Rattle.std.proofs.lemmas.Option.{slice_get_within}
use Rattle.cu_types.proofs.Debts.{owed_less, owed_same}
use Rattle.cu_types.proofs.TableLemmas.{mapped_length}
use Rattle.cu_types.proofs.Walks.{among_reversed, among_reverse, entering, entering_append, reversed_tasks, state_here, state_there, walk_left, walk_opened, walk_placed}
use Rattle.cu_types.specs.Inside.Closing.{owed, weight}
use Rattle.cu_types.specs.Inside.Ordering.{AreWithin, IsWalk, Steps, class_of, is_unseen, left_over, placed_shape, state_of}
use Rattle.cu_types.specs.Table.{IsTable, Shape, places, shape_of}
use Rattle.cu_types.specs.declared.node.Node.{Node}
use Rattle.cu_types.specs.declared.order.State.{State}
use Rattle.cu_types.specs.declared.order.State.TheVariants as state
use Rattle.cu_types.specs.declared.order.Task.{Task}
use Rattle.cu_types.specs.declared.order.Task.TheVariants as task

pub never_some : {A : Type 0} (o : Option A) → ((x : A) → o ≡ Some x → ⊥) → o ≡ None
never_some None never = refl
never_some (Some x) never = absurd (never x refl)

pub no_tasks : (xs : List Task) → length xs ≡ 0 → xs ≡ []
no_tasks [] none = refl
no_tasks (x ∷ xs) none = absurd (omega arith)

-- the task that is taken
pub reverse_popped : (xs ys : List Task) (t : Task) → xs ≡ ys ++ t ∷ [] → reverse xs ≡ t ∷ reverse ys
reverse_popped xs ys t is = ap reverse is ∙ reverse-append ys (t ∷ [])

mapped_tasks : (ps : List ℕ) → length (map (λ a. task.Enter a) ps) ≡ length ps
mapped_tasks ps = mapped_length (λ a. task.Enter a) ps

-- the tasks after a class was opened
opened_tasks : (tasks after : List Task) (r : ℕ) (ps : List ℕ)
    → after ≡ (tasks ++ task.Leave r ∷ []) ++ map (λ a. task.Enter a) ps
    → reverse after ≡ entering (reverse ps) (task.Leave r ∷ reverse tasks)
opened_tasks tasks after r ps is =
    ap reverse is ∙ reverse-append (tasks ++ task.Leave r ∷ []) (map (λ a. task.Enter a) ps)
    ∙ ap (λ (ts : List Task). ts ++ reverse (tasks ++ task.Leave r ∷ [])) (reversed_tasks ps)
    ∙ entering_append (reverse ps) (reverse (tasks ++ task.Leave r ∷ []))
    ∙ ap (entering (reverse ps)) (reverse-append tasks (task.Leave r ∷ []))

-- the state that was read
pub state_read : (ss : List Shape) (classes : List ℕ) (states : List State) (solved : List Shape) (i : ℕ) (x : State) (tasks : List Task)
    → AreWithin ss classes → x ≡ get_or states (class_of classes i) x → IsWalk ss classes states solved (task.Enter i ∷ tasks)
    → x ≡ state_of states (class_of classes i)
state_read ss classes states solved i x tasks inside is w =
    let sized : length states ≡ length ss = w.placed.sized in
    let within : class_of classes i < length ss = inside.within i w.linked.0 in
    get_or_read states (class_of classes i) x (omega arith) is state.Unseen

unseen_flag : (v : State) → v ≡ state.Unseen → is_unseen v ≡ true
unseen_flag v is = ap is_unseen is

pub steps_opened : (ss : List Shape) (classes : List ℕ) (states : List State) (solved now : List Shape) (i : ℕ) (s : Shape) (x : State)
    (tasks : List Task) (then : List State) (after : List Task) → IsTable ss → AreWithin ss classes
    → slice_get ss (class_of classes i) ≡ Some s → x ≡ get_or states (class_of classes i) x → x ≡ state.Unseen
    → IsWalk ss classes states solved (task.Enter i ∷ reverse tasks) → then ≡ set states (class_of classes i) state.Open
    → now ≡ solved → after ≡ (tasks ++ task.Leave (class_of classes i) ∷ []) ++ map (λ a. task.Enter a) (places s)
    → Steps ss classes states tasks then now after None
steps_opened ss classes states solved now i s x tasks then after table inside is read unseen w written same pushed =
    let was : state_of states (class_of classes i) ≡ state.Unseen =
    sym (state_read ss classes states solved i x (reverse tasks) inside read w) ∙ unseen in
    let sized : length states ≡ length ss = w.placed.sized in
    let within : class_of classes i < length ss = slice_get_within ss (class_of classes i) s is in
    let in_states : class_of classes i < length states = omega arith in
    record {
      nearer =
          let less : owed (λ k. is_unseen (state_of then k)) ss + weight s ≡ owed (λ k. is_unseen (state_of states k)) ss =
          owed_less ss (class_of classes i) s (λ k. is_unseen (state_of states k)) (λ k. is_unseen (state_of then k)) is
          (ap is_unseen was)
          (ap (λ (v : List State). is_unseen (state_of v (class_of classes i))) written
          ∙ ap is_unseen (state_here states (class_of classes i) state.Open in_states))
          (λ k n. ap (λ (v : List State). is_unseen (state_of v k)) written
          ∙ ap is_unseen (state_there states (class_of classes i) k state.Open n)) in
          let grown : length after ≡ length ((tasks ++ task.Leave (class_of classes i) ∷ []) ++ map (λ a. task.Enter a) (places s)) = ap length pushed in
          let long = length-append (tasks ++ task.Leave (class_of classes i) ∷ []) (map (λ a. task.Enter a) (places s)) in
          let short = length-append tasks (task.Leave (class_of classes i) ∷ []) in
          let mapped : length (map (λ a. task.Enter a) (places s)) ≡ length (places s) = mapped_tasks (places s) in
          omega arith;
      walk =
          subst (λ (v : List State). IsWalk ss classes v now (reverse after)) (sym written)
          (subst (λ (v : List Shape). IsWalk ss classes (set states (class_of classes i) state.Open) v (reverse after)) (sym same)
          (subst (IsWalk ss classes (set states (class_of classes i) state.Open) solved) (sym (opened_tasks tasks after (class_of classes i) (places s) pushed))
          (walk_opened ss classes states solved i (class_of classes i) s (reverse (places s)) (reverse tasks) table inside refl is was
          (λ k a e. among_reversed (places s) a k e) (λ k a e. among_reverse (places s) a k e) w)));
    }

pub steps_placed : (ss : List Shape) (classes : List ℕ) (states : List State) (solved : List Shape) (i p : ℕ) (x : State)
    (tasks : List Task) → AreWithin ss classes → x ≡ get_or states (class_of classes i) x → x ≡ state.Placed p
    → IsWalk ss classes states solved (task.Enter i ∷ reverse tasks) → Steps ss classes states tasks states solved tasks None
steps_placed ss classes states solved i p x tasks inside read placed w = record {
  nearer = omega arith;
  walk = walk_placed ss classes states solved i p (reverse tasks)
      (sym (state_read ss classes states solved i x (reverse tasks) inside read w) ∙ placed) w;
}

pub steps_left : (ss : List Shape) (classes : List ℕ) (states : List State) (nodes : List Node) (now : List Shape) (r : ℕ) (s : Shape)
    (tasks : List Task) (then : List State) (after : List Task) → IsTable ss → AreWithin ss classes → slice_get ss r ≡ Some s
    → IsWalk ss classes states (map shape_of nodes) (task.Leave r ∷ reverse tasks) → then ≡ set states r (state.Placed (length nodes))
    → now ≡ map shape_of nodes ++ placed_shape states classes s ∷ [] → after ≡ tasks → Steps ss classes states tasks then now after None
steps_left ss classes states nodes now r s tasks then after table inside is w written pushed same =
    let sized : length states ≡ length ss = w.placed.sized in
    let within : r < length ss = slice_get_within ss r s is in
    let in_states : r < length states = omega arith in
    let count : length nodes ≡ length (map shape_of nodes) = sym (mapped_length shape_of nodes) in
    record {
      nearer =
          let flags : owed (λ k. is_unseen (state_of then k)) ss ≡ owed (λ k. is_unseen (state_of states k)) ss =
          owed_same ss (λ k. is_unseen (state_of states k)) (λ k. is_unseen (state_of then k))
          (λ k. ap (λ (v : List State). is_unseen (state_of v k)) written ∙
          elim (cases_eq k r) [
            | inl e ↦ subst (λ (j : ℕ). is_unseen (state_of (set states r (state.Placed (length nodes))) j) ≡ is_unseen (state_of states j)) (sym e)
                (ap is_unseen (state_here states r (state.Placed (length nodes)) in_states) ∙ sym (ap is_unseen w.opened.0))
            | inr n ↦ ap is_unseen (state_there states r k (state.Placed (length nodes)) n)
          ]) in
          let long : length after ≡ length tasks = ap length same in
          omega arith;
      walk =
          subst (λ (v : List Task). IsWalk ss classes then now (reverse v)) (sym same)
          (subst (λ (v : List State). IsWalk ss classes v now (reverse tasks)) (sym (written ∙ ap (λ (n : ℕ). set states r (state.Placed n)) count))
          (subst (λ (v : List Shape). IsWalk ss classes (set states r (state.Placed (length (map shape_of nodes)))) v (reverse tasks)) (sym pushed)
          (walk_left ss classes states (map shape_of nodes) r s (reverse tasks) table inside is w)));
    }

pub steps_nearer : (ss : List Shape) (states then : List State) (tasks popped after : List Task) (t : Task)
    → tasks ≡ popped ++ t ∷ [] → left_over ss then after ≤ left_over ss states popped
    → left_over ss then after < left_over ss states tasks
steps_nearer ss states then tasks popped after t is near =
    let grown : length tasks ≡ length (popped ++ t ∷ []) = ap length is in
    let long = length-append popped (t ∷ []) in
    omega arith
