-- From classes that are closed and in order to a most general solution, and from a clash of shapes or a cycle to a clash.
use Rattle.std.proofs.Common.{◌≡◌, ℕ, suc, ◌+◌, ◌<◌, ◌≤◌, List, [], ◌∷◌, Some, length, map, option_map, replicate, reverse, get_or, slice_get, refl, sym, ap, ◌∙◌, subst, arith}
use Rattle.std.proofs.lemmas.List.{get_or-map}
use Rattle.std.proofs.lemmas.Option.{slice_get-get_or, slice_get-map, slice_get_within}
use Rattle.cu_kernel.specs.TypeExpr.{TypeExpr}
use Rattle.cu_types.proofs.ClosingLemmas.{closing_ends}
use Rattle.cu_types.proofs.Joins.{place_within}
use Rattle.cu_types.proofs.TableLemmas.{built_arguments, built_head, mapped_length, mapped_twice, trees_fit}
use Rattle.cu_types.proofs.Unfolding.{longer}
use Rattle.cu_types.proofs.Unifying.{applied_arguments, applied_head, unified}
use Rattle.cu_types.proofs.Walks.{over_same, placed_general, placed_within, walk_starts}
use Rattle.cu_types.specs.Inside.Classes.{IsForest, Represents}
use Rattle.cu_types.specs.Inside.Closing.{ClosesOr, Each, IsAlike, IsApart, IsClosed, IsWithin, Joins, Meet, PairIsEqual}
use Rattle.cu_types.specs.Inside.Cycles.{Unfolds, size}
use Rattle.cu_types.specs.Inside.Ordering.{AreFixed, AreWithin, IsPlaced, IsWalk, Respects, class_of, place_of, state_of, value_of}
use Rattle.cu_types.specs.Inside.Solving.{ArrangesOr, IsArranged, IsCollision, IsSolution, SolvesOr, solved_at}
use Rattle.cu_types.specs.Table as shape
use Rattle.cu_types.specs.Table.{IsFull, IsTable, Shape, at, built, places, shape_of, tree_over, trees}
use Rattle.cu_types.specs.Types.{Substitution, apply, arguments, head_of}
use Rattle.cu_types.specs.Unification as made
use Rattle.cu_types.specs.Unification.{Equation, IsClash, MadeEqual, Solves}
use Rattle.cu_types.specs.declared.classes.Classes.{Classes}
use Rattle.cu_types.specs.declared.closing.Outcome.{Outcome}
use Rattle.cu_types.specs.declared.closing.Outcome.TheVariants as outcome
use Rattle.cu_types.specs.declared.node.Node.{Node}
use Rattle.cu_types.specs.declared.node.TypeHead.{TypeHead}
use Rattle.cu_types.specs.declared.order.Task.{Task}
use Rattle.cu_types.specs.declared.order.Task.TheVariants as task
use Rattle.cu_types.specs.declared.solve.Solved.{Solved}
use Rattle.cu_types.specs.declared.solve.Solved.TheVariants as outcomes
use Rattle.cu_types.specs.declared.order.State.{State}
use Rattle.cu_types.specs.declared.order.State.TheVariants as state
use Rattle.cu_types.specs.declared.pair.Pair.{Pair}

pub each_both : (P Q R : Pair → Type 0) (ps : List Pair) → ((p : Pair) → P p → Q p → R p) → Each P ps → Each Q ps → Each R ps
each_both P Q R [] both ps qs = tt
each_both P Q R (p ∷ rest) both ps qs = (both p ps.0 qs.0, each_both P Q R rest both ps.1 qs.1)

-- what a type becomes is the type of its class
becomes : (ss : List Shape) (classes found : List ℕ) (solved : List Shape) (a : IsArranged ss classes found solved) (k : ℕ)
    → k < length ss → solved_at found solved k ≡ value_of solved a.states (class_of classes k)
becomes ss classes found solved a k within = ap (at (trees solved)) (a.stands k within)

-- the type of a class is that of each shape in it
class_value : (ss : List Shape) (classes : List ℕ) (states : List State) (solved : List Shape) (k : ℕ) (v : State) (h : TypeHead)
    (ps : List ℕ) (t : Shape) → AreFixed ss classes states solved → slice_get ss (class_of classes k) ≡ Some t
    → state_of states (class_of classes k) ≡ v → IsPlaced v → IsAlike (class_of classes) (shape.Applied h ps) t
    → value_of solved states (class_of classes k) ≡ built h (map (λ a. value_of solved states (class_of classes a)) ps)
class_value ss classes states solved k v h ps (shape.Variable x) fixed at_class is placed alike = absurd alike
class_value ss classes states solved k state.Unseen h ps (shape.Applied g qs) fixed at_class is placed alike = absurd placed
class_value ss classes states solved k state.Open h ps (shape.Applied g qs) fixed at_class is placed alike = absurd placed
class_value ss classes states solved k (state.Placed p) h ps (shape.Applied g qs) fixed at_class is placed alike =
    ap (λ (v : State). at (trees solved) (place_of v)) is
    ∙ (fixed.fixed (class_of classes k) p (shape.Applied g qs) at_class is).value
    ∙ ap (λ (i : TypeHead). built i (map (λ a. value_of solved states (class_of classes a)) qs)) (sym alike.0)
    ∙ ap (built h) (sym (mapped_twice (value_of solved states) (class_of classes) qs)
    ∙ ap (map (value_of solved states)) (sym alike.1) ∙ mapped_twice (value_of solved states) (class_of classes) ps)

pub arranged_solution : (equations : List Equation) (ss : List Shape) (given : List Pair) (classes found : List ℕ) (solved : List Shape)
    → IsTable ss → Each (IsWithin (length ss)) given → IsClosed equations ss given classes → IsArranged ss classes found solved
    → IsSolution equations ss given found solved
arranged_solution equations ss given classes found solved table inside closed a = record {
  sized = a.sized;
  table = a.fixed.table;
  within = λ k lt. subst (λ (p : ℕ). p < length solved) (sym (a.stands k lt))
      (placed_within ss classes a.states solved (class_of classes k) (state_of a.states (class_of classes k)) a.fixed
      (closed.within k lt) refl (a.placed k lt));
  joins = each_both (IsWithin (length ss)) (Joins (class_of classes))
      (λ p. solved_at found solved p.left ≡ solved_at found solved p.right) given
      (λ p lt same. becomes ss classes found solved a p.left lt.0 ∙ ap (value_of solved a.states) same
      ∙ sym (becomes ss classes found solved a p.right lt.1))
      inside closed.joins;
  over = λ k h ps is.
      let within : k < length ss = slice_get_within ss k (shape.Applied h ps) is in
      let at_class : slice_get ss (class_of classes k) ≡ Some (get_or ss (class_of classes k) (shape.Variable 0)) =
      slice_get-get_or ss (class_of classes k) (shape.Variable 0) (closed.within k within) in
      becomes ss classes found solved a k within
      ∙ class_value ss classes a.states solved k (state_of a.states (class_of classes k)) h ps (get_or ss (class_of classes k) (shape.Variable 0))
      a.fixed at_class refl (a.placed k within)
      (closed.alike k (shape.Applied h ps) (get_or ss (class_of classes k) (shape.Variable 0)) is at_class)
      ∙ over_same (shape.Applied h ps) (λ b. value_of solved a.states (class_of classes b)) (solved_at found solved)
      (λ j b e. sym (becomes ss classes found solved a b (place_within ss k (shape.Applied h ps) j b table is e)));
  general = λ τ solves k lt.
      let respects : Respects ss classes τ = λ j below.
      unified equations τ solves (at (trees ss) j) (at (trees ss) (class_of classes j)) (closed.sound j below) in
      ap (apply τ) (becomes ss classes found solved a k lt)
      ∙ placed_general ss classes a.states solved (class_of classes k) (state_of a.states (class_of classes k)) τ respects a.fixed
      (closed.within k lt) refl (a.placed k lt)
      ∙ sym (respects k lt);
}

-- shapes that don't meet
unlike_apart : (ss : List Shape) (i j : ℕ) (s t : Shape) (σ : Substitution) → IsTable ss → slice_get ss i ≡ Some s
    → slice_get ss j ≡ Some t → apply σ (at (trees ss) i) ≡ apply σ (at (trees ss) j) → Meet s t
unlike_apart ss i j (shape.Variable x) t σ table p q same = tt
unlike_apart ss i j (shape.Applied h ps) (shape.Variable y) σ table p q same = tt
unlike_apart ss i j (shape.Applied h ps) (shape.Applied g qs) σ table p q same =
    let left : at (trees ss) i ≡ built h (map (at (trees ss)) ps) = trees_fit ss i (shape.Applied h ps) table p in
    let right : at (trees ss) j ≡ built g (map (at (trees ss)) qs) = trees_fit ss j (shape.Applied g qs) table q in
    let full_left : IsFull h (length (map (at (trees ss)) ps)) =
    subst (IsFull h) (sym (mapped_length (at (trees ss)) ps)) (table.stand i (shape.Applied h ps) p).0 in
    let full_right : IsFull g (length (map (at (trees ss)) qs)) =
    subst (IsFull g) (sym (mapped_length (at (trees ss)) qs)) (table.stand j (shape.Applied g qs) q).0 in
    let head_left : head_of (at (trees ss) i) ≡ Some h = ap head_of left ∙ built_head h (map (at (trees ss)) ps) full_left in
    let head_right : head_of (at (trees ss) j) ≡ Some g = ap head_of right ∙ built_head g (map (at (trees ss)) qs) full_right in
    let heads : Some g ≡ Some h =
    sym (applied_head σ (at (trees ss) j) g head_right) ∙ sym (ap head_of same) ∙ applied_head σ (at (trees ss) i) h head_left in
    let count_left : length (arguments (apply σ (at (trees ss) i))) ≡ length ps =
    ap length (applied_arguments σ (at (trees ss) i) h head_left) ∙ mapped_length (apply σ) (arguments (at (trees ss) i))
    ∙ ap (λ (t : TypeExpr). length (arguments t)) left ∙ ap length (built_arguments h (map (at (trees ss)) ps) full_left)
    ∙ mapped_length (at (trees ss)) ps in
    let count_right : length (arguments (apply σ (at (trees ss) j))) ≡ length qs =
    ap length (applied_arguments σ (at (trees ss) j) g head_right) ∙ mapped_length (apply σ) (arguments (at (trees ss) j))
    ∙ ap (λ (t : TypeExpr). length (arguments t)) right ∙ ap length (built_arguments g (map (at (trees ss)) qs) full_right)
    ∙ mapped_length (at (trees ss)) qs in
    let one : g ≡ h = cc in
    (one, sym count_right ∙ sym (ap (λ (t : TypeExpr). length (arguments t)) same) ∙ count_left)

pub apart_collides : (equations : List Equation) (ss : List Shape) (p : Pair) → IsTable ss → IsApart equations ss p
    → IsCollision equations ss p
apart_collides equations ss p table a =
    let left : slice_get ss p.left ≡ Some (get_or ss p.left (shape.Variable 0)) = slice_get-get_or ss p.left (shape.Variable 0) a.within.0 in
    let right : slice_get ss p.right ≡ Some (get_or ss p.right (shape.Variable 0)) = slice_get-get_or ss p.right (shape.Variable 0) a.within.1 in
    record {
      table = table;
      within = a.within;
      clash = record {
        made_equal = a.equal;
        apart = λ σ same. a.apart (get_or ss p.left (shape.Variable 0)) (get_or ss p.right (shape.Variable 0)) left right
            (unlike_apart ss p.left p.right (get_or ss p.left (shape.Variable 0)) (get_or ss p.right (shape.Variable 0)) σ table left right same);
      };
    }

pub cycle_collides : (equations : List Equation) (ss : List Shape) (given : List Pair) (classes : List ℕ) (now : List Shape) (p : Pair)
    → p.left < length ss → IsClosed equations ss given classes → Unfolds ss classes p.left now p.right → IsCollision equations now p
cycle_collides equations ss given classes now p first closed u = record {
  table = u.table;
  within = (let long : length ss ≤ length now = longer ss now u.more u.extends in omega arith, u.within);
  clash = record {
    made_equal = u.equal equations closed.sound;
    apart = λ σ same.
        let larger : size (apply σ (at (trees now) p.left)) < size (apply σ (at (trees now) p.right)) = u.larger σ in
        let equal : size (apply σ (at (trees now) p.left)) ≡ size (apply σ (at (trees now) p.right)) = ap size same in
        omega arith;
  };
}

-- the equations that pairs are by themselves
abbrev pub equation_at : List TypeExpr → Pair → Equation
equation_at ts p = record { left = at ts p.left; right = at ts p.right }

abbrev pub own_equations : List TypeExpr → List Pair → List Equation
own_equations ts ps = map (equation_at ts) ps

own_from : (ts : List TypeExpr) (all ps : List Pair) (n : ℕ) → ((k : ℕ) (p : Pair) → slice_get ps k ≡ Some p → slice_get all (n + k) ≡ Some p)
    → Each (PairIsEqual (own_equations ts all) ts) ps
own_from ts all [] n there = tt
own_from ts all (p ∷ ps) n there =
    let at_n : slice_get all (n + 0) ≡ Some p = there 0 p refl in (
      made.given (n + 0) (equation_at ts p) (slice_get-map (equation_at ts) all (n + 0) ∙ ap (option_map (equation_at ts)) at_n),
      own_from ts all ps (n + 1) (λ k q e.
          let same : (n + 1) + k ≡ n + suc k = omega arith in
          ap (slice_get all) same ∙ there (suc k) q e),
    )

pub own_hold : (ts : List TypeExpr) (ps : List Pair) → Each (PairIsEqual (own_equations ts ps) ts) ps
own_hold ts ps = own_from ts ps ps 0 (λ k p e. let same : 0 + k ≡ k = omega arith in ap (slice_get ps) same ∙ e)

-- the walk has placed all classes
pub all_arranged : (ss : List Shape) (classes found : List ℕ) (states : List State) (made : List Shape) → AreWithin ss classes
    → ((k : ℕ) → k < length ss → class_of classes (class_of classes k) ≡ class_of classes k) → AreFixed ss classes states made
    → ((k : ℕ) → k < length ss → IsPlaced (state_of states (class_of classes k)))
    → found ≡ map (λ a. place_of (state_of states (class_of classes a))) classes → IsArranged ss classes found made
all_arranged ss classes found states made inside twice fixed placed is = record {
  states = states;
  sized = ap length is ∙ mapped_length (λ a. place_of (state_of states (class_of classes a))) classes ∙ inside.sized;
  fixed = fixed;
  placed = placed;
  stands = λ k lt.
      let sized : length classes ≡ length ss = inside.sized in
      ap (λ (xs : List ℕ). get_or xs k 0) is
      ∙ get_or-map (λ a. place_of (state_of states (class_of classes a))) classes k 0 0 (omega arith)
      ∙ ap (λ (c : ℕ). place_of (state_of states c)) (twice k lt);
}

-- what closing gives

pub closes : (nodes slice : List Node) (given : List Pair) (o p : Outcome) → slice ≡ nodes → o ≡ p
    → ((equations : List Equation) → Each (PairIsEqual equations (trees (map shape_of slice))) given
    → ClosesOr equations (map shape_of slice) given o)
    → (equations : List Equation) → Each (PairIsEqual equations (trees (map shape_of nodes))) given
    → ClosesOr equations (map shape_of nodes) given p
closes nodes slice given o p same is all equations hold =
    subst (ClosesOr equations (map shape_of nodes) given) is
    (subst (λ (ns : List Node). ClosesOr equations (map shape_of ns) given o) same
    (all equations (subst (λ (ns : List Node). Each (PairIsEqual equations (trees (map shape_of ns))) given) (sym same) hold)))

pub closed_classes : (ss : List Shape) (given : List Pair) (classes : Classes) (found : List ℕ) → IsTable ss
    → ((equations : List Equation) → Each (PairIsEqual equations (trees ss)) given → ClosesOr equations ss given (outcome.Closed classes))
    → length found ≡ length classes.parents.items
    → ((class : ℕ → ℕ) → Represents classes.parents.items class → (k : ℕ) → k < length classes.parents.items → get_or found k 0 ≡ class k)
    → (equations : List Equation) → Each (PairIsEqual equations (trees ss)) given → IsClosed equations ss given found
closed_classes ss given classes found table all listed represents equations hold =
    let it = all equations hold in
    let sized : length classes.parents.items ≡ length ss = it.1 in
    closing_ends equations ss given classes.parents.items found it.2.0 table sized (listed ∙ sized)
    (λ k lt. represents it.2.0 it.2.1.represents k (omega arith)) it.2.1

pub closed_forest : (ss : List Shape) (given : List Pair) (classes : Classes)
    → ((equations : List Equation) → Each (PairIsEqual equations (trees ss)) given → ClosesOr equations ss given (outcome.Closed classes))
    → IsForest classes.parents.items classes.ranks.items
closed_forest ss given classes all = (all (own_equations (trees ss) given) (own_hold (trees ss) given)).0

pub closed_within : (ss : List Shape) (given : List Pair) (found : List ℕ)
    → ((equations : List Equation) → Each (PairIsEqual equations (trees ss)) given → IsClosed equations ss given found) → AreWithin ss found
closed_within ss given found all =
    let it = all (own_equations (trees ss) given) (own_hold (trees ss) given) in
    record { sized = it.sized; within = it.within }

pub closed_fixed : (ss : List Shape) (given : List Pair) (found : List ℕ)
    → ((equations : List Equation) → Each (PairIsEqual equations (trees ss)) given → IsClosed equations ss given found)
    → (k : ℕ) → k < length ss → class_of found (class_of found k) ≡ class_of found k
closed_fixed ss given found all = (all (own_equations (trees ss) given) (own_hold (trees ss) given)).fixed

pub arranges_solves : (equations : List Equation) (ss : List Shape) (given : List Pair) (classes : List ℕ) (s : Solved) → IsTable ss
    → Each (IsWithin (length ss)) given → IsClosed equations ss given classes → ArrangesOr ss classes s → SolvesOr equations ss given s
arranges_solves equations ss given classes (outcomes.Solution found nodes) table inside closed a =
    arranged_solution equations ss given classes found.items (map shape_of nodes.items) table inside closed a
arranges_solves equations ss given classes (outcomes.Clash nodes p) table inside closed a =
    cycle_collides equations ss given classes (map shape_of nodes.items) p a.0 closed a.1

pub walk_started : (ss : List Shape) (classes : List ℕ) (states : List State) (made : List Node) (tasks : List Task) → AreWithin ss classes
    → ((k : ℕ) → k < length ss → class_of classes (class_of classes k) ≡ class_of classes k)
    → states ≡ replicate (length classes) state.Unseen → tasks ≡ map (λ a. task.Enter a) classes → made ≡ []
    → IsWalk ss classes states (map shape_of made) (reverse tasks)
walk_started ss classes states made tasks inside fixed is_states is_tasks none =
    subst (λ (v : List State). IsWalk ss classes v (map shape_of made) (reverse tasks)) (sym is_states)
    (subst (λ (v : List Task). IsWalk ss classes (replicate (length classes) state.Unseen) (map shape_of made) (reverse v)) (sym is_tasks)
    (subst (λ (v : List Node). IsWalk ss classes (replicate (length classes) state.Unseen) (map shape_of v) (reverse (map (λ a. task.Enter a) classes)))
    (sym none) (walk_starts ss classes inside fixed)))
