use Rattle.std.proofs.Common.{◌≡◌, ◌<◌, ◌≤◌, ◌+◌, ℕ, List, Some, true, inl, inr, get_or, length, slice_get, refl, subst, arith}
use Rattle.std.proofs.lemmas.Option.{slice_get-get_or, slice_get_read}
use Rattle.cu_cycles.proofs.Places.{before_or_not, one_element, within}
use Rattle.cu_cycles.proofs.Rows.{as_many}
use Rattle.cu_cycles.specs.Graph.{Edge, Graph, rows_in}
use Rattle.cu_lift.proofs.Trails.{found_stays, found_within, grows_on, meets, meets_grows, meets_target}
use Rattle.cu_lift.specs.declared.walks.Found.{Found}
use Rattle.cu_lift.proofs.walks.Spread.widen.Goals as goal

edge_at : (g : Graph) (u : ℕ) (row : List ℕ) (i : ℕ) → slice_get g u ≡ Some row → i < length row → Edge g u (get_or row i 0)
edge_at g u row i is low = record { row = row; is_row = is; place = i; is_there = slice_get-get_or row i 0 low }

one_more : (row : List ℕ) (i : ℕ) (P : ℕ → Type 0) → i < length row → ((k w : ℕ) → k < i → slice_get row k ≡ Some w → P w) → P (get_or row i 0)
    → (k w : ℕ) → k < i + 1 → slice_get row k ≡ Some w → P w
one_more row i P low before here k w less e = elim (before_or_not k i) [
  | inl under ↦ before k w under e
  | inr over ↦
      let at : k ≡ i = omega arith in
      let there : slice_get row i ≡ Some w = subst (λ (x : ℕ). slice_get row x ≡ Some w) at e in
      subst P (one_element row i (get_or row i 0) w (slice_get-get_or row i 0 low) there) here
]

pub targets_of-row-requires : goal.targets_of-row-requires
targets_of-row-requires c =
    let s = c.args.self.now in
    let at : slice_get s.found.items c.args.from ≡ Some c.index.result.now =
    slice_get_read s.found.items (length s.found.items) c.args.from c.index.result.now refl c.requires.within c.index.ensures in
    let low = found_within (rows_in c.args.graph.now) s c.args.from c.index.result.now c.requires.trail at in
    subst (λ (n : ℕ). c.index.result.now.function < n) (as_many c.args.graph.now) low

pub meet-requires : goal.meet-requires
meet-requires c =
    let g = rows_in c.args.graph.now in
    let i = c.loop-target.target-index in
    let row = c.targets_of-row.result.now in
    let low : i < length row = omega arith in
    let edge = edge_at g c.index.result.now.function row i c.targets_of-row.ensures low in
    let under = c.requires.whole.within c.index.result.now.function (get_or row i 0) edge in
    let size = c.loop-target.invariant.0.sized in
    omega arith

pub loop-target-preserved : goal.loop-target-preserved
loop-target-preserved c =
    let g = rows_in c.args.graph.now in
    let s = c.args.self.now in
    let now = c.loop-target.self in
    let new = c.meet.new.self in
    let i = c.loop-target.target-index in
    let row = c.targets_of-row.result.now in
    let low : i < length row = omega arith in
    let target = get_or row i 0 in
    let edge = edge_at g c.index.result.now.function row i c.targets_of-row.ensures low in
    let at : slice_get s.found.items c.args.from ≡ Some c.index.result.now =
    slice_get_read s.found.items (length s.found.items) c.args.from c.index.result.now refl c.requires.within c.index.ensures in
    let grows = meets_grows now new target c.args.from c.in_ok-meet.ensures in (
      meets g now new target c.args.from c.index.result.now c.loop-target.invariant.0
          (found_stays s now c.args.from c.index.result.now c.loop-target.invariant.1 at) edge c.in_ok-meet.ensures,
      grows_on s now new c.loop-target.invariant.1 grows,
      one_more row i (λ (w : ℕ). slice_get new.met.items w ≡ Some true) low
          (λ k w less e. grows.met w (c.loop-target.invariant.2 k w less e)) (meets_target now new target c.args.from c.in_ok-meet.ensures),
    )

pub returns-clause-done : goal.returns-clause-done
returns-clause-done c f w e edge =
    let g = rows_in c.args.graph.now in
    let s = c.args.self.now in
    let now = c.loop-target.self in
    let row = c.targets_of-row.result.now in
    let at : slice_get s.found.items c.args.from ≡ Some c.index.result.now =
    slice_get_read s.found.items (length s.found.items) c.args.from c.index.result.now refl c.requires.within c.index.ensures in
    let there = found_stays s now c.args.from c.index.result.now c.loop-target.invariant.1 at in
    let same : f ≡ c.index.result.now = one_element now.found.items c.args.from f c.index.result.now e there in
    let its_row : slice_get g c.index.result.now.function ≡ Some edge.row =
    subst (λ (x : Found). slice_get g x.function ≡ Some edge.row) same edge.is_row in
    let one : edge.row ≡ row = one_element g c.index.result.now.function edge.row row its_row c.targets_of-row.ensures in
    let target : slice_get row edge.place ≡ Some w = subst (λ (xs : List ℕ). slice_get xs edge.place ≡ Some w) one edge.is_there in
    let all : edge.place < length row = within row edge.place w target in
    let end : length row ≤ c.loop-target.target-index = omega arith in
    c.loop-target.invariant.2 edge.place w (omega arith) target
