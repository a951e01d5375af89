use Rattle.std.proofs.Common.{◌≡◌, ◌<◌, ℕ, List, Some, length, slice_get, subst, sym}
use Rattle.std.proofs.lemmas.Result.{IfOk-weaker}
use Rattle.std.specs.declared.alloc.Global.{Global}
use Rattle.std.specs.declared.vec.Vec.{Vec}
use Rattle.cu_calculus.specs.declared.FunId.{FunId}
use Rattle.cu_cycles.proofs.Places.{within}
use Rattle.cu_lift.proofs.Trails.{begins, begins_found, first_found, found_stays, not_missing}
use Rattle.cu_cycles.proofs.Rows.{as_many}
use Rattle.cu_cycles.specs.Graph.{Graph, rows_in}
use Rattle.cu_lift.specs.Inside.Trail.{Begins, IsTrail, Steps}
use Rattle.cu_lift.specs.declared.walks.Found.{Found}
use Rattle.cu_lift.proofs.walks.walk.Goals as goal

start_within : (rows : List (Vec ℕ Global)) (start : ℕ) → start < length rows → start < length (rows_in rows)
start_within rows start low = subst (λ (n : ℕ). start < n) (sym (as_many rows)) low

pub run-requires-clause-trail : goal.run-requires-clause-trail
run-requires-clause-trail c =
    let rows = c.args.graph.now in
    begins (rows_in rows) c.args.start (length rows) c.in_ok-spread.spread (start_within rows c.args.start c.requires.within) (sym (as_many rows)) c.in_ok-spread.ensures

pub trace-requires-clause-within : goal.trace-requires-clause-within
trace-requires-clause-within c =
    let at = c.in-Some.ensures.some in within c.run.new.self.found.items c.in-Some.place at.0 at.1

pub trace-requires-clause-falls : goal.trace-requires-clause-falls
trace-requires-clause-falls c i f e more = (c.in_ok-run.ensures.trail.link i f e more).before

pub unreachable-requires : goal.unreachable-requires
unreachable-requires c =
    let rows = c.args.graph.now in
    not_missing (rows_in rows) c.args.start c.args.end c.in_ok-spread.spread c.run.new.self (start_within rows c.args.start c.requires.within)
    (subst (λ (n : ℕ). Begins c.args.start n c.in_ok-spread.spread) (sym (as_many rows)) c.in_ok-spread.ensures)
    c.in_ok-run.ensures.grows c.in_ok-run.ensures.trail c.in_ok-run.ensures.done c.requires.reached c.in-None.ensures.none

pub returns : goal.returns
returns c =
    let rows = c.args.graph.now in
    let g = rows_in rows in
    let s = c.run.new.self in
    let at = c.in-Some.ensures.some in
    let first =
    found_stays c.in_ok-spread.spread s 0 (first_found c.args.start) c.in_ok-run.ensures.grows
    (begins_found c.args.start (length rows) c.in_ok-spread.spread c.in_ok-spread.ensures) in
    IfOk-weaker c.trace.result
    (λ (walk : Vec FunId Global). (h : Graph) (one last : Found) → IsTrail h s → slice_get s.found.items 0 ≡ Some one
    → slice_get s.found.items c.in-Some.place ≡ Some last → Steps h one.function walk.items last.function)
    (λ (walk : Vec FunId Global). Steps g c.args.start walk.items c.args.end)
    (λ walk steps.
    subst (λ (x : ℕ). Steps g c.args.start walk.items x) at.2 (steps g (first_found c.args.start) at.0 c.in_ok-run.ensures.trail first at.1))
    c.trace.ensures
