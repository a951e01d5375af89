use Rattle.std.proofs.Common.{◌≡◌, ◌<◌, ◌≤◌, get_or, length, slice_get, Some, List, subst, sym, arith}
use Rattle.std.proofs.lemmas.Option.{slice_get-get_or}
use Rattle.cu_calculus.specs.declared.FunId.{FunId}
use Rattle.cu_lift.proofs.Edges.{as_many_targets, mention_edge}
use Rattle.cu_lift.proofs.Demands.{demands_all, demands_first, demands_next}
use Rattle.cu_lift.specs.Inside.Levelling.{IsDemand, Mentioned}
use Rattle.cu_lift.specs.Inside.MentionsOf.{targets_in}
use Rattle.cu_lift.specs.declared.mentions.Mention.{Mention}
use Rattle.cu_lift.proofs.set_levels.demands.Goals as goal

abbrev none : FunId
none = record { 0 = 0 }

pub loop-function-init : goal.loop-function-init
loop-function-init c = demands_first c.args.graph.now c.args.levels.now c.args.members.now

pub row_of-row-requires : goal.row_of-row-requires
row_of-row-requires c =
    let i = c.loop-function.function-index in
    let members = c.args.members.now in
    let low : i < length members = omega arith in
    c.requires.within i (get_or members i none) (slice_get-get_or members i none low)

pub row_demand-level-requires-clause-within : goal.row_demand-level-requires-clause-within
row_demand-level-requires-clause-within c k m e =
    let i = c.loop-function.function-index in
    let f = get_or c.args.members.now i none in
    let is = c.row_of-row.ensures in
    let mentioned : Mentioned c.args.graph.now f.0 m = record {
      row = is.0;
      is_row = is.1;
      place = k;
      is_there = subst (λ (x : List Mention). slice_get x k ≡ Some m) (sym is.2) e;
    } in
    let low = c.requires.whole.within f.0 m.function.0 (mention_edge c.args.graph.now f.0 m mentioned) in
    let many : length (targets_in c.args.graph.now) ≡ length c.args.graph.now = as_many_targets c.args.graph.now in
    let size = c.requires.sized in
    omega arith

pub loop-function-preserved : goal.loop-function-preserved
loop-function-preserved c =
    let i = c.loop-function.function-index in
    let members = c.args.members.now in
    let low : i < length members = omega arith in
    let is = c.row_of-row.ensures in
    demands_next c.args.graph.now c.args.levels.now members c.loop-function.level c.row_demand-level.result i (get_or members i none) is.0
    c.loop-function.invariant (slice_get-get_or members i none low) is.1
    (subst (λ (x : List Mention). IsDemand c.args.levels.now x c.loop-function.level c.row_demand-level.result) (sym is.2) c.row_demand-level.ensures)

pub returns : goal.returns
returns c =
    let end : length c.args.members.now ≤ c.loop-function.function-index = omega arith in
    demands_all c.args.graph.now c.args.levels.now c.args.members.now c.loop-function.level c.loop-function.function-index end c.loop-function.invariant
