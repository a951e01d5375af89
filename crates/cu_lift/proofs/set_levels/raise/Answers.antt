use Rattle.std.proofs.Common.{rules, ◌≡◌, ◌<◌, ◌≤◌, get_or, length, arith}
use Rattle.std.proofs.lemmas.Option.{slice_get-get_or}
use Rattle.cu_calculus.specs.declared.FunId.{FunId}
use Rattle.cu_lift.proofs.Demands.{raised_all, raised_first, raised_next}
use Rattle.cu_lift.proofs.set_levels.raise.Goals as goal

abbrev none : FunId
none = record { 0 = 0 }

pub loop-function-init : goal.loop-function-init
loop-function-init c = raised_first c.args.members.now c.args.level c.args.levels.now.items

pub index_mut-requires : goal.index_mut-requires
index_mut-requires c =
    let i = c.loop-function.function-index in
    let members = c.args.members.now in
    let low : i < length members = omega arith in
    let first = c.requires i (get_or members i none) (slice_get-get_or members i none low) in
    let sized = c.loop-function.invariant.sized in
    let size : Rattle.std.specs.Vec.vec_len c.loop-function.levels ≡ length c.loop-function.levels.items = search rules in
    omega arith

pub loop-function-preserved : goal.loop-function-preserved
loop-function-preserved c =
    let i = c.loop-function.function-index in
    let members = c.args.members.now in
    let low : i < length members = omega arith in
    let first = c.requires i (get_or members i none) (slice_get-get_or members i none low) in
    let sized = c.loop-function.invariant.sized in
    raised_next members c.args.level i c.args.levels.now.items c.loop-function.levels.items (get_or members i none) c.loop-function.invariant
    (slice_get-get_or members i none low) (omega arith)

pub returns : goal.returns
returns c =
    let end : length c.args.members.now ≤ c.loop-function.function-index = omega arith in
    raised_all c.args.members.now c.args.level c.loop-function.function-index c.args.levels.now.items c.loop-function.levels.items end
    c.loop-function.invariant
