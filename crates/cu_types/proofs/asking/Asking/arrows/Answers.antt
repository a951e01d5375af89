use Rattle.std.proofs.Common.{◌≡◌, ◌+◌, ◌-◌, ◌<◌, ◌≤◌, arith}
use Rattle.cu_types.proofs.AskingLemmas.{arrows_end, arrows_step}
use Rattle.cu_types.proofs.asking.Asking.arrows.Goals as goal
use Rattle.cu_types.specs.Inside.Reading.{shapes}
use Rattle.cu_types.specs.Table.{at, trees}

pub loop-left-preserved : goal.loop-left-preserved
loop-left-preserved c =
    let some : 0 < c.loop-left.left = c.loop-left-test.true in
    let few : c.loop-left.left ≤ c.args.variables.count = c.loop-left.invariant.few in
    let next : c.loop-left.left ≡ (c.loop-left.left - 1) + 1 = omega arith in
    record {
      few = omega arith;
      adds = arrows_step c.args.self.now c.loop-left.self c.taking_variable.new.self c.args.variables.first c.loop-left.left (c.loop-left.left - 1)
          c.args.variables.count (at (trees (shapes c.args.self.now.reader)) c.args.place) c.loop-left.whole c.in_ok-whole.whole next few
          c.loop-left.invariant.adds c.in_ok-whole.ensures;
    }

pub returns : goal.returns
returns c =
    let none : c.loop-left.left ≤ 0 = c.loop-left-test.false in
    let zero : c.loop-left.left ≡ 0 = omega arith in
    arrows_end c.args.self.now c.loop-left.self c.args.variables.first c.loop-left.left c.args.variables.count c.args.place c.loop-left.whole
    (at (trees (shapes c.args.self.now.reader)) c.args.place) zero c.loop-left.invariant.adds
