use Rattle.std.proofs.Common.{◌≡◌, ◌+◌, ◌-◌, ◌<◌, ◌≤◌, arith}
use Rattle.cu_types.proofs.GrowingLemmas.{taken_end, taken_start, taken_step}
use Rattle.cu_types.proofs.unification.Subst.arrows.Goals as goal
use Rattle.cu_types.specs.Meaning.{types_of_subst}
use Rattle.cu_types.specs.Table.{at, trees}

pub loop-left-init : goal.loop-left-init
loop-left-init c = record {
  few = omega arith;
  grows = taken_start c.args.self.now c.args.first c.args.count c.args.place c.requires.table c.requires.places c.requires.within;
}

pub taking-requires-clause-table : goal.taking-requires-clause-table
taking-requires-clause-table c = c.loop-left.invariant.grows.table

pub taking-requires-clause-places : goal.taking-requires-clause-places
taking-requires-clause-places c = c.loop-left.invariant.grows.places

pub taking-requires-clause-within : goal.taking-requires-clause-within
taking-requires-clause-within c = c.loop-left.invariant.grows.within

pub loop-left-preserved : goal.loop-left-preserved
loop-left-preserved c =
    let some : 0 < c.loop-left.left = c.loop-left-test.true in
    let few : c.loop-left.left ≤ c.args.count = c.loop-left.invariant.few in
    let next : c.loop-left.left ≡ (c.loop-left.left - 1) + 1 = omega arith in
    record {
      few = omega arith;
      grows = taken_step c.args.self.now c.loop-left.self c.taking.new.self c.args.first c.loop-left.left (c.loop-left.left - 1)
          c.args.count (at (trees (types_of_subst c.args.self.now)) c.args.place) c.loop-left.whole c.in_ok-whole.whole next few
          c.loop-left.invariant.grows c.in_ok-whole.ensures;
    }

pub returns : goal.returns
returns c =
    let none : c.loop-left.left ≤ 0 = c.loop-left-test.false in
    let zero : c.loop-left.left ≡ 0 = omega arith in
    taken_end c.args.self.now c.loop-left.self c.args.first c.loop-left.left c.args.count c.loop-left.whole
    (at (trees (types_of_subst c.args.self.now)) c.args.place) zero c.loop-left.invariant.grows
