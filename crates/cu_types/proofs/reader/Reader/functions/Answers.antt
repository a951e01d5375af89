use Rattle.std.proofs.Common.{◌<◌, ◌≤◌, length, map, refl, arith}
use Rattle.cu_types.proofs.BuiltInLemmas.{prefix_within, functions_end, functions_step, last_within, read_nothing, reads_over}
use Rattle.cu_types.proofs.Unfolding.{longer}
use Rattle.cu_types.proofs.reader.Reader.functions.Goals as goal
use Rattle.cu_types.specs.BuiltInTypes.{arrows}
use Rattle.cu_types.specs.Inside.Reading.{shapes}
use Rattle.cu_types.specs.Table.{at, trees}

pub loop-argument-init : goal.loop-argument-init
loop-argument-init c = record {
  reader = c.requires.reader;
  within = c.requires.arguments;
  read = read_nothing (shapes c.args.self.now) c.args.value c.requires.value;
  gives = refl;
}

pub arrow-requires-clause-left : goal.arrow-requires-clause-left
arrow-requires-clause-left c =
    let inside : c.in-Some.argument < length (shapes c.args.self.now) =
    last_within c.loop-argument.left.items c.pop.new.self.items c.in-Some.argument (length (shapes c.args.self.now)) c.in-Some.ensures.items
    c.loop-argument.invariant.within in
    let long : length (shapes c.args.self.now) ≤ length (shapes c.loop-argument.self) =
    longer (shapes c.args.self.now) (shapes c.loop-argument.self) c.loop-argument.invariant.read.more c.loop-argument.invariant.read.extends in
    omega (arith, inside, long)

pub arrow-requires-clause-right : goal.arrow-requires-clause-right
arrow-requires-clause-right c = c.loop-argument.invariant.read.within

pub loop-argument-preserved : goal.loop-argument-preserved
loop-argument-preserved c = record {
  reader = c.in_ok-whole.ensures.reader;
  within = prefix_within c.loop-argument.left.items c.pop.new.self.items c.in-Some.argument (length (shapes c.args.self.now))
      c.in-Some.ensures.items c.loop-argument.invariant.within;
  read = reads_over (shapes c.args.self.now) (shapes c.loop-argument.self) (shapes c.arrow.new.self) c.loop-argument.invariant.read.more
      (at (trees (shapes c.arrow.new.self)) c.in_ok-whole.whole) (at (trees (shapes c.arrow.new.self)) c.in_ok-whole.whole)
      c.in_ok-whole.whole c.loop-argument.invariant.read.extends refl
      (record { more = c.in_ok-whole.ensures.read.more; extends = c.in_ok-whole.ensures.read.extends; within = c.in_ok-whole.ensures.read.within; value = refl });
  gives = functions_step (shapes c.args.self.now) (shapes c.loop-argument.self) (shapes c.arrow.new.self) c.loop-argument.left.items
      c.pop.new.self.items c.in-Some.argument c.loop-argument.whole c.in_ok-whole.whole
      (arrows (map (at (trees (shapes c.args.self.now))) c.args.arguments.items) (at (trees (shapes c.args.self.now)) c.args.value))
      c.in-Some.ensures.items c.loop-argument.invariant.within c.loop-argument.invariant.read c.loop-argument.invariant.gives
      c.in_ok-whole.ensures.read;
}

pub returns-clause-read : goal.returns-clause-read
returns-clause-read c =
    functions_end (shapes c.args.self.now) (shapes c.loop-argument.self) c.loop-argument.left.items c.loop-argument.whole
    (arrows (map (at (trees (shapes c.args.self.now))) c.args.arguments.items) (at (trees (shapes c.args.self.now)) c.args.value))
    (omega (arith, c.loop-argument.left.ok.0, c.in_default.ensures.cases.0)) c.loop-argument.invariant.read c.loop-argument.invariant.gives
