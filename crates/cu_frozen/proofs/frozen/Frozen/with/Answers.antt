use Rattle.std.proofs.Common.{[]}
use Rattle.std.specs.Arc.{arc_value}
use Rattle.cu_frozen.specs.Layers.{laid}
use Rattle.cu_frozen.proofs.Stacks.{joins}
use Rattle.cu_frozen.proofs.frozen.Frozen.with.Goals as goal

pub follow-requires : goal.follow-requires
follow-requires c =
    joins (arc_value c.in-Some.last) c.in_ok-segment.segment c.loop-last.joined (laid [] c.pop_small.new.self) (laid [] c.loop-last.frozen)
    c.in_ok-segment.ensures c.in-Some.ensures.fits c.in-Some.ensures.graph c.loop-last.invariant.fits
