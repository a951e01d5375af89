-- What was joined, over the segments that are left, comes to the whole.
use Rattle.std.proofs.Common.{◌≡◌, [], length}
use Rattle.cu_frozen.specs.Layers.{laid, over}
use Rattle.cu_frozen.proofs.frozen.Frozen.with.Given as goal

abbrev pub invariant-loop-last : goal.invariant-loop-last
invariant-loop-last l = record {
  fits : length (laid [] l.frozen) ≡ l.joined.base;
  same : over l.joined (laid [] l.frozen) ≡ over l.fn.newest (laid [] l.fn.self);
}

abbrev pub decreases-loop-last : goal.decreases-loop-last
decreases-loop-last l = length l.frozen
