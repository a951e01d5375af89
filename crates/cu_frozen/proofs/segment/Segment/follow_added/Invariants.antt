-- So many nodes were added.
use Rattle.std.proofs.Common.{◌≡◌, ◌+◌, ◌++◌, length, take}
use Rattle.cu_frozen.specs.Layers.{Amends}
use Rattle.cu_frozen.proofs.segment.Segment.follow_added.Given as goal

abbrev pub invariant-loop-place : goal.invariant-loop-place
invariant-loop-place l = record {
  amended : Amends l.fn.self l.self (λ graph. graph ++ take l.place l.next-inside.added);
  more : length l.self.added ≡ length l.fn.self.added + l.place;
}
