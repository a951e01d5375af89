-- The changes from here on were written.
use Rattle.std.proofs.Common.{◌≡◌, ◌≤◌, length, drop}
use Rattle.cu_frozen.specs.Layers.{Amends, written}
use Rattle.cu_frozen.proofs.segment.Segment.follow_changes.Given as goal

abbrev pub invariant-loop-left : goal.invariant-loop-left
invariant-loop-left l = record {
  within : l.left ≤ length l.next-inside.changed.keys;
  amended : Amends l.fn.self l.self (λ graph. written graph (drop l.left l.next-inside.changed.keys) (drop l.left l.next-inside.changes));
  same : length l.self.added ≡ length l.fn.self.added;
}

abbrev pub decreases-loop-left : goal.decreases-loop-left
decreases-loop-left l = l.left
