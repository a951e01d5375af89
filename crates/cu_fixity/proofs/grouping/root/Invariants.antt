-- What was found so far, and what is left of the range, give what the whole range gives.
use Rattle.std.proofs.Common.{◌≡◌, ◌-◌, ◌<◌, ◌≤◌, IfSome, None}
use Rattle.cu_fixity.specs.Pieces.{fixity_at, items_of}
use Rattle.cu_fixity.specs.Ranges.{between, candidate, root}
use Rattle.cu_fixity.proofs.grouping.root.Given as goal

abbrev pub invariant-loop-n : goal.invariant-loop-n
invariant-loop-n l = record {
  rises : l.from ≤ l.n;
  ends : l.n ≤ l.to;
  within : IfSome l.best (λ k. (l.from ≤ k) × (k < l.n));
  same : root (fixity_at l.pieces) l.n (candidate l.best) (between l.n l.to (items_of l.pieces))
      ≡ root (fixity_at l.pieces) l.from None (between l.from l.to (items_of l.pieces));
}

abbrev pub decreases-loop-n : goal.decreases-loop-n
decreases-loop-n l = l.to - l.n
