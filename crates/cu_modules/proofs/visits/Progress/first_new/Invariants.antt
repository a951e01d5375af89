use Rattle.std.proofs.Common.{ℕ, List, length}
use Rattle.std.specs.List.{All}
use Rattle.std.specs.Vec.Iter.{into_iter_items}
use Rattle.cu_modules.specs.Inside.Frames.{Skipped}
use Rattle.cu_modules.specs.Reading.{HasModule}
use Rattle.cu_names.specs.Texts.{AllDiffer, IsKnown}
use Rattle.cu_modules.proofs.visits.Progress.first_new.Given as goal

abbrev pub invariant-left : goal.invariant-left
invariant-left l = (names : List (List ℕ)) → AllDiffer names → All (HasModule names) l.self.done.items → All (IsKnown names) (into_iter_items l.fn.left) → Skipped names l.self.done.items (into_iter_items l.fn.left) (into_iter_items l.left)

abbrev pub decreases-left : goal.decreases-left
decreases-left l = length (into_iter_items l.left)
