use Rattle.std.proofs.Common.{◌≡◌, ◌++◌, drop}
use Rattle.cu_syntax.specs.Owners.{PatItemsAreOf}
use Rattle.cu_translation.specs.Meaning.{Setting}
use Rattle.cu_faults.specs.Inside.Patterns.{pieces_after, pieces_of}
use Rattle.cu_faults.proofs.clashes.pieces.Given as goal

abbrev pub invariant-loop-item : goal.invariant-loop-item
invariant-loop-item g l =
    (w : Setting) → g.A.Surroundings.tells l.around w → PatItemsAreOf w.owner w.names l.items
    → l.found.items ++ pieces_after w (drop l.item-index l.items.rest.items) ≡ pieces_of w l.items
