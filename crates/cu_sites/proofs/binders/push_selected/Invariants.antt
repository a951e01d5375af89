use Rattle.std.proofs.Common.{List, drop, map}
use Rattle.cu_translation.specs.LocalNames.{Selected}
use Rattle.cu_translation.specs.Meaning.{position_meaning}
use Rattle.cu_translation.specs.declared.local_names.Binder as code
use Rattle.cu_sites.specs.Inside.Counting.{Counts}
use Rattle.cu_locals.specs.Places.{positions_meaning}
use Rattle.cu_sites.proofs.binders.push_selected.Given as goal

abbrev pub invariant-loop-place : goal.invariant-loop-place
invariant-loop-place l =
    (after : List code.Binder) → Counts l.found.items (map (Selected (position_meaning l.x)) (positions_meaning (drop l.place-index l.places))) after
    → Counts l.fn.found.items (map (Selected (position_meaning l.x)) (positions_meaning l.places)) after
