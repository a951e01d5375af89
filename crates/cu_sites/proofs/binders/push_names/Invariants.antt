use Rattle.std.proofs.Common.{List, drop, map}
use Rattle.cu_translation.specs.Numbering.{at_name}
use Rattle.cu_translation.specs.declared.local_names.Binder as code
use Rattle.cu_uses.specs.Gathered.{names_meaning}
use Rattle.cu_locals.specs.Text.{Text}
use Rattle.cu_sites.specs.Inside.Counting.{Counts}
use Rattle.cu_sites.proofs.binders.push_names.Given as goal

abbrev pub invariant-loop-name : goal.invariant-loop-name
invariant-loop-name l =
    (t : Text) (after : List code.Binder) → Counts l.found.items (map at_name (names_meaning t.names (drop l.name-index l.names))) after
    → Counts l.fn.found.items (map at_name (names_meaning t.names l.names)) after
