use Rattle.std.proofs.Common.{List, drop}
use Rattle.cu_translation.specs.declared.position.Position.{Position}
use Rattle.cu_uses.specs.Gathered.{names_meaning}
use Rattle.cu_locals.specs.Text.{Text}
use Rattle.cu_sites.specs.Inside.Counting.{Lists, name_places}
use Rattle.cu_sites.proofs.binders.push_name_places.Given as goal

abbrev pub invariant-loop-name : goal.invariant-loop-name
invariant-loop-name l =
    (t : Text) (after : List Position) → Lists l.found.items (name_places (names_meaning t.names (drop l.name-index l.names))) after
    → Lists l.fn.found.items (name_places (names_meaning t.names l.names)) after
