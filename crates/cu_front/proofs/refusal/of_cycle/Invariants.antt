use Rattle.std.proofs.Common.{◌≡◌, ◌++◌, codes, drop, string_bytes}
use Rattle.std.specs.List.{flat_map}
use Rattle.cu_modules.specs.Ordering.{texts_of}
use Rattle.cu_front.specs.RefusalLine.{after_space, cycle_line}
use Rattle.cu_front.proofs.refusal.of_cycle.Given as goal

-- the line so far, and the names that are left, are the whole line
abbrev pub invariant-ids : goal.invariant-ids
invariant-ids l =
    string_bytes l.line
    ++ (flat_map after_space (texts_of l.names (drop l.id-index l.ids)) ++ codes "\n")
    ≡ cycle_line (texts_of l.names l.ids)
