-- What was written, and the parts of what is left, are all parts.
use Rattle.std.proofs.Common.{◌≡◌, ◌++◌, drop}
use Rattle.cu_fixity.specs.Parts.{pattern_rest, written_pattern}
use Rattle.cu_fixity.proofs.resolving.pattern_parts.Given as goal

abbrev pub invariant-loop-item : goal.invariant-loop-item
invariant-loop-item l = l.parts.items ++ pattern_rest (drop l.item-index l.items.rest.items) ≡ written_pattern l.items
