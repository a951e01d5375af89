use Rattle.std.proofs.Common.{◌≡◌, ◌++◌, drop}
use Rattle.cu_fixity.specs.Parts.{pattern_rest, written_pattern}
use Rattle.cu_forms.proofs.pattern_parts.written_parts.Given as goal

abbrev pub invariant-loop-item : goal.invariant-loop-item
invariant-loop-item l = l.parts.items ++ pattern_rest (drop l.item-index l.items.rest.items) ≡ written_pattern l.items
