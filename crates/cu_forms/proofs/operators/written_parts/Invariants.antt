use Rattle.std.proofs.Common.{◌≡◌, ◌++◌, drop}
use Rattle.cu_fixity.specs.Parts.{rest_parts, written_parts}
use Rattle.cu_forms.proofs.operators.written_parts.Given as goal

abbrev pub invariant-loop-item : goal.invariant-loop-item
invariant-loop-item l = l.parts.items ++ rest_parts (drop l.item-index l.items.rest.items) ≡ written_parts l.items
