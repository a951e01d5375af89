use Rattle.std.proofs.Common.{◌≡◌, ◌++◌, drop}
use Rattle.std.specs.List.{flat_map}
use Rattle.cu_prooftext.specs.Text.{further_text, value_text}
use Rattle.cu_prooftext.proofs.values.write_further_values.Given as goal

-- what is written and what is left are the whole
abbrev pub invariant-loop-value : goal.invariant-loop-value
invariant-loop-value l =
    l.out.items ++ flat_map (further_text value_text) (drop l.value-index l.values) ≡ l.fn.out.items ++ flat_map (further_text value_text) (l.values)
