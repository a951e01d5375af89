use Rattle.std.proofs.Common.{◌≡◌, ◌++◌, decimal, drop}
use Rattle.std.specs.List.{flat_map}
use Rattle.cu_prooftext.specs.Text.{further_text}
use Rattle.cu_prooftext.proofs.writing.write_further_numbers.Given as goal

-- what is written and what is left are the whole
abbrev pub invariant-loop-number : goal.invariant-loop-number
invariant-loop-number l =
    l.out.items ++ flat_map (further_text decimal) (drop l.number-index l.numbers) ≡ l.fn.out.items ++ flat_map (further_text decimal) (l.numbers)
