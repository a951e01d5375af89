use Rattle.std.proofs.Common.{◌≡◌, ◌++◌, drop, option_map}
use Rattle.cu_calculus.specs.Answered.{literals_in}
use Rattle.cu_calculus.specs.Value.{values_of}
use Rattle.cu_crwl.proofs.answer.literals.Given as goal

abbrev pub invariant-loop-value : goal.invariant-loop-value
invariant-loop-value l = option_map (λ rest. l.found.items ++ rest) (literals_in (values_of (drop l.value-index l.values))) ≡ literals_in (values_of l.values)
