use Rattle.std.proofs.Common.{◌≡◌, map, take}
use Rattle.cu_kernel.specs.KernelOf.{synonym_meaning}
use Rattle.cu_flattext.specs.Inside.Circles.{is_known, leads_on}
use Rattle.cu_flattext.specs.TypeTexts.{is_or_passes}
use Rattle.cu_flattext.proofs.circles.one_step_more.Given as goal

-- the synonyms so far were looked at
abbrev pub invariant-loop-synonym : goal.invariant-loop-synonym
invariant-loop-synonym l =
    l.more.items ≡ map (leads_on (is_or_passes l.goal (is_known l.known))) (map synonym_meaning (take l.synonym-index l.synonyms))
