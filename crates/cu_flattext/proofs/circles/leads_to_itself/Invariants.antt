use Rattle.std.proofs.Common.{◌≡◌, map}
use Rattle.cu_kernel.specs.KernelOf.{synonym_meaning}
use Rattle.cu_kernel.specs.declared.type_term.SynonymId.{SynonymId}
use Rattle.cu_flattext.specs.Inside.Circles.{is_known}
use Rattle.cu_flattext.specs.TypeTexts.{leads_within}
use Rattle.cu_flattext.proofs.circles.leads_to_itself.Given as goal

-- it is known of each synonym whether it leads to the goal within so many steps
abbrev pub invariant-loop-steps : goal.invariant-loop-steps
invariant-loop-steps l = (r : SynonymId) → is_known l.known.items r ≡ leads_within l.steps (map synonym_meaning l.synonyms) l.s r
