use Rattle.cu_sites.specs.Meaning.{GroupIsOf}
use Rattle.cu_locals.specs.Text.{Text}
use Rattle.cu_sites.proofs.TopLemmas.{Ruled}
use Rattle.cu_sites.proofs.sites.Sites.of_group.Given as goal

abbrev pub invariant-loop-rule : goal.invariant-loop-rule
invariant-loop-rule l = (t : Text) → GroupIsOf t.owner t.names l.group → Ruled t l.group l.rule-index l.found
