use Rattle.std.specs.List.{All}
use Rattle.cu_syntax.specs.Owners.{ItemIsOf}
use Rattle.cu_locals.specs.Text.{Text}
use Rattle.cu_sites.proofs.RuleLemmas.{Gathers}
use Rattle.cu_sites.proofs.grouping.groups.Given as goal

abbrev pub invariant-loop-item : goal.invariant-loop-item
invariant-loop-item l = (t : Text) → All (ItemIsOf t.owner t.names) l.items → Gathers t l.items l.item-index l.grouping
