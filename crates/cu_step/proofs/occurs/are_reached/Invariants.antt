-- What is still to be looked at tells the answer.
use Rattle.cu_step.specs.Inside.Occurring.{Looks}
use Rattle.cu_step.proofs.occurs.are_reached.Given as goal

abbrev pub invariant-unmarked : goal.invariant-unmarked
invariant-unmarked g l = Looks (g.S.Store.content l.store) l.sought l.ids l.search.seen.items l.search.pending.items
