-- The names so far, and those of the nodes that are left, are all names.
use Rattle.std.proofs.Common.{◌≡◌, ◌++◌, drop}
use Rattle.cu_machine.specs.Next.{named}
use Rattle.cu_step.proofs.waited.names.Given as goal

abbrev pub invariant-loop-id : goal.invariant-loop-id
invariant-loop-id g l =
    l.names.items ++ named (g.S.Store.content l.store) l.goals l.next (drop l.id-index l.ids) ≡ named (g.S.Store.content l.store) l.goals 1 l.ids
