-- What was written, and the values of the nodes that are left, are the whole. Each step takes a
-- cell's room.
use Rattle.std.proofs.Common.{reverse}
use Rattle.cu_step.specs.Inside.Written.{Written}
use Rattle.cu_step.proofs.read.Reader.value.Given as goal

abbrev pub invariant-loop-id : goal.invariant-loop-id
invariant-loop-id g l =
    Written (g.S.Store.content l.store) l.id l.fn.self.numbering.variables.keys l.self.room l.cells.items (reverse l.pending.items) l.fn.self.room l.self.numbering.variables.keys

abbrev pub decreases-loop-id : goal.decreases-loop-id
decreases-loop-id g l = l.self.room
