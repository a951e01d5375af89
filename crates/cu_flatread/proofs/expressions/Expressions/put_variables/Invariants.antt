use Rattle.std.proofs.Common.{◌≡◌, ◌++◌, length}
use Rattle.cu_flatread.specs.Cells.{spell_variables}
use Rattle.cu_flatread.proofs.expressions.Expressions.put_variables.Given as goal

abbrev pub invariant-loop-left : goal.invariant-loop-left
invariant-loop-left l =
    (l.self.cells.items ++ spell_variables l.left
    ≡ l.fn.self.cells.items ++ spell_variables l.fn.variables)
    × (l.self.tasks.items ≡ l.fn.self.tasks.items)

abbrev pub decreases-loop-left : goal.decreases-loop-left
decreases-loop-left l = length l.left
