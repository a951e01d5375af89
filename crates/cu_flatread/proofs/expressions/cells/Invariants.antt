use Rattle.std.proofs.Common.{◌≡◌, ◌∷◌, [], ◌≤◌, All, length, reverse}
use Rattle.cu_names.specs.Texts.{Extends}
use Rattle.cu_flatread.specs.Inside.ExpressionTasks.{HasCell, cells_at, steps_left, tasks_at}
use Rattle.cu_flatread.proofs.expressions.cells.Given as goal

abbrev pub invariant-loop-next : goal.invariant-loop-next
invariant-loop-next l =
    (cells_at l.names l.expressions.cells.items (reverse l.expressions.tasks.items)
    l.cursor.rest.now ≡ tasks_at (l.fn.task ∷ []) l.fn.cursor.rest.now)
    × All (HasCell l.names) l.expressions.cells.items × Extends l.fn.names l.names
    × (length l.cursor.rest.now ≤ length l.fn.cursor.rest.now)

abbrev pub decreases-loop-next : goal.decreases-loop-next
decreases-loop-next l = steps_left l.expressions.tasks.items l.cursor.rest.now
