use Rattle.std.proofs.Common.{◌≡◌, ◌∷◌, [], ◌≤◌, All, length, reverse}
use Rattle.cu_names.specs.Texts.{Extends}
use Rattle.cu_flatread.specs.Inside.TypeTasks.{HasCell, cells_at, steps_left, tasks_at}
use Rattle.cu_flatread.proofs.types.cells.Given as goal

abbrev pub invariant-loop-next : goal.invariant-loop-next
invariant-loop-next l =
    (cells_at l.names l.types.cells.items (reverse l.types.tasks.items) l.cursor.rest.now
    ≡ tasks_at (l.fn.task ∷ []) l.fn.cursor.rest.now)
    × All (HasCell l.names) l.types.cells.items × Extends l.fn.names l.names
    × (length l.cursor.rest.now ≤ length l.fn.cursor.rest.now)

abbrev pub decreases-loop-next : goal.decreases-loop-next
decreases-loop-next l = steps_left l.types.tasks.items l.cursor.rest.now
