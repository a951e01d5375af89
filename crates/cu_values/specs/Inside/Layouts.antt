-- What the functions of a layout, which displays a value, rest on and give.
use Rattle.std.specs.Prelude.{◌≡◌, ℕ, [], ◌∷◌, ◌++◌}
use Rattle.std.specs.String.{string_bytes}
use Rattle.cu_values.specs.declared.layout.Layout.{Layout}
use Rattle.cu_values.specs.declared.task.Pen.{Pen}
use Rattle.cu_values.specs.declared.task.Task.{Task}
use Rattle.cu_values.specs.Inside.LabelsOf.{labels_meaning}
use Rattle.cu_values.specs.Inside.Shapes.{shapes_at}
use Rattle.cu_values.specs.Inside.Tasks.{Ready, Step}

-- The shapes of a layout are those of its cells.
abbrev pub IsShaped : Layout → Type 0
IsShaped layout = layout.shapes.now ≡ shapes_at (labels_meaning layout.names.now) layout.cells.now

-- The values that begin at a cell are exactly those that the tasks take: the task that was popped
-- takes the first of them, and the tasks on the pen's stack take the others.
abbrev pub Awaits : Layout → ℕ → Pen → Task → Type 0
Awaits layout at pen task =
    Ready (labels_meaning layout.names.now) layout.cells.now at (pen.tasks.items ++ task ∷ [])

-- A part of the popped task was written, and the pen's stack of tasks has what is left of it.
abbrev pub Begun : Layout → ℕ → ℕ → Task → Pen → ℕ → Pen → Type 0
Begun layout weight at task before next after =
    Step (labels_meaning layout.names.now) layout.cells.now weight at
    (before.tasks.items ++ task ∷ []) (string_bytes before.text)
    next after.tasks.items (string_bytes after.text)
