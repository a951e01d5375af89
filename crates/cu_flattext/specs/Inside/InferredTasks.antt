-- The tasks that are left while an inferred type is written, and the texts that they come to.
use Rattle.std.specs.Prelude.{ℕ, List, [], ◌∷◌, ◌++◌, map, reverse}
use Rattle.cu_kernel.specs.TypeExpr.{TypeExpr}
use Rattle.cu_types.specs.Table.{Shape, at, built, shape_of, tree_over, trees}
use Rattle.cu_types.specs.declared.node.TypeHead.{TypeHead}
use Rattle.cu_flattext.specs.Inside.Stands.{lowered_of}
use Rattle.cu_flattext.specs.Naming.{Lowered, elements}
use Rattle.cu_flattext.specs.TypeTexts.{written_type_text}
use Rattle.cu_flattext.specs.declared.inferred.InferredTask.{InferredTask}
use Rattle.cu_flattext.specs.declared.inferred.InferredTask.TheVariants as task
use Rattle.cu_flattext.specs.declared.inferred.InferredType.{InferredType}
use Rattle.cu_flattext.specs.declared.type_table.TypeTable.{TypeTable}

-- the type with an index in a table
abbrev pub type_at : TypeTable → ℕ → TypeExpr
type_at table place = at (trees (map shape_of table.types.now)) place

-- the text of the type with an index in a table
abbrev pub text_there : Lowered → ℕ → TypeTable → ℕ → List ℕ
text_there program count table place = written_type_text program count (type_at table place)

-- the text of a task
abbrev pub inferred_part : Lowered → ℕ → TypeTable → InferredTask → List ℕ
inferred_part program count table (task.Type place) = text_there program count table place
inferred_part program count table (task.Types places follows) =
    elements follows (map (text_there program count table) places.now)
inferred_part program count table (task.Text text) = text.now

-- the text of several tasks, the first task first
abbrev pub inferred_parts : Lowered → ℕ → TypeTable → List InferredTask → List ℕ
inferred_parts program count table [] = []
inferred_parts program count table (t ∷ ts) =
    inferred_part program count table t ++ inferred_parts program count table ts

-- the text of the tasks that are left
abbrev pub inferred_left : InferredType → List ℕ
inferred_left s = inferred_parts (lowered_of s.wording) s.count s.table (reverse s.tasks.items)

-- the text of the tasks that are left, with one task before them
abbrev pub inferred_left_with : InferredTask → InferredType → List ℕ
inferred_left_with t s = inferred_part (lowered_of s.wording) s.count s.table t ++ inferred_left s

-- a text, and then that of the tasks that are left
abbrev pub inferred_left_after : List ℕ → InferredType → List ℕ
inferred_left_after text s = text ++ inferred_left s

-- the text of a type
abbrev pub text_of_type : InferredType → TypeExpr → List ℕ
text_of_type s t = written_type_text (lowered_of s.wording) s.count t

-- the text of the type with an index
abbrev pub text_at : InferredType → ℕ → List ℕ
text_at s place = text_of_type s (type_at s.table place)

-- the type of a shape, whose arguments stand in the table
abbrev pub type_of_shape : InferredType → Shape → TypeExpr
type_of_shape s shape = tree_over (type_at s.table) shape

-- the type of a head on the types with these indices
abbrev pub type_with : InferredType → TypeHead → List ℕ → TypeExpr
type_with s head places = built head (map (type_at s.table) places)
