-- The types of another table, in which each variable is replaced.
use Rattle.std.specs.Prelude.{◌≡◌, ℕ, ◌+◌, ◌<◌, List, Some, length, map, slice_get}
use Rattle.cu_kernel.specs.TypeExpr as type
use Rattle.cu_types.specs.Synonyms.{for_parameters}
use Rattle.cu_types.specs.Table.{Shape, at, trees}
use Rattle.cu_types.specs.Types.{Substitution}
use Rattle.cu_types.specs.declared.replacing.Replacing.{Replacing}
use Rattle.cu_types.specs.declared.replacing.Replacing.TheVariants as by

-- the substitution that a replacing is, over a table
abbrev pub replaced_by : List Shape → Replacing → Substitution
replaced_by ss (by.Shift next) x = type.Variable (next + x)
replaced_by ss (by.Parameters places) x = for_parameters (map (at (trees ss)) places.now) x

-- the types by which variables are replaced stand in the table
abbrev pub Stands : List Shape → Replacing → Type 0
Stands ss (by.Shift next) = Unit {0}
Stands ss (by.Parameters places) = (k p : ℕ) → slice_get places.now k ≡ Some p → p < length ss
