-- Kinds of cells: what makes a value not total, not data or not ground.
use Rattle.std.specs.Prelude.{Bool, true, false}
use Rattle.cu_values.specs.declared.cell.Cell.{Cell}
use Rattle.cu_values.specs.declared.cell.Cell.TheVariants as cell

-- whether a cell says something: it isn't Bottom
abbrev pub is_known_cell : Cell → Bool
is_known_cell cell.Bottom = false
is_known_cell _ = true

-- whether a cell begins no partial application
abbrev pub is_data_cell : Cell → Bool
is_data_cell (cell.Part h n) = false
is_data_cell _ = true

-- whether a cell is a literal or a constructor
abbrev pub is_ground_cell : Cell → Bool
is_ground_cell (cell.Lit l) = true
is_ground_cell (cell.Con c n) = true
is_ground_cell _ = false
