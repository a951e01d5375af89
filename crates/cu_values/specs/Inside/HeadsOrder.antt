-- The order of cells: of the heads of values, whatever their numbers of arguments.
use Rattle.std.specs.Prelude.{ℕ}
use Rattle.std.specs.declared.cmp.Ordering.{Ordering}
use Rattle.std.specs.Ordering.{nat_cmp}
use Rattle.cu_calculus.specs.Order.{head_order, literal_order}
use Rattle.cu_values.specs.declared.cell.Cell.{Cell}
use Rattle.cu_values.specs.declared.cell.Cell.TheVariants as cell

-- the number of a cell's kind in the order: Bottom, variables, partial applications, literals,
-- constructors
abbrev pub kind_of_cell : Cell → ℕ
kind_of_cell cell.Bottom = 0
kind_of_cell (cell.LVar x) = 1
kind_of_cell (cell.Part h n) = 2
kind_of_cell (cell.Lit l) = 3
kind_of_cell (cell.Con c n) = 4

-- the order of two cells: by kind, and within one kind by what stands in them
abbrev pub cell_order : Cell → Cell → Ordering
cell_order (cell.LVar x) (cell.LVar y) = nat_cmp x y
cell_order (cell.Part h m) (cell.Part k n) = head_order h k
cell_order (cell.Lit l) (cell.Lit m) = literal_order l m
cell_order (cell.Con c m) (cell.Con d n) = nat_cmp c.0 d.0
cell_order c d = nat_cmp (kind_of_cell c) (kind_of_cell d)
