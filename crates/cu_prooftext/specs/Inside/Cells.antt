-- The text of values, cell by cell.
use Rattle.std.specs.Prelude.{List, [], ◌∷◌, ◌++◌, codes, decimal, ℕ}
use Rattle.std.specs.List.{flat_map}
use Rattle.cu_values.specs.declared.cell.Cell.{Cell}
use Rattle.cu_values.specs.declared.cell.Cell.TheVariants as cell
use Rattle.cu_prooftext.specs.Text.{count_text, head_text, literal_text}

-- the text of a cell
abbrev pub cell_text : Cell → List ℕ
cell_text cell.Bottom = codes "_"
cell_text (cell.LVar x) = codes "v" ++ decimal x
cell_text (cell.Lit l) = literal_text l
cell_text (cell.Con c n) = codes "k" ++ (decimal c.0 ++ count_text n)
cell_text (cell.Part h n) = codes "p" ++ (head_text h ++ count_text n)

-- the text of a cell after a space
abbrev pub cell_after : Cell → List ℕ
cell_after c = codes " " ++ cell_text c

-- the text of cells, separated by spaces
abbrev pub cells_text : List Cell → List ℕ
cells_text [] = []
cells_text (c ∷ cs) = cell_text c ++ flat_map cell_after cs
