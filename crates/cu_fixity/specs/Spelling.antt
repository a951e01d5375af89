-- Trees over the numbers of pieces, as cells in prefix order, read from the right end.
use Rattle.std.specs.Prelude.{◌≡◌, ℕ, List, [], ◌∷◌, ◌++◌, refl}
use Rattle.std.proofs.Common.{ap, sym, ◌∙◌, append_assoc, append-nil, inl, inr}
use Rattle.std.specs.Prelude.{◌⊎◌}
use Rattle.std.specs.Coded.{Coded, code_by, coded⊎, coded_list, coded_ℕ}
use Rattle.cu_fixity.specs.declared.tree.Cell.{Cell}
use Rattle.cu_fixity.specs.declared.tree.Cell.TheVariants as cell
use Rattle.cu_fixity.specs.Grouping.{Applied, Between, Leaf, Tree}

-- the cells of a tree: an operator, and then its operands from left to right
abbrev pub spelled : Tree ℕ ℕ → List Cell
spelled (Leaf n) = cell.Operand n ∷ []
spelled (Applied n t) = cell.Minus n ∷ spelled t
spelled (Between l n r) = cell.Operator n ∷ spelled l ++ spelled r

-- the trees that a cell and the trees after it make: an operator takes the first one or two as its
-- operands
abbrev pub put : Cell → List (Tree ℕ ℕ) → List (Tree ℕ ℕ)
put (cell.Operand n) trees = Leaf n ∷ trees
put (cell.Minus n) (t ∷ trees) = Applied n t ∷ trees
put (cell.Operator n) (l ∷ r ∷ trees) = Between l n r ∷ trees
put _ trees = trees

abbrev pub read_all : List Cell → List (Tree ℕ ℕ)
read_all [] = []
read_all (c ∷ cells) = put c (read_all cells)

abbrev pub first_of : List (Tree ℕ ℕ) → Tree ℕ ℕ
first_of [] = Leaf 0
first_of (t ∷ trees) = t

-- the tree that cells spell
abbrev pub read : List Cell → Tree ℕ ℕ
read cells = first_of (read_all cells)

-- Reading the cells that a tree spells gives the tree, which storing trees as cells needs.
pub read_all-spelled : (t : Tree ℕ ℕ) (cells : List Cell)
    → read_all (spelled t ++ cells) ≡ t ∷ read_all cells
read_all-spelled (Leaf n) cells = refl
read_all-spelled (Applied n t) cells = rw (read_all-spelled t cells) refl
read_all-spelled (Between l n r) cells =
    ap (λ cs. put (cell.Operator n) (read_all cs)) (append_assoc (spelled l) (spelled r) cells)
    ∙ ap (put (cell.Operator n))
    (read_all-spelled l (spelled r ++ cells) ∙ ap (λ trees. l ∷ trees)
    (read_all-spelled r cells))

pub read-spelled : (t : Tree ℕ ℕ) → read (spelled t) ≡ t
read-spelled t = ap read (sym (append-nil (spelled t))) ∙ ap first_of (read_all-spelled t [])

-- how cells are stored
abbrev cell_to : Cell → ℕ ⊎ (ℕ ⊎ ℕ)
cell_to (cell.Operand n) = inl n
cell_to (cell.Minus n) = inr (inl n)
cell_to (cell.Operator n) = inr (inr n)

abbrev cell_from : ℕ ⊎ (ℕ ⊎ ℕ) → Cell
cell_from (inl n) = cell.Operand n
cell_from (inr (inl n)) = cell.Minus n
cell_from (inr (inr n)) = cell.Operator n

pub cell_from-to : (c : Cell) → cell_from (cell_to c) ≡ c
cell_from-to (cell.Operand n) = refl
cell_from-to (cell.Minus n) = refl
cell_from-to (cell.Operator n) = refl

abbrev cell_code : Coded Cell
cell_code =
    code_by (ℕ ⊎ (ℕ ⊎ ℕ)) (coded⊎ coded_ℕ (coded⊎ coded_ℕ coded_ℕ)) cell_to cell_from cell_from-to

abbrev pub tree_code : Coded (Tree ℕ ℕ)
tree_code = code_by (List Cell) (coded_list cell_code) spelled read read-spelled
