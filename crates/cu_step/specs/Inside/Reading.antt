-- What a head adds to a value that is read: a cell, a variable that is met, and the nodes whose
-- cells follow. The variables that were met are listed in their order.
use Rattle.std.specs.Prelude.{ℕ, List, [], ◌∷◌}
use Rattle.cu_machine.specs.declared.Kind.{Kind}
use Rattle.cu_machine.specs.declared.Kind.TheVariants as kind
use Rattle.cu_machine.specs.Places.{joined}
use Rattle.cu_machine.specs.Spell.{ordinal}
use Rattle.cu_values.specs.declared.cell.Cell.{Cell}
use Rattle.cu_values.specs.declared.cell.Cell.TheVariants as cell

-- the variables that were met, after one more is met
abbrev pub with_variable : List ℕ → ℕ → List ℕ
with_variable met id = joined met (id ∷ [])

-- the variables that were met, after a head is met
abbrev pub with_head : List ℕ → ℕ → Kind → List ℕ
with_head met id kind.Free = with_variable met id
with_head met id _ = met

-- the cell of a head with n arguments
abbrev pub cell_at : List ℕ → ℕ → Kind → ℕ → Cell
cell_at variables id (kind.Cons c) n = cell.Con c n
cell_at variables id (kind.Part h) n = cell.Part h n
cell_at variables id (kind.Lit l) n = cell.Lit l
cell_at variables id kind.Free n = cell.LVar (ordinal variables id)
cell_at variables id _ n = cell.Bottom

-- the nodes whose cells follow that of a head
abbrev pub parts_at : Kind → List ℕ → List ℕ
parts_at (kind.Cons c) args = args
parts_at (kind.Part h) args = args
parts_at _ args = []
