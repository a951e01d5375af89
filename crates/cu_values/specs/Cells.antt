-- Values written as lists of cells, in prefix notation: a head with the number of its arguments,
-- and then the arguments.
use Rattle.std.specs.Prelude.{◌≡◌, ℕ, zero, suc, List, [], ◌∷◌, ◌++◌}
use Rattle.cu_calculus.specs.Value as value
use Rattle.cu_calculus.specs.Value.{Value, Values, count}
use Rattle.cu_values.specs.declared.cell.Cell.{Cell}
use Rattle.cu_values.specs.declared.cell.Cell.TheVariants as cell

abbrev mutual
  -- the cells of a value
  pub spell : Value → List Cell
  spell value.Bottom = cell.Bottom ∷ []
  spell (value.Variable x) = cell.LVar x ∷ []
  spell (value.Literal l) = cell.Lit l ∷ []
  spell (value.Constructed c vs) = cell.Con c (count vs) ∷ spell_all vs
  spell (value.Partial h vs) = cell.Part h (count vs) ∷ spell_all vs

  -- the cells of several values, one after another
  pub spell_all : Values → List Cell
  spell_all value.NoValue = []
  spell_all (value.MoreValues v vs) = spell v ++ spell_all vs

-- the first n of several values, or all where there are fewer
abbrev pub prefix : ℕ → Values → Values
prefix zero vs = value.NoValue
prefix (suc n) value.NoValue = value.NoValue
prefix (suc n) (value.MoreValues v vs) = value.MoreValues v (prefix n vs)

-- the values after the first n
abbrev pub suffix : ℕ → Values → Values
suffix zero vs = vs
suffix (suc n) value.NoValue = value.NoValue
suffix (suc n) (value.MoreValues v vs) = suffix n vs

-- The values that begin with a cell, where these values follow it: a head takes its arguments from
-- the first of them.
abbrev pub put : Cell → Values → Values
put cell.Bottom vs = value.MoreValues value.Bottom vs
put (cell.LVar x) vs = value.MoreValues (value.Variable x) vs
put (cell.Lit l) vs = value.MoreValues (value.Literal l) vs
put (cell.Con c n) vs = value.MoreValues (value.Constructed c (prefix n vs)) (suffix n vs)
put (cell.Part h n) vs = value.MoreValues (value.Partial h (prefix n vs)) (suffix n vs)

-- the values that cells spell, read from the right
abbrev pub read_all : List Cell → Values
read_all [] = value.NoValue
read_all (c ∷ cs) = put c (read_all cs)

-- the first of several values, or Bottom where there is none
abbrev pub first : Values → Value
first value.NoValue = value.Bottom
first (value.MoreValues v vs) = v

-- the value that cells spell
abbrev pub read : List Cell → Value
read cells = first (read_all cells)

-- the cells are those of one value
abbrev pub IsOneSpelled : List Cell → Type 0
IsOneSpelled cells = spell (read cells) ≡ cells

-- the cells are those of values, one after another
abbrev pub IsSpelled : List Cell → Type 0
IsSpelled cells = spell_all (read_all cells) ≡ cells

-- how many arguments a head takes from the cells after it
abbrev pub arity_of : Cell → ℕ
arity_of cell.Bottom = 0
arity_of (cell.LVar x) = 0
arity_of (cell.Lit l) = 0
arity_of (cell.Con c n) = n
arity_of (cell.Part h n) = n
