-- How many type variables instances of types take, shape by shape.
use Rattle.std.specs.Prelude.{ℕ, ◌+◌, List, [], ◌∷◌, max}
use Rattle.cu_types.specs.Table as shape
use Rattle.cu_types.specs.Table.{Shape}

-- the greatest number that a function gives of these places, 0 where there is none
abbrev pub widest : (ℕ → ℕ) → List ℕ → ℕ
widest f [] = 0
widest f (p ∷ ps) = max (f p) (widest f ps)

-- the breadth of the type of a shape, where the breadth of the type at each place is told
abbrev pub shape_breadth : (ℕ → ℕ) → Shape → ℕ
shape_breadth f (shape.Variable x) = x + 1
shape_breadth f (shape.Applied h ps) = widest f ps
