-- Types in a table: each is made of types that stand before it and that it names by their places,
-- so that types may share their parts.
use Rattle.std.specs.Prelude.{◌≡◌, ℕ, ◌<◌, ◌++◌, List, [], ◌∷◌, Some, length, map, slice_get, slice_index_or}
use Rattle.cu_kernel.specs.TypeExpr as type
use Rattle.cu_kernel.specs.TypeExpr.{TypeExpr}
use Rattle.cu_kernel.specs.TypesOf.{type_list}
use Rattle.cu_types.specs.declared.node.Node.{Node}
use Rattle.cu_types.specs.declared.node.Node.TheVariants as node
use Rattle.cu_types.specs.declared.node.TypeHead.{TypeHead}
use Rattle.cu_types.specs.declared.node.TypeHead.TheVariants as head

-- a type at whose top a variable or a head stands, and whose arguments are told by their places
pub data Shape : Type 0 where
  Variable : ℕ → Shape
  Applied : TypeHead → List ℕ → Shape

abbrev pub shape_of : Node → Shape
shape_of (node.Variable x) = Variable x
shape_of (node.Applied h places) = Applied h places.items

-- the places of a shape's arguments
abbrev pub places : Shape → List ℕ
places (Variable x) = []
places (Applied h ps) = ps

-- a head has as many arguments as it needs: the functions from one type to another take two
abbrev pub IsFull : TypeHead → ℕ → Type 0
IsFull head.Arrow count = count ≡ 2
IsFull (head.Named name) count = Unit {0}

-- the type of functions from the first of two types to the second
abbrev arrow : List TypeExpr → TypeExpr
arrow (a ∷ b ∷ []) = type.Arrow a b
arrow _ = type.Variable 0

-- the type of a head on arguments
abbrev pub built : TypeHead → List TypeExpr → TypeExpr
built head.Arrow ts = arrow ts
built (head.Named name) ts = type.Named name (type_list ts)

-- the type of a shape, where the type at each place is told
abbrev pub tree_over : (ℕ → TypeExpr) → Shape → TypeExpr
tree_over tree (Variable x) = type.Variable x
tree_over tree (Applied h ps) = built h (map tree ps)

-- the type at a place of a list, and a variable where there is none
abbrev pub at : List TypeExpr → ℕ → TypeExpr
at ts i = slice_index_or ts i (type.Variable 0)

-- the types of shapes, after those of the shapes before them
abbrev pub trees_after : List TypeExpr → List Shape → List TypeExpr
trees_after before [] = before
trees_after before (s ∷ ss) = trees_after (before ++ tree_over (at before) s ∷ []) ss

-- the types of a table, in the order of their places
unfoldable pub trees : List Shape → List TypeExpr
trees ss = trees_after [] ss

-- a shape may stand at place i: its head has enough arguments, and they stand at earlier places
abbrev pub MayStand : ℕ → Shape → Type 0
MayStand i (Variable x) = Unit {0}
MayStand i (Applied h ps) = IsFull h (length ps) × ((a k : ℕ) → slice_get ps k ≡ Some a → a < i)

-- shapes are a table: each has all its arguments, and they stand before it
pub record IsTable (ss : List Shape) : Type 0 where
  pub stand : (i : ℕ) (s : Shape) → slice_get ss i ≡ Some s → MayStand i s
