-- The tree of a list of items whose operands fit their operators: of all trees of the items, the
-- one that is grouped.
use Rattle.std.specs.Prelude.{List, [], ◌∷◌, Option, find, flat_map, map}
use Rattle.cu_fixity.specs.declared.fixity.Fixity.{Fixity}
use Rattle.cu_fixity.specs.Grouping.{Applied, Between, Infix, Item, Leaf, Operand, Prefix, Tree, is_grouped}

-- The trees of a list of items, of which a first part takes an operand from the tree of the others:
-- the whole tree, or only the left operand of the operator at its top, or only the left operand of
-- that, and so on.
abbrev pub on_left_spine : {A O : Type 0} → (Tree A O → Tree A O) → Tree A O → List (Tree A O)
on_left_spine taking (Leaf a) = taking (Leaf a) ∷ []
on_left_spine taking (Applied o t) = taking (Applied o t) ∷ []
on_left_spine taking (Between l o r) =
    taking (Between l o r) ∷ map (λ left. Between left o r) (on_left_spine taking l)

-- all trees of a list of items
abbrev pub trees : {A O : Type 0} → List (Item A O) → List (Tree A O)
trees (Operand a ∷ []) = Leaf a ∷ []
trees (Operand a ∷ Infix o ∷ items) = flat_map (on_left_spine (Between (Leaf a) o)) (trees items)
trees (Prefix o ∷ items) = flat_map (on_left_spine (Applied o)) (trees items)
trees _ = []

-- the grouped tree of a list of items, if it has one
abbrev pub grouped_tree : {A O : Type 0} → (O → Fixity) → List (Item A O) → Option (Tree A O)
grouped_tree fixity items = find (is_grouped fixity) (trees items)
