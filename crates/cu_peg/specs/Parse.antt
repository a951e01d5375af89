-- The trees that a grammar gives of texts, and how they are spelled as lists of nodes.
use Rattle.std.specs.Prelude.{ℕ, ◌+◌, List, [], ◌∷◌, ◌++◌, Option, Some, slice_get}
use Rattle.std.specs.Option.{option_map, option_and_then}
use Rattle.cu_peg.specs.declared.node.Form.TheVariants as form
use Rattle.cu_peg.specs.declared.node.Node.{Node}

mutual
  -- A tree over tokens. A sequence, and what is optional, repeated or separated, has the trees of
  -- its parts (of what is separated, those between the separators); an ordered choice has the
  -- number of the alternative, from 0, and its tree. Looking ahead has no parts.
  pub data ParseTree (T : Type 0) : Type 0 where
    Leaf : T → ParseTree T
    Parts : ParseTrees T → ParseTree T
    Chosen : ℕ → ParseTree T → ParseTree T

  pub data ParseTrees (T : Type 0) : Type 0 where
    NoTree : ParseTrees T
    MoreTrees : ParseTree T → ParseTrees T → ParseTrees T

-- one tree alone
abbrev pub only : {T : Type 0} → ParseTree T → ParseTrees T
only tree = MoreTrees tree NoTree

abbrev mutual
  -- how many nodes a tree has
  pub size : {T : Type 0} → ParseTree T → ℕ
  size (Leaf x) = 1
  size (Parts trees) = 1 + sizes trees
  size (Chosen n tree) = 1 + size tree

  pub sizes : {T : Type 0} → ParseTrees T → ℕ
  sizes NoTree = 0
  sizes (MoreTrees tree trees) = size tree + sizes trees

abbrev mutual
  -- the nodes of a tree whose leaves are numbers of tokens: a node, and then those of its parts
  pub spelled : ParseTree ℕ → List Node
  spelled (Leaf n) = (record { form = form.Leaf n; size = 1 }) ∷ []
  spelled (Parts trees) = (record { form = form.Parts; size = 1 + sizes trees }) ∷ spelled_all trees
  spelled (Chosen n tree) = (record { form = form.Chosen n; size = 1 + size tree }) ∷ spelled tree

  pub spelled_all : ParseTrees ℕ → List Node
  spelled_all NoTree = []
  spelled_all (MoreTrees tree trees) = spelled tree ++ spelled_all trees

abbrev mutual
  -- the tree over tokens that a tree over their numbers stands for
  pub tree_over : {T : Type 0} → List T → ParseTree ℕ → Option (ParseTree T)
  tree_over tokens (Leaf n) = option_map Leaf (slice_get tokens n)
  tree_over tokens (Parts trees) = option_map Parts (trees_over tokens trees)
  tree_over tokens (Chosen n tree) = option_map (Chosen n) (tree_over tokens tree)

  pub trees_over : {T : Type 0} → List T → ParseTrees ℕ → Option (ParseTrees T)
  trees_over tokens NoTree = Some NoTree
  trees_over tokens (MoreTrees tree trees) =
      option_and_then (λ first. option_map (MoreTrees first) (trees_over tokens trees))
      (tree_over tokens tree)
