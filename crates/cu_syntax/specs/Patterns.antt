-- What patterns of the trees stand for, under a table of names.
use Rattle.std.specs.Prelude.{ℕ, Bool, true, List, [], ◌∷◌, map, not}
use Rattle.std.proofs.Math.IntN.{neg_ℤ}
use Rattle.cu_lex.specs.Reading.{position_of}
use Rattle.cu_peg.specs.Parse.{Parts}
use Rattle.cu_syntax.specs.declared.patterns.ConstructorItem.{ConstructorItem}
use Rattle.cu_syntax.specs.declared.patterns.PatItems.{PatItems}
use Rattle.cu_syntax.specs.declared.patterns.Pattern.{Pattern}
use Rattle.cu_syntax.specs.declared.patterns.PatternNode.{PatternNode}
use Rattle.cu_syntax.specs.declared.patterns.PatternNode.TheVariants as node
use Rattle.cu_syntax.specs.declared.symbol.Symbol.{Symbol}
use Rattle.cu_syntax.specs.declared.symbol.Symbol.TheVariants as symbol
use Rattle.cu_syntax.specs.Names.{literal_meaning, name_meaning}
use Rattle.cu_syntax.specs.Reading.{Tree, pattern_as, pattern_choice, pattern_of, pattern_rest}
use Rattle.cu_syntax.specs.SubtreeMeaning.{tree_of}
use Rattle.cu_syntax.specs.Subtrees.{is_empty, is_single, part_of}
use Rattle.cu_syntax.specs.Syntax as syntax

-- whether a tree is a pattern of its own, and not another one in parentheses or without operators
abbrev pub is_bare_pattern : Symbol → Tree → Bool
is_bare_pattern symbol.Pat tree = not (is_empty (part_of tree 1))
is_bare_pattern symbol.TuplePat tree = not (is_single (part_of tree 2))
is_bare_pattern s tree = true

-- the pattern that a symbol's tree is
abbrev pub pattern_at : Symbol → Tree → syntax.Pattern
pattern_at symbol.Pat tree = pattern_of tree
pattern_at symbol.ConPat tree = pattern_choice symbol.ConPat tree
pattern_at symbol.APat tree = pattern_choice symbol.APat tree
pattern_at s tree = pattern_as s tree

abbrev pub pattern_tree : List (List ℕ) → Pattern → Tree
pattern_tree names p = tree_of names p.tree

abbrev pub pattern_meaning : List (List ℕ) → Pattern → syntax.Pattern
pattern_meaning names p = pattern_at p.tree.symbol (pattern_tree names p)

abbrev pub patterns_from : List syntax.Pattern → syntax.Patterns
patterns_from [] = syntax.NoPattern
patterns_from (p ∷ ps) = syntax.MorePatterns p (patterns_from ps)

abbrev pub patterns_meaning : List (List ℕ) → List Pattern → syntax.Patterns
patterns_meaning names ps = patterns_from (map (pattern_meaning names) ps)

-- a constructor operator and its right operand, before further ones
abbrev pub with_item : List (List ℕ) → ConstructorItem → syntax.PatternRest → syntax.PatternRest
with_item names item rest =
    syntax.ThenConstructor (name_meaning names item.operator)
    (pattern_meaning names item.operand) rest

abbrev pub rest_meaning : List (List ℕ) → List ConstructorItem → syntax.PatternRest
rest_meaning names [] = syntax.NoConstructor
rest_meaning names (item ∷ items) = with_item names item (rest_meaning names items)

abbrev pub rest_of : Tree → syntax.PatternRest
rest_of (Parts trees) = pattern_rest trees
rest_of _ = syntax.NoConstructor

abbrev pub pat_items_meaning : List (List ℕ) → PatItems → syntax.Pattern
pat_items_meaning names items =
    syntax.PatternOperators (position_of items.place) (pattern_meaning names items.first)
    (rest_meaning names items.rest.items)

-- the pattern that a node of it stands for
abbrev pub pattern_node : List (List ℕ) → PatternNode → syntax.Pattern
pattern_node names (node.Variable name) = syntax.PatternVariable (name_meaning names name)
pattern_node names (node.Alias name inner) =
    syntax.As (name_meaning names name) (pattern_meaning names inner)
pattern_node names (node.Wildcard at) = syntax.Wildcard (position_of at)
pattern_node names (node.Literal at found) =
    syntax.PatternLiteral (position_of at) (literal_meaning found)
pattern_node names (node.Negative at n) =
    syntax.PatternLiteral (position_of at) (syntax.Int (neg_ℤ n))
pattern_node names (node.Constructed at name arguments) =
    syntax.Constructed (position_of at) (name_meaning names name)
    (patterns_meaning names arguments.items)
pattern_node names (node.Tuple at components) =
    syntax.PatternTuple (position_of at) (patterns_meaning names components.items)
pattern_node names (node.List at elements) =
    syntax.PatternList (position_of at) (patterns_meaning names elements.items)
pattern_node names (node.Operators items) = pat_items_meaning names items
