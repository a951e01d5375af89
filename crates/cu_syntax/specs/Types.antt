-- What types of the trees stand for, under a table of names.
use Rattle.std.specs.Prelude.{ℕ, Bool, true, List, [], ◌∷◌, map, not}
use Rattle.cu_lex.specs.Located.{Position}
use Rattle.cu_lex.specs.Reading.{position_of}
use Rattle.cu_syntax.specs.declared.symbol.Symbol.{Symbol}
use Rattle.cu_syntax.specs.declared.symbol.Symbol.TheVariants as symbol
use Rattle.cu_syntax.specs.declared.types.TypeNode.{TypeNode}
use Rattle.cu_syntax.specs.declared.types.TypeNode.TheVariants as node
use Rattle.cu_syntax.specs.declared.types.TypeTerm.{TypeTerm}
use Rattle.cu_syntax.specs.Names.{name_meaning}
use Rattle.cu_syntax.specs.Reading.{Tree, place, type_as, type_choice, type_of}
use Rattle.cu_syntax.specs.SubtreeMeaning.{tree_of}
use Rattle.cu_syntax.specs.Subtrees.{is_single, part_of}
use Rattle.cu_syntax.specs.Syntax as syntax

-- whether a tree is a type of its own, and not another one in parentheses or without an arrow
abbrev pub is_bare_type : Symbol → Tree → Bool
is_bare_type symbol.TypeExp tree = not (is_single tree)
is_bare_type symbol.TupleType tree = not (is_single (part_of tree 2))
is_bare_type s tree = true

-- the type that a symbol's tree is
abbrev pub type_at : Symbol → Tree → syntax.TypeTerm
type_at symbol.TypeExp tree = type_of tree
type_at symbol.BType tree = type_choice symbol.BType tree
type_at symbol.AType tree = type_choice symbol.AType tree
type_at s tree = type_as s tree

abbrev pub type_meaning : List (List ℕ) → TypeTerm → syntax.TypeTerm
type_meaning names t = type_at t.tree.symbol (tree_of names t.tree)

abbrev pub type_tree : List (List ℕ) → TypeTerm → Tree
type_tree names t = tree_of names t.tree

-- the place of the first token of a type that is a parameter; the token may be a parenthesis
abbrev pub parameter_place : List (List ℕ) → TypeTerm → Position
parameter_place names t = place (tree_of names t.tree)

abbrev pub types_from : List syntax.TypeTerm → syntax.TypeTerms
types_from [] = syntax.NoType
types_from (t ∷ ts) = syntax.MoreTypes t (types_from ts)

abbrev pub types_meaning : List (List ℕ) → List TypeTerm → syntax.TypeTerms
types_meaning names ts = types_from (map (type_meaning names) ts)

abbrev pub function_type : List (List ℕ) → List TypeTerm → syntax.TypeTerm → syntax.TypeTerm
function_type names [] result = result
function_type names (t ∷ ts) result =
    syntax.Arrow (parameter_place names t) (type_meaning names t) (function_type names ts result)

-- the type that a node of it stands for
abbrev pub type_node : List (List ℕ) → TypeNode → syntax.TypeTerm
type_node names (node.Variable name) = syntax.TypeVariable (name_meaning names name)
type_node names (node.Named name arguments) =
    syntax.TypeNamed (name_meaning names name) (types_meaning names arguments.items)
type_node names (node.Function first further result) =
    syntax.Arrow (parameter_place names first) (type_meaning names first)
    (function_type names further.items (type_meaning names result))
type_node names (node.Tuple at components) =
    syntax.TypeTuple (position_of at) (types_meaning names components.items)
type_node names (node.List at element) =
    syntax.TypeList (position_of at) (type_meaning names element)
