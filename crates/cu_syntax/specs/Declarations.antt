-- What declarations of the trees stand for, under a table of names.
use Rattle.std.specs.Prelude.{ℕ, List, [], ◌∷◌, map}
use Rattle.cu_lex.specs.Located.{Position}
use Rattle.cu_lex.specs.Reading.{position_of}
use Rattle.cu_peg.specs.Parse.{Parts}
use Rattle.cu_syntax.specs.declared.declaration_forms.Left.{Left}
use Rattle.cu_syntax.specs.declared.declaration_forms.Left.TheVariants as left
use Rattle.cu_syntax.specs.declared.declarations.Body.{Body}
use Rattle.cu_syntax.specs.declared.declarations.Body.TheVariants as body
use Rattle.cu_syntax.specs.declared.declarations.Declaration.{Declaration}
use Rattle.cu_syntax.specs.declared.declarations.DeclarationNode.{DeclarationNode}
use Rattle.cu_syntax.specs.declared.declarations.DeclarationNode.TheVariants as node
use Rattle.cu_syntax.specs.declared.declarations.Guard.{Guard}
use Rattle.cu_syntax.specs.declared.declarations.RightSide.{RightSide}
use Rattle.cu_syntax.specs.declared.declarations.RightSideNode.{RightSideNode}
use Rattle.cu_syntax.specs.ExpressionMeaning.{expression_meaning}
use Rattle.cu_syntax.specs.Names.{name_meaning}
use Rattle.cu_syntax.specs.Patterns.{pattern_meaning, patterns_meaning}
use Rattle.cu_syntax.specs.Reading.{LeftSide, OfFunction, OfPattern, Tree, declaration_as, guards_of, right_side, where_block}
use Rattle.cu_syntax.specs.SubtreeMeaning.{tree_of}
use Rattle.cu_syntax.specs.Syntax as syntax
use Rattle.cu_syntax.specs.Types.{type_meaning}

abbrev pub declaration_meaning : List (List ℕ) → Declaration → syntax.Declaration
declaration_meaning names d = declaration_as d.tree.symbol (tree_of names d.tree)

abbrev pub declarations_from : List syntax.Declaration → syntax.Declarations
declarations_from [] = syntax.NoDeclaration
declarations_from (d ∷ ds) = syntax.MoreDeclarations d (declarations_from ds)

abbrev pub declarations_meaning : List (List ℕ) → List Declaration → syntax.Declarations
declarations_meaning names ds = declarations_from (map (declaration_meaning names) ds)

abbrev pub right_meaning : List (List ℕ) → RightSide → syntax.RightSide
right_meaning names r =
    right_side r.body.symbol (tree_of names r.body) (where_block (tree_of names r.local))

-- what follows the equals sign or the arrow: an expression or guards, without the place
pub data RightBody : Type 0 where
  One : syntax.Expression → RightBody
  Guards : syntax.Guards → RightBody

abbrev pub right_of : Position → RightBody → syntax.Declarations → syntax.RightSide
right_of at (One e) local = syntax.Plain at e local
right_of at (Guards guards) local = syntax.Guarded at guards local

abbrev pub with_guard : List (List ℕ) → Guard → syntax.Guards → syntax.Guards
with_guard names g rest =
    syntax.MoreGuards (position_of g.place) (expression_meaning names g.condition)
    (expression_meaning names g.expression) rest

abbrev pub guards_meaning : List (List ℕ) → List Guard → syntax.Guards
guards_meaning names [] = syntax.NoGuard
guards_meaning names (g ∷ guards) = with_guard names g (guards_meaning names guards)

abbrev pub guards_in : Tree → syntax.Guards
guards_in (Parts trees) = guards_of trees
guards_in _ = syntax.NoGuard

abbrev pub body_meaning : List (List ℕ) → Body → RightBody
body_meaning names (body.Plain e) = One (expression_meaning names e)
body_meaning names (body.Guarded guards) = Guards (guards_meaning names guards.items)

-- the right-hand side that a node of it stands for
abbrev pub right_node : List (List ℕ) → RightSideNode → syntax.RightSide
right_node names r = right_of (position_of r.place) (body_meaning names r.body)
    (declarations_meaning names r.local.items)

abbrev pub left_meaning : List (List ℕ) → Left → LeftSide
left_meaning names (left.Function name parameters) =
    OfFunction (name_meaning names name) (patterns_meaning names parameters.items)
left_meaning names (left.Pattern pattern) = OfPattern (pattern_meaning names pattern)

-- the declaration that a node of it stands for
abbrev pub declaration_node : List (List ℕ) → DeclarationNode → syntax.Declaration
declaration_node names (node.FreeVariables at variables) =
    syntax.FreeVariables (position_of at) (map (name_meaning names) variables.items)
declaration_node names (node.Signature at functions term) =
    syntax.Signature (position_of at) (map (name_meaning names) functions.items)
    (type_meaning names term)
declaration_node names (node.FunctionRule at name parameters right) =
    syntax.FunctionRule (position_of at) (name_meaning names name)
    (patterns_meaning names parameters.items) (right_meaning names right)
declaration_node names (node.PatternBinding at pattern right) =
    syntax.PatternBinding (position_of at) (pattern_meaning names pattern)
    (right_meaning names right)
