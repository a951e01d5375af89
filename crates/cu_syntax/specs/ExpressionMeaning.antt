-- Which expression a part of a tree is, under a table of names.
use Rattle.std.specs.Prelude.{ℕ, List, [], ◌∷◌, map}
use Rattle.cu_syntax.specs.declared.expressions.Expression.{Expression}
use Rattle.cu_syntax.specs.declared.symbol.Symbol.{Symbol}
use Rattle.cu_syntax.specs.declared.symbol.Symbol.TheVariants as symbol
use Rattle.cu_syntax.specs.Reading.{Tree, expression_as, expression_choice, expression_of}
use Rattle.cu_syntax.specs.SubtreeMeaning.{tree_of}
use Rattle.cu_syntax.specs.Syntax as syntax

-- the expression that a symbol's tree is
abbrev pub expression_at : Symbol → Tree → syntax.Expression
expression_at symbol.Exp tree = expression_of tree
expression_at symbol.Operand tree = expression_choice symbol.Operand tree
expression_at symbol.Atom tree = expression_choice symbol.Atom tree
expression_at s tree = expression_as s tree

abbrev pub expression_tree : List (List ℕ) → Expression → Tree
expression_tree names e = tree_of names e.tree

abbrev pub expression_meaning : List (List ℕ) → Expression → syntax.Expression
expression_meaning names e = expression_at e.tree.symbol (expression_tree names e)

abbrev pub expressions_from : List syntax.Expression → syntax.Expressions
expressions_from [] = syntax.NoExpression
expressions_from (e ∷ es) = syntax.MoreExpressions e (expressions_from es)

abbrev pub expressions_meaning : List (List ℕ) → List Expression → syntax.Expressions
expressions_meaning names es = expressions_from (map (expression_meaning names) es)
