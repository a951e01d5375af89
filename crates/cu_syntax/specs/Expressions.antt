-- What expressions of the trees stand for, under a table of names.
use Rattle.std.specs.Prelude.{ℕ, Bool, true, ◌&&◌, List, [], ◌∷◌, Option, None, Some, not}
use Rattle.std.specs.Option.{option_map}
use Rattle.cu_lex.specs.Located.{Position}
use Rattle.cu_lex.specs.Reading.{position_of}
use Rattle.cu_names.specs.declared.place.Place.{Place}
use Rattle.cu_peg.specs.Parse.{Parts}
use Rattle.cu_syntax.specs.declared.expressions.Alternative.{Alternative}
use Rattle.cu_syntax.specs.declared.expressions.Enumeration.{Enumeration}
use Rattle.cu_syntax.specs.declared.expressions.Expression.{Expression}
use Rattle.cu_syntax.specs.declared.expressions.ExpressionNode.{ExpressionNode}
use Rattle.cu_syntax.specs.declared.expressions.ExpressionNode.TheVariants as node
use Rattle.cu_syntax.specs.declared.expressions.Items.{Items}
use Rattle.cu_syntax.specs.declared.expressions.OperatorItem.{OperatorItem}
use Rattle.cu_syntax.specs.declared.expressions.Qualifier.{Qualifier}
use Rattle.cu_syntax.specs.declared.expressions.Qualifier.TheVariants as qualifier
use Rattle.cu_syntax.specs.declared.symbol.Symbol.{Symbol}
use Rattle.cu_syntax.specs.declared.symbol.Symbol.TheVariants as symbol
use Rattle.cu_syntax.specs.Declarations.{declarations_meaning, right_meaning}
use Rattle.cu_syntax.specs.ExpressionMeaning.{expression_meaning, expressions_meaning}
use Rattle.cu_syntax.specs.Names.{literal_meaning, name_meaning}
use Rattle.cu_syntax.specs.Patterns.{pattern_meaning, patterns_meaning}
use Rattle.cu_syntax.specs.Reading.{Tree, alternatives_of, operator_rest, qualifiers_of}
use Rattle.cu_syntax.specs.Subtrees.{is_empty, is_single, part_of}
use Rattle.cu_syntax.specs.Syntax as syntax

-- whether a tree is an expression of its own, and not another one in parentheses, an operand alone
-- or a function without arguments
abbrev pub is_bare_expression : Symbol → Tree → Bool
is_bare_expression symbol.Exp tree = not (is_empty (part_of tree 0) && is_empty (part_of tree 2))
is_bare_expression symbol.Application tree = not (is_single tree)
is_bare_expression symbol.Tuple tree = not (is_single (part_of tree 2))
is_bare_expression s tree = true

abbrev pub maybe_position : Option Place → Option Position
maybe_position = option_map position_of

abbrev pub maybe_meaning : List (List ℕ) → Option Expression → syntax.MaybeExpression
maybe_meaning names None = syntax.Absent
maybe_meaning names (Some e) = syntax.Present (expression_meaning names e)

-- an operator and its right operand, before further ones
abbrev pub with_item : List (List ℕ) → OperatorItem → syntax.OperatorRest → syntax.OperatorRest
with_item names item rest =
    syntax.ThenOperator (name_meaning names item.operator) (maybe_position item.minus)
    (expression_meaning names item.operand) rest

abbrev pub rest_meaning : List (List ℕ) → List OperatorItem → syntax.OperatorRest
rest_meaning names [] = syntax.NoOperator
rest_meaning names (item ∷ items) = with_item names item (rest_meaning names items)

abbrev pub rest_of : Tree → syntax.OperatorRest
rest_of (Parts trees) = operator_rest trees
rest_of _ = syntax.NoOperator

abbrev pub items_meaning : List (List ℕ) → Items → syntax.Expression
items_meaning names items =
    syntax.Operators (position_of items.place) (maybe_position items.minus)
    (expression_meaning names items.first) (rest_meaning names items.rest.items)

-- an alternative, before further ones
abbrev pub with_alternative : List (List ℕ) → Alternative → syntax.Alternatives
    → syntax.Alternatives
with_alternative names a rest =
    syntax.MoreAlternatives (position_of a.place) (pattern_meaning names a.pattern)
    (right_meaning names a.right) rest

abbrev pub alternatives_meaning : List (List ℕ) → List Alternative → syntax.Alternatives
alternatives_meaning names [] = syntax.NoAlternative
alternatives_meaning names (a ∷ alternatives) =
    with_alternative names a (alternatives_meaning names alternatives)

abbrev pub alternatives_in : Tree → syntax.Alternatives
alternatives_in (Parts trees) = alternatives_of trees
alternatives_in _ = syntax.NoAlternative

abbrev pub qualifier_meaning : List (List ℕ) → Qualifier → syntax.Qualifier
qualifier_meaning names (qualifier.Generator at pattern list) =
    syntax.Generator (position_of at) (pattern_meaning names pattern)
    (expression_meaning names list)
qualifier_meaning names (qualifier.Declarations at local) =
    syntax.LocalDeclarations (position_of at) (declarations_meaning names local.items)
qualifier_meaning names (qualifier.Condition at condition) =
    syntax.Condition (position_of at) (expression_meaning names condition)

abbrev pub qualifiers_meaning : List (List ℕ) → List Qualifier → syntax.Qualifiers
qualifiers_meaning names [] = syntax.NoQualifier
qualifiers_meaning names (q ∷ qualifiers) =
    syntax.MoreQualifiers (qualifier_meaning names q) (qualifiers_meaning names qualifiers)

abbrev pub qualifiers_in : Tree → syntax.Qualifiers
qualifiers_in (Parts trees) = qualifiers_of trees
qualifiers_in _ = syntax.NoQualifier

abbrev pub enumeration_meaning : List (List ℕ) → Position → Enumeration → syntax.Expression
enumeration_meaning names at e =
    syntax.Enumeration at (expression_meaning names e.first) (maybe_meaning names e.second)
    (maybe_meaning names e.last)

-- the expression that a node of it stands for
abbrev pub expression_node : List (List ℕ) → ExpressionNode → syntax.Expression
expression_node names (node.Variable at name) =
    syntax.Variable (position_of at) (name_meaning names name)
expression_node names (node.Constructor at name) =
    syntax.Constructor (position_of at) (name_meaning names name)
expression_node names (node.Literal at found) =
    syntax.LiteralExpression (position_of at) (literal_meaning found)
expression_node names (node.Application at function arguments) =
    syntax.Application (position_of at) (expression_meaning names function)
    (expressions_meaning names arguments.items)
expression_node names (node.Operators items) = items_meaning names items
expression_node names (node.Lambda at parameters body) =
    syntax.Lambda (position_of at) (patterns_meaning names parameters.items)
    (expression_meaning names body)
expression_node names (node.Let at local body) =
    syntax.Let (position_of at) (declarations_meaning names local.items)
    (expression_meaning names body)
expression_node names (node.If at condition chosen other) =
    syntax.If (position_of at) (expression_meaning names condition)
    (expression_meaning names chosen) (expression_meaning names other)
expression_node names (node.Case at word subject alternatives) =
    syntax.Case (position_of at) word (expression_meaning names subject)
    (alternatives_meaning names alternatives.items)
expression_node names (node.Tuple at components) =
    syntax.Tuple (position_of at) (expressions_meaning names components.items)
expression_node names (node.TupleConstructor at count) =
    syntax.TupleConstructor (position_of at) count
expression_node names (node.LeftSection at operand operator) =
    syntax.LeftSection (position_of at) (expression_meaning names operand)
    (name_meaning names operator)
expression_node names (node.RightSection at operator operand) =
    syntax.RightSection (position_of at) (name_meaning names operator)
    (expression_meaning names operand)
expression_node names (node.List at elements) =
    syntax.ListOf (position_of at) (expressions_meaning names elements.items)
expression_node names (node.Enumeration at enumeration) =
    enumeration_meaning names (position_of at) enumeration
expression_node names (node.Comprehension at element qualifiers) =
    syntax.Comprehension (position_of at) (expression_meaning names element)
    (qualifiers_meaning names qualifiers.items)
