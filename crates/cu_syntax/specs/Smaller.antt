-- How large views are, and that what a view tells is smaller than the view. A function over views
-- takes the size of its view as its measure, and over a slice the largest size of an element: `2 *
-- size` and `2 * most size + 1`. Names don't count, so sizes are taken under a table without names.
use Rattle.std.specs.Prelude.{ℕ, ◌+◌, ◌<◌, [], Option, None, Some}
use denote.Param.Weighed.{most}
use Rattle.cu_syntax.specs.declared.declarations.Body.{Body}
use Rattle.cu_syntax.specs.declared.declarations.Body.TheVariants as body
use Rattle.cu_syntax.specs.declared.declarations.Declaration.{Declaration}
use Rattle.cu_syntax.specs.declared.declarations.DeclarationNode.{DeclarationNode}
use Rattle.cu_syntax.specs.declared.declarations.DeclarationNode.TheVariants as declaration
use Rattle.cu_syntax.specs.declared.declarations.Guard.{Guard}
use Rattle.cu_syntax.specs.declared.declarations.RightSide.{RightSide}
use Rattle.cu_syntax.specs.declared.declarations.RightSideNode.{RightSideNode}
use Rattle.cu_syntax.specs.declared.expressions.Alternative.{Alternative}
use Rattle.cu_syntax.specs.declared.expressions.Enumeration.{Enumeration}
use Rattle.cu_syntax.specs.declared.expressions.Expression.{Expression}
use Rattle.cu_syntax.specs.declared.expressions.ExpressionNode.{ExpressionNode}
use Rattle.cu_syntax.specs.declared.expressions.ExpressionNode.TheVariants as expression
use Rattle.cu_syntax.specs.declared.expressions.Items.{Items}
use Rattle.cu_syntax.specs.declared.expressions.OperatorItem.{OperatorItem}
use Rattle.cu_syntax.specs.declared.expressions.Qualifier.{Qualifier}
use Rattle.cu_syntax.specs.declared.expressions.Qualifier.TheVariants as qualifier
use Rattle.cu_syntax.specs.declared.patterns.ConstructorItem.{ConstructorItem}
use Rattle.cu_syntax.specs.declared.patterns.PatItems.{PatItems}
use Rattle.cu_syntax.specs.declared.patterns.Pattern.{Pattern}
use Rattle.cu_syntax.specs.declared.patterns.PatternNode.{PatternNode}
use Rattle.cu_syntax.specs.declared.patterns.PatternNode.TheVariants as pattern
use Rattle.cu_syntax.specs.declared.types.TypeNode.{TypeNode}
use Rattle.cu_syntax.specs.declared.types.TypeNode.TheVariants as type_term
use Rattle.cu_syntax.specs.declared.types.TypeTerm.{TypeTerm}
use Rattle.cu_syntax.specs.Declarations.{declaration_meaning, right_meaning}
use Rattle.cu_syntax.specs.ExpressionMeaning.{expression_meaning}
use Rattle.cu_syntax.specs.Patterns.{pattern_meaning}
use Rattle.cu_syntax.specs.Sizes.{size_of_declaration, size_of_expression, size_of_pattern, size_of_right, size_of_type}
use Rattle.cu_syntax.specs.Types.{type_meaning}

unfoldable pub type_size : TypeTerm → ℕ
type_size t = size_of_type (type_meaning [] t)

unfoldable pub pattern_size : Pattern → ℕ
pattern_size p = size_of_pattern (pattern_meaning [] p)

unfoldable pub expression_size : Expression → ℕ
expression_size e = size_of_expression (expression_meaning [] e)

unfoldable pub declaration_size : Declaration → ℕ
declaration_size d = size_of_declaration (declaration_meaning [] d)

unfoldable pub right_size : RightSide → ℕ
right_size right = size_of_right (right_meaning [] right)

-- ---- how large what a node tells is, with its parts

abbrev pub size_if_there : Option Expression → ℕ
size_if_there None = 0
size_if_there (Some e) = expression_size e

abbrev pub constructor_item_size : ConstructorItem → ℕ
constructor_item_size i = 1 + pattern_size i.operand

abbrev pub pat_items_size : PatItems → ℕ
pat_items_size i = 1 + pattern_size i.first + most constructor_item_size i.rest.items

abbrev pub operator_item_size : OperatorItem → ℕ
operator_item_size i = 1 + expression_size i.operand

abbrev pub items_size : Items → ℕ
items_size i = 1 + expression_size i.first + most operator_item_size i.rest.items

abbrev pub alternative_size : Alternative → ℕ
alternative_size a = 1 + pattern_size a.pattern + right_size a.right

abbrev pub enumeration_size : Enumeration → ℕ
enumeration_size e = 1 + expression_size e.first + size_if_there e.second + size_if_there e.last

abbrev pub qualifier_size : Qualifier → ℕ
qualifier_size (qualifier.Generator place p list) = 1 + pattern_size p + expression_size list
qualifier_size (qualifier.Declarations place local) = 1 + most declaration_size local.items
qualifier_size (qualifier.Condition place condition) = 1 + expression_size condition

abbrev pub guard_size : Guard → ℕ
guard_size g = 1 + expression_size g.condition + expression_size g.expression

abbrev pub body_size : Body → ℕ
body_size (body.Plain e) = 1 + expression_size e
body_size (body.Guarded guards) = 1 + most guard_size guards.items

-- ---- what a node tells is smaller than n: each view, and each element of a list of views

abbrev pub TypeNodeIsBelow : ℕ → TypeNode → Type 0
TypeNodeIsBelow n (type_term.Variable name) = Unit {0}
TypeNodeIsBelow n (type_term.Named name arguments) = most type_size arguments.items < n
TypeNodeIsBelow n (type_term.Function first further result) =
    (type_size first < n) × (most type_size further.items < n) × (type_size result < n)
TypeNodeIsBelow n (type_term.Tuple place components) = most type_size components.items < n
TypeNodeIsBelow n (type_term.List place element) = type_size element < n

abbrev pub PatternNodeIsBelow : ℕ → PatternNode → Type 0
PatternNodeIsBelow n (pattern.Alias name inner) = pattern_size inner < n
PatternNodeIsBelow n (pattern.Constructed place name arguments) =
    most pattern_size arguments.items < n
PatternNodeIsBelow n (pattern.Tuple place components) = most pattern_size components.items < n
PatternNodeIsBelow n (pattern.List place elements) = most pattern_size elements.items < n
PatternNodeIsBelow n (pattern.Operators items) = pat_items_size items < n
PatternNodeIsBelow n _ = Unit {0}

abbrev pub ExpressionNodeIsBelow : ℕ → ExpressionNode → Type 0
ExpressionNodeIsBelow n (expression.Application place function arguments) =
    (expression_size function < n) × (most expression_size arguments.items < n)
ExpressionNodeIsBelow n (expression.Operators items) = items_size items < n
ExpressionNodeIsBelow n (expression.Lambda place parameters inner) =
    (most pattern_size parameters.items < n) × (expression_size inner < n)
ExpressionNodeIsBelow n (expression.Let place local inner) =
    (most declaration_size local.items < n) × (expression_size inner < n)
ExpressionNodeIsBelow n (expression.If place condition chosen other) =
    (expression_size condition < n) × (expression_size chosen < n) × (expression_size other < n)
ExpressionNodeIsBelow n (expression.Case place word subject alternatives) =
    (expression_size subject < n) × (most alternative_size alternatives.items < n)
ExpressionNodeIsBelow n (expression.Tuple place components) =
    most expression_size components.items < n
ExpressionNodeIsBelow n (expression.LeftSection place operand operator) =
    expression_size operand < n
ExpressionNodeIsBelow n (expression.RightSection place operator operand) =
    expression_size operand < n
ExpressionNodeIsBelow n (expression.List place elements) = most expression_size elements.items < n
ExpressionNodeIsBelow n (expression.Enumeration place numbers) = enumeration_size numbers < n
ExpressionNodeIsBelow n (expression.Comprehension place element qualifiers) =
    (expression_size element < n) × (most qualifier_size qualifiers.items < n)
ExpressionNodeIsBelow n _ = Unit {0}

abbrev pub DeclarationNodeIsBelow : ℕ → DeclarationNode → Type 0
DeclarationNodeIsBelow n (declaration.FreeVariables place variables) = Unit {0}
DeclarationNodeIsBelow n (declaration.Signature place functions term) = type_size term < n
DeclarationNodeIsBelow n (declaration.FunctionRule place name parameters right) =
    (most pattern_size parameters.items < n) × (right_size right < n)
DeclarationNodeIsBelow n (declaration.PatternBinding place p right) =
    (pattern_size p < n) × (right_size right < n)

abbrev pub RightNodeIsBelow : ℕ → RightSideNode → Type 0
RightNodeIsBelow n right = (body_size right.body < n)
    × (most declaration_size right.local.items < n)
