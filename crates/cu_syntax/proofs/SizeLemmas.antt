-- What a node tells is smaller than what it is told of.
use Rattle.std.specs.Prelude.{◌≡◌, ◌<◌, ◌≤◌, ℕ, IfOk, List, [], ◌∷◌, Err, None, Ok, Option, Result, Some, refl}
use Rattle.std.proofs.Common.{ap, arith, subst}
use denote.Param.Weighed.{most}
use Rattle.cu_lex.specs.Located.{Position}
use Rattle.cu_syntax.specs.declared.declarations.Body.{Body}
use Rattle.cu_syntax.specs.declared.declarations.Body.TheVariants as body
use Rattle.cu_syntax.specs.declared.declarations.Declaration.{Declaration}
use Rattle.cu_syntax.specs.declared.declarations.DeclarationNode.{DeclarationNode}
use Rattle.cu_syntax.specs.declared.declarations.DeclarationNode.TheVariants as declaration
use Rattle.cu_syntax.specs.declared.declarations.Guard.{Guard}
use Rattle.cu_syntax.specs.declared.declarations.RightSide.{RightSide}
use Rattle.cu_syntax.specs.declared.expressions.Alternative.{Alternative}
use Rattle.cu_syntax.specs.declared.expressions.Expression.{Expression}
use Rattle.cu_syntax.specs.declared.expressions.ExpressionNode.{ExpressionNode}
use Rattle.cu_syntax.specs.declared.expressions.ExpressionNode.TheVariants as expression
use Rattle.cu_syntax.specs.declared.expressions.OperatorItem.{OperatorItem}
use Rattle.cu_syntax.specs.declared.expressions.Qualifier.{Qualifier}
use Rattle.cu_syntax.specs.declared.expressions.Qualifier.TheVariants as qualifier
use Rattle.cu_syntax.specs.declared.patterns.ConstructorItem.{ConstructorItem}
use Rattle.cu_syntax.specs.declared.patterns.Pattern.{Pattern}
use Rattle.cu_syntax.specs.declared.patterns.PatternNode.{PatternNode}
use Rattle.cu_syntax.specs.declared.patterns.PatternNode.TheVariants as pattern
use Rattle.cu_syntax.specs.declared.types.TypeNode.{TypeNode}
use Rattle.cu_syntax.specs.declared.types.TypeNode.TheVariants as type_term
use Rattle.cu_syntax.specs.declared.types.TypeTerm.{TypeTerm}
use Rattle.cu_syntax.specs.Declarations.{body_meaning, declaration_meaning, declaration_node, declarations_meaning, guards_meaning, right_meaning, right_of}
use Rattle.cu_syntax.specs.ExpressionMeaning.{expressions_meaning}
use Rattle.cu_syntax.specs.Expressions.{alternatives_meaning, expression_node, maybe_meaning, qualifier_meaning, qualifiers_meaning, rest_meaning}
use Rattle.cu_syntax.specs.Patterns as patterns
use Rattle.cu_syntax.specs.Patterns.{pattern_node, patterns_meaning}
use Rattle.cu_syntax.specs.Sizes.{size_of_alternatives, size_of_declaration, size_of_declarations, size_of_expression, size_of_expressions, size_of_guards, size_of_maybe, size_of_operator_rest, size_of_pattern, size_of_pattern_rest, size_of_patterns, size_of_qualifier, size_of_qualifiers, size_of_right, size_of_type, size_of_types}
use Rattle.cu_syntax.specs.Smaller.{DeclarationNodeIsBelow, ExpressionNodeIsBelow, PatternNodeIsBelow, TypeNodeIsBelow, alternative_size, body_size, constructor_item_size, declaration_size, expression_size, guard_size, operator_item_size, pattern_size, qualifier_size, right_size, size_if_there, type_size}
use Rattle.cu_syntax.specs.Syntax as syntax
use Rattle.cu_syntax.specs.Types.{function_type, type_meaning, type_node, types_meaning}

-- types

most_types : (ts : List TypeTerm) → most type_size ts ≤ size_of_types (types_meaning [] ts)
unfolding type_size size_of_types
most_types [] = omega arith
most_types (t ∷ ts) = omega (arith, most_types ts)

function_below : (a b : ℕ) (ts : List TypeTerm) (result : syntax.TypeTerm) → (most type_size ts ≤ size_of_type (function_type [] ts result)) × (size_of_type result ≤ size_of_type (function_type [] ts result))
unfolding type_size size_of_type
function_below a b [] result = (omega arith, omega arith)
function_below a b (t ∷ ts) result = let less = function_below a b ts result in (omega (arith, less.0), omega (arith, less.1))

pub type_below : (node : TypeNode) → TypeNodeIsBelow (size_of_type (type_node [] node)) node
unfolding type_size size_of_type
type_below (type_term.Variable name) = tt
type_below (type_term.Named name arguments) = omega (arith, most_types arguments.items)
type_below (type_term.Function first further result) =
    let less = function_below 0 0 further.items (type_meaning [] result) in
    (omega arith, omega (arith, less.0), omega (arith, less.1))
type_below (type_term.Tuple place components) = omega (arith, most_types components.items)
type_below (type_term.List place element) = omega arith

-- patterns

most_patterns : (ps : List Pattern) → most pattern_size ps ≤ size_of_patterns (patterns_meaning [] ps)
unfolding pattern_size size_of_patterns
most_patterns [] = omega arith
most_patterns (p ∷ ps) = omega (arith, most_patterns ps)

most_constructors : (is : List ConstructorItem) → most constructor_item_size is ≤ size_of_pattern_rest (patterns.rest_meaning [] is)
unfolding pattern_size size_of_pattern_rest
most_constructors [] = omega arith
most_constructors (i ∷ is) = omega (arith, most_constructors is)

pub pattern_below : (node : PatternNode) → PatternNodeIsBelow (size_of_pattern (pattern_node [] node)) node
unfolding pattern_size size_of_pattern
pattern_below (pattern.Variable name) = tt
pattern_below (pattern.Alias name inner) = omega arith
pattern_below (pattern.Wildcard place) = tt
pattern_below (pattern.Literal place value) = tt
pattern_below (pattern.Negative place number) = tt
pattern_below (pattern.Constructed place name arguments) = omega (arith, most_patterns arguments.items)
pattern_below (pattern.Tuple place components) = omega (arith, most_patterns components.items)
pattern_below (pattern.List place elements) = omega (arith, most_patterns elements.items)
pattern_below (pattern.Operators items) = omega (arith, most_constructors items.rest.items)

-- expressions

most_expressions : (es : List Expression) → most expression_size es ≤ size_of_expressions (expressions_meaning [] es)
unfolding expression_size size_of_expressions
most_expressions [] = omega arith
most_expressions (e ∷ es) = omega (arith, most_expressions es)

most_operators : (is : List OperatorItem) → most operator_item_size is ≤ size_of_operator_rest (rest_meaning [] is)
unfolding expression_size size_of_operator_rest
most_operators [] = omega arith
most_operators (i ∷ is) = omega (arith, most_operators is)

most_declarations : (ds : List Declaration) → most declaration_size ds ≤ size_of_declarations (declarations_meaning [] ds)
unfolding declaration_size size_of_declarations
most_declarations [] = omega arith
most_declarations (d ∷ ds) = omega (arith, most_declarations ds)

most_alternatives : (alternatives : List Alternative) → most alternative_size alternatives ≤ size_of_alternatives (alternatives_meaning [] alternatives)
unfolding pattern_size right_size size_of_alternatives
most_alternatives [] = omega arith
most_alternatives (a ∷ alternatives) = omega (arith, most_alternatives alternatives)

qualifier_is : (q : Qualifier) → qualifier_size q ≤ size_of_qualifier (qualifier_meaning [] q)
unfolding pattern_size expression_size size_of_qualifier
qualifier_is (qualifier.Generator place p list) = omega arith
qualifier_is (qualifier.Declarations place local) = omega (arith, most_declarations local.items)
qualifier_is (qualifier.Condition place condition) = omega arith

most_qualifiers : (qs : List Qualifier) → most qualifier_size qs ≤ size_of_qualifiers (qualifiers_meaning [] qs)
unfolding size_of_qualifiers
most_qualifiers [] = omega arith
most_qualifiers (q ∷ qs) = omega (arith, qualifier_is q, most_qualifiers qs)

maybe_is : (e : Option Expression) → size_if_there e ≡ size_of_maybe (maybe_meaning [] e)
unfolding expression_size size_of_maybe
maybe_is None = refl
maybe_is (Some e) = refl

pub expression_below : (node : ExpressionNode) → ExpressionNodeIsBelow (size_of_expression (expression_node [] node)) node
unfolding expression_size size_of_expression
expression_below (expression.Variable place name) = tt
expression_below (expression.Constructor place name) = tt
expression_below (expression.Literal place value) = tt
expression_below (expression.Application place function arguments) = (omega arith, omega (arith, most_expressions arguments.items))
expression_below (expression.Operators items) = omega (arith, most_operators items.rest.items)
expression_below (expression.Lambda place parameters inner) = (omega (arith, most_patterns parameters.items), omega arith)
expression_below (expression.Let place local inner) = (omega (arith, most_declarations local.items), omega arith)
expression_below (expression.If place condition chosen other) = (omega arith, omega arith, omega arith)
expression_below (expression.Case place word subject alternatives) = (omega arith, omega (arith, most_alternatives alternatives.items))
expression_below (expression.Tuple place components) = omega (arith, most_expressions components.items)
expression_below (expression.TupleConstructor place count) = tt
expression_below (expression.LeftSection place operand operator) = omega arith
expression_below (expression.RightSection place operator operand) = omega arith
expression_below (expression.List place elements) = omega (arith, most_expressions elements.items)
expression_below (expression.Enumeration place numbers) = omega (arith, maybe_is numbers.second, maybe_is numbers.last)
expression_below (expression.Comprehension place element qualifiers) = (omega arith, omega (arith, most_qualifiers qualifiers.items))

-- declarations

most_guards : (guards : List Guard) → most guard_size guards ≤ size_of_guards (guards_meaning [] guards)
unfolding expression_size size_of_guards
most_guards [] = omega arith
most_guards (g ∷ guards) = omega (arith, most_guards guards)

pub declaration_below : (node : DeclarationNode) → DeclarationNodeIsBelow (size_of_declaration (declaration_node [] node)) node
unfolding type_size pattern_size right_size size_of_declaration
declaration_below (declaration.FreeVariables place variables) = tt
declaration_below (declaration.Signature place functions term) = omega arith
declaration_below (declaration.FunctionRule place name parameters right) = (omega (arith, most_patterns parameters.items), omega arith)
declaration_below (declaration.PatternBinding place p right) = (omega arith, omega arith)

right_parts : (at : Position) (found : Body) (local : List Declaration) (n : ℕ) → size_of_right (right_of at (body_meaning [] found) (declarations_meaning [] local)) ≡ n
    → (body_size found < n) × (most declaration_size local < n)
unfolding expression_size size_of_right
right_parts at (body.Plain e) local n is = (omega (arith, is), omega (arith, is, most_declarations local))
right_parts at (body.Guarded guards) local n is = (omega (arith, is, most_guards guards.items), omega (arith, is, most_declarations local))

-- what a result tells of a whole
pub ok_below : {N W E : Type 0} (told : N → W) (size : W → ℕ) (IsBelow : ℕ → N → Type 0) (r : Result N E) (whole : W) → ((node : N) → IsBelow (size (told node)) node)
    → IfOk r (λ node. told node ≡ whole) → IfOk r (IsBelow (size whole))
ok_below told size IsBelow (Ok node) whole below is = subst (λ n. IsBelow n node) (ap size is) (below node)
ok_below told size IsBelow (Err error) whole below is = tt

pub declaration_told : {E : Type 0} (d : Declaration) (r : Result DeclarationNode E) → IfOk r (λ node. declaration_node [] node ≡ declaration_meaning [] d) → IfOk r (DeclarationNodeIsBelow (declaration_size d))
unfolding declaration_size
declaration_told d r is = ok_below (declaration_node []) size_of_declaration DeclarationNodeIsBelow r (declaration_meaning [] d) declaration_below is

pub right_told : (right : RightSide) (at : Position) (found : Body) (local : List Declaration) → right_of at (body_meaning [] found) (declarations_meaning [] local) ≡ right_meaning [] right
    → (body_size found < right_size right) × (most declaration_size local < right_size right)
unfolding right_size
right_told right at found local is = right_parts at found local (size_of_right (right_meaning [] right)) (ap size_of_right is)
