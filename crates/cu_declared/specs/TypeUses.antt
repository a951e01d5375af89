-- Where a text uses the names of types, and on how many arguments, in the order of the text. Types
-- stand in the fields of constructors, on the right of synonyms, and in signatures, of top level
-- and of every block inside an expression. The signs of lists, tuples, unit and functions are no
-- names.
use Rattle.std.specs.Prelude.{ℕ, ◌+◌, List, [], ◌∷◌, ◌++◌}
use Rattle.std.specs.List.{flat_map}
use Rattle.cu_syntax.specs.Syntax as syntax
use Rattle.cu_syntax.specs.Syntax.{Alternatives, ConstructorDeclaration, Declaration, Declarations}
use Rattle.cu_syntax.specs.Syntax.{Expression, Expressions, Goal, Guards, Item, MaybeExpression}
use Rattle.cu_syntax.specs.Syntax.{Name, OperatorRest, Qualifier, Qualifiers, RightSide}
use Rattle.cu_syntax.specs.Syntax.{TypeTerm, TypeTerms}

-- the name of a type where it stands, and the number of its arguments there
pub record TypeUse : Type 0 where
  pub name : Name
  pub arguments : ℕ

abbrev pub type_count : TypeTerms → ℕ
type_count syntax.NoType = 0
type_count (syntax.MoreTypes t ts) = type_count ts + 1

abbrev pub use_of : Name → TypeTerms → TypeUse
use_of name ts = record { name = name; arguments = type_count ts }

abbrev mutual
  pub type_uses : TypeTerm → List TypeUse
  type_uses (syntax.TypeVariable x) = []
  type_uses (syntax.TypeNamed name ts) = use_of name ts ∷ types_uses ts
  type_uses (syntax.Arrow at s t) = type_uses s ++ type_uses t
  type_uses (syntax.TypeTuple at ts) = types_uses ts
  type_uses (syntax.TypeList at t) = type_uses t

  pub types_uses : TypeTerms → List TypeUse
  types_uses syntax.NoType = []
  types_uses (syntax.MoreTypes t ts) = type_uses t ++ types_uses ts

-- ---- expressions: the signatures in their blocks

abbrev mutual
  pub expression_uses : Expression → List TypeUse
  expression_uses (syntax.Variable at name) = []
  expression_uses (syntax.Constructor at name) = []
  expression_uses (syntax.LiteralExpression at found) = []
  expression_uses (syntax.Application at function arguments) =
      expression_uses function ++ expressions_uses arguments
  expression_uses (syntax.Operators at minus first rest) = expression_uses first ++ rest_uses rest
  expression_uses (syntax.Lambda at parameters body) = expression_uses body
  expression_uses (syntax.Let at ds body) = declarations_uses ds ++ expression_uses body
  expression_uses (syntax.If at condition chosen other) =
      expression_uses condition ++ (expression_uses chosen ++ expression_uses other)
  expression_uses (syntax.Case at word subject alternatives) =
      expression_uses subject ++ alternatives_uses alternatives
  expression_uses (syntax.Tuple at components) = expressions_uses components
  expression_uses (syntax.TupleConstructor at count) = []
  expression_uses (syntax.LeftSection at operand operator) = expression_uses operand
  expression_uses (syntax.RightSection at operator operand) = expression_uses operand
  expression_uses (syntax.ListOf at elements) = expressions_uses elements
  expression_uses (syntax.Enumeration at first second last) =
      expression_uses first ++ (maybe_uses second ++ maybe_uses last)
  expression_uses (syntax.Comprehension at element qualifiers) =
      expression_uses element ++ qualifiers_uses qualifiers

  pub expressions_uses : Expressions → List TypeUse
  expressions_uses syntax.NoExpression = []
  expressions_uses (syntax.MoreExpressions e es) = expression_uses e ++ expressions_uses es

  pub maybe_uses : MaybeExpression → List TypeUse
  maybe_uses syntax.Absent = []
  maybe_uses (syntax.Present e) = expression_uses e

  pub rest_uses : OperatorRest → List TypeUse
  rest_uses syntax.NoOperator = []
  rest_uses (syntax.ThenOperator operator minus operand rest) =
      expression_uses operand ++ rest_uses rest

  pub alternatives_uses : Alternatives → List TypeUse
  alternatives_uses syntax.NoAlternative = []
  alternatives_uses (syntax.MoreAlternatives at p right alternatives) =
      right_uses right ++ alternatives_uses alternatives

  pub right_uses : RightSide → List TypeUse
  right_uses (syntax.Plain at e ds) = expression_uses e ++ declarations_uses ds
  right_uses (syntax.Guarded at guards ds) = guards_uses guards ++ declarations_uses ds

  pub guards_uses : Guards → List TypeUse
  guards_uses syntax.NoGuard = []
  guards_uses (syntax.MoreGuards at condition e guards) =
      expression_uses condition ++ (expression_uses e ++ guards_uses guards)

  pub declarations_uses : Declarations → List TypeUse
  declarations_uses syntax.NoDeclaration = []
  declarations_uses (syntax.MoreDeclarations d ds) = declaration_uses d ++ declarations_uses ds

  pub declaration_uses : Declaration → List TypeUse
  declaration_uses (syntax.FreeVariables at names) = []
  declaration_uses (syntax.Signature at names t) = type_uses t
  declaration_uses (syntax.FunctionRule at name parameters right) = right_uses right
  declaration_uses (syntax.PatternBinding at p right) = right_uses right

  pub qualifiers_uses : Qualifiers → List TypeUse
  qualifiers_uses syntax.NoQualifier = []
  qualifiers_uses (syntax.MoreQualifiers q qualifiers) =
      qualifier_uses q ++ qualifiers_uses qualifiers

  pub qualifier_uses : Qualifier → List TypeUse
  qualifier_uses (syntax.Generator at p list) = expression_uses list
  qualifier_uses (syntax.LocalDeclarations at ds) = declarations_uses ds
  qualifier_uses (syntax.Condition at condition) = expression_uses condition

-- ---- modules and goals

abbrev pub constructor_uses : ConstructorDeclaration → List TypeUse
constructor_uses c = types_uses c.fields

abbrev pub item_uses : Item → List TypeUse
item_uses (syntax.ImportItem found) = []
item_uses (syntax.Fixity at to level operators) = []
item_uses (syntax.Data at name parameters constructors) = flat_map constructor_uses constructors
item_uses (syntax.Synonym at name parameters meant) = type_uses meant
item_uses (syntax.DeclarationItem d) = declaration_uses d

abbrev pub items_uses : List Item → List TypeUse
items_uses items = flat_map item_uses items

abbrev pub goal_uses : Goal → List TypeUse
goal_uses goal = expression_uses goal.expression
