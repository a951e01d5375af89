-- Parts of syntax whose tokens are those of a module, with names that a table has.
use Rattle.std.specs.Prelude.{◌≡◌, ℕ, List, IfSome}
use Rattle.std.specs.Int.{IsNonNegative}
use Rattle.std.specs.List.{All}
use Rattle.cu_lex.specs.Reading.{IsTokenOf}
use Rattle.cu_names.specs.Texts.{IsKnown}
use Rattle.cu_names.specs.declared.names.NameId.{NameId}
use Rattle.cu_names.specs.declared.place.Place.{Place}
use Rattle.cu_syntax.specs.declared.declaration_forms.Left.{Left}
use Rattle.cu_syntax.specs.declared.declaration_forms.Left.TheVariants as left
use Rattle.cu_syntax.specs.declared.declarations.Body.{Body}
use Rattle.cu_syntax.specs.declared.declarations.Body.TheVariants as body
use Rattle.cu_syntax.specs.declared.declarations.Declaration.{Declaration}
use Rattle.cu_syntax.specs.declared.declarations.DeclarationNode.{DeclarationNode}
use Rattle.cu_syntax.specs.declared.declarations.DeclarationNode.TheVariants as declaration
use Rattle.cu_syntax.specs.declared.declarations.Guard.{Guard}
use Rattle.cu_syntax.specs.declared.declarations.RightSide.{RightSide}
use Rattle.cu_syntax.specs.declared.declarations.RightSideNode.{RightSideNode}
use Rattle.cu_syntax.specs.declared.expressions.Alternative.{Alternative}
use Rattle.cu_syntax.specs.declared.expressions.Enumeration.{Enumeration}
use Rattle.cu_syntax.specs.declared.expressions.Expression.{Expression}
use Rattle.cu_syntax.specs.declared.expressions.ExpressionNode.{ExpressionNode}
use Rattle.cu_syntax.specs.declared.expressions.ExpressionNode.TheVariants as expression
use Rattle.cu_syntax.specs.declared.expressions.Items.{Items}
use Rattle.cu_syntax.specs.declared.expressions.OperatorItem.{OperatorItem}
use Rattle.cu_syntax.specs.declared.expressions.Qualifier.{Qualifier}
use Rattle.cu_syntax.specs.declared.expressions.Qualifier.TheVariants as qualifier
use Rattle.cu_syntax.specs.declared.items.ConstructorDeclaration.{ConstructorDeclaration}
use Rattle.cu_syntax.specs.declared.items.Constructors.{Constructors}
use Rattle.cu_syntax.specs.declared.items.Constructors.TheVariants as constructors
use Rattle.cu_syntax.specs.declared.items.Entity.{Entity}
use Rattle.cu_syntax.specs.declared.items.Entity.TheVariants as entity
use Rattle.cu_syntax.specs.declared.items.Export.{Export}
use Rattle.cu_syntax.specs.declared.items.Export.TheVariants as export
use Rattle.cu_syntax.specs.declared.items.Import.{Import}
use Rattle.cu_syntax.specs.declared.items.ImportList.{ImportList}
use Rattle.cu_syntax.specs.declared.items.ItemNode.{ItemNode}
use Rattle.cu_syntax.specs.declared.items.ItemNode.TheVariants as item
use Rattle.cu_syntax.specs.declared.name.Literal.{Literal}
use Rattle.cu_syntax.specs.declared.name.Literal.TheVariants as literal
use Rattle.cu_syntax.specs.declared.name.ModuleName.{ModuleName}
use Rattle.cu_syntax.specs.declared.name.Name.{Name}
use Rattle.cu_syntax.specs.declared.patterns.ConstructorItem.{ConstructorItem}
use Rattle.cu_syntax.specs.declared.patterns.PatItems.{PatItems}
use Rattle.cu_syntax.specs.declared.patterns.Pattern.{Pattern}
use Rattle.cu_syntax.specs.declared.patterns.PatternNode.{PatternNode}
use Rattle.cu_syntax.specs.declared.patterns.PatternNode.TheVariants as pattern
use Rattle.cu_syntax.specs.declared.subtree.Subtree.{Subtree}
use Rattle.cu_syntax.specs.declared.text.GoalText.{GoalText}
use Rattle.cu_syntax.specs.declared.text.Header as headers
use Rattle.cu_syntax.specs.declared.text.Item as texts
use Rattle.cu_syntax.specs.declared.text.Module as modules
use Rattle.cu_syntax.specs.declared.text.Parsed.{Parsed}
use Rattle.cu_syntax.specs.declared.types.TypeNode.{TypeNode}
use Rattle.cu_syntax.specs.declared.types.TypeNode.TheVariants as type_term
use Rattle.cu_syntax.specs.declared.types.TypeTerm.{TypeTerm}

-- A part of a tree whose tokens are those of a module, with names that a table has.
pub record IsOf (owner : NameId) (names : List (List ℕ)) (part : Subtree) : Type 0 where
  pub tokens : All (IsTokenOf owner names) part.tokens.now

-- ---- places and names (a literal has neither)

abbrev pub PlaceIsOf : NameId → Place → Type 0
PlaceIsOf owner place = place.«module» ≡ owner

pub record NameIsOf (owner : NameId) (names : List (List ℕ)) (name : Name) : Type 0 where
  pub place : PlaceIsOf owner name.place
  pub text : IsKnown names name.text
  pub qualifier : IfSome name.qualifier (IsKnown names)
  pub base : IsKnown names name.base

pub record ModuleNameIsOf (owner : NameId) (names : List (List ℕ))
    (name : ModuleName) : Type 0 where
  pub place : PlaceIsOf owner name.place
  pub text : IsKnown names name.text

-- the number of a literal isn't negative
abbrev pub LiteralIsNatural : Literal → Type 0
LiteralIsNatural (literal.Int n) = IsNonNegative n
LiteralIsNatural _ = Unit {0}

-- ---- views

abbrev pub TypeIsOf : NameId → List (List ℕ) → TypeTerm → Type 0
TypeIsOf owner names t = IsOf owner names t.tree

abbrev pub PatternIsOf : NameId → List (List ℕ) → Pattern → Type 0
PatternIsOf owner names p = IsOf owner names p.tree

abbrev pub ExpressionIsOf : NameId → List (List ℕ) → Expression → Type 0
ExpressionIsOf owner names e = IsOf owner names e.tree

abbrev pub DeclarationIsOf : NameId → List (List ℕ) → Declaration → Type 0
DeclarationIsOf owner names d = IsOf owner names d.tree

abbrev pub RightSideIsOf : NameId → List (List ℕ) → RightSide → Type 0
RightSideIsOf owner names right = IsOf owner names right.body × IsOf owner names right.local

-- ---- what views tell: each place, each name and each view in a node is of the module

abbrev pub TypeNodeIsOf : NameId → List (List ℕ) → TypeNode → Type 0
TypeNodeIsOf owner names (type_term.Variable name) = NameIsOf owner names name
TypeNodeIsOf owner names (type_term.Named name arguments) =
    NameIsOf owner names name × All (TypeIsOf owner names) arguments.items
TypeNodeIsOf owner names (type_term.Function first further result) =
    TypeIsOf owner names first × All (TypeIsOf owner names) further.items
    × TypeIsOf owner names result
TypeNodeIsOf owner names (type_term.Tuple place components) =
    PlaceIsOf owner place × All (TypeIsOf owner names) components.items
TypeNodeIsOf owner names (type_term.List place element) =
    PlaceIsOf owner place × TypeIsOf owner names element

abbrev pub ConstructorItemIsOf : NameId → List (List ℕ) → ConstructorItem → Type 0
ConstructorItemIsOf owner names i = NameIsOf owner names i.operator
    × PatternIsOf owner names i.operand

abbrev pub PatItemsAreOf : NameId → List (List ℕ) → PatItems → Type 0
PatItemsAreOf owner names i = PlaceIsOf owner i.place × PatternIsOf owner names i.first
    × All (ConstructorItemIsOf owner names) i.rest.items

abbrev pub PatternNodeIsOf : NameId → List (List ℕ) → PatternNode → Type 0
PatternNodeIsOf owner names (pattern.Variable name) = NameIsOf owner names name
PatternNodeIsOf owner names (pattern.Alias name inner) =
    NameIsOf owner names name × PatternIsOf owner names inner
PatternNodeIsOf owner names (pattern.Wildcard place) = PlaceIsOf owner place
PatternNodeIsOf owner names (pattern.Literal place value) =
    PlaceIsOf owner place × LiteralIsNatural value
PatternNodeIsOf owner names (pattern.Negative place number) =
    PlaceIsOf owner place × IsNonNegative number
PatternNodeIsOf owner names (pattern.Constructed place name arguments) =
    PlaceIsOf owner place × NameIsOf owner names name
    × All (PatternIsOf owner names) arguments.items
PatternNodeIsOf owner names (pattern.Tuple place components) =
    PlaceIsOf owner place × All (PatternIsOf owner names) components.items
PatternNodeIsOf owner names (pattern.List place elements) =
    PlaceIsOf owner place × All (PatternIsOf owner names) elements.items
PatternNodeIsOf owner names (pattern.Operators items) = PatItemsAreOf owner names items

abbrev pub OperatorItemIsOf : NameId → List (List ℕ) → OperatorItem → Type 0
OperatorItemIsOf owner names i = NameIsOf owner names i.operator × IfSome i.minus (PlaceIsOf owner)
    × ExpressionIsOf owner names i.operand

abbrev pub ItemsAreOf : NameId → List (List ℕ) → Items → Type 0
ItemsAreOf owner names i = PlaceIsOf owner i.place × IfSome i.minus (PlaceIsOf owner)
    × ExpressionIsOf owner names i.first × All (OperatorItemIsOf owner names) i.rest.items

abbrev pub AlternativeIsOf : NameId → List (List ℕ) → Alternative → Type 0
AlternativeIsOf owner names a = PlaceIsOf owner a.place × PatternIsOf owner names a.pattern
    × RightSideIsOf owner names a.right

abbrev pub EnumerationIsOf : NameId → List (List ℕ) → Enumeration → Type 0
EnumerationIsOf owner names e = ExpressionIsOf owner names e.first
    × IfSome e.second (ExpressionIsOf owner names) × IfSome e.last (ExpressionIsOf owner names)

abbrev pub QualifierIsOf : NameId → List (List ℕ) → Qualifier → Type 0
QualifierIsOf owner names (qualifier.Generator place p list) =
    PlaceIsOf owner place × PatternIsOf owner names p × ExpressionIsOf owner names list
QualifierIsOf owner names (qualifier.Declarations place declarations) =
    PlaceIsOf owner place × All (DeclarationIsOf owner names) declarations.items
QualifierIsOf owner names (qualifier.Condition place condition) =
    PlaceIsOf owner place × ExpressionIsOf owner names condition

abbrev pub ExpressionNodeIsOf : NameId → List (List ℕ) → ExpressionNode → Type 0
ExpressionNodeIsOf owner names (expression.Variable place name) =
    PlaceIsOf owner place × NameIsOf owner names name
ExpressionNodeIsOf owner names (expression.Constructor place name) =
    PlaceIsOf owner place × NameIsOf owner names name
ExpressionNodeIsOf owner names (expression.Literal place value) =
    PlaceIsOf owner place × LiteralIsNatural value
ExpressionNodeIsOf owner names (expression.Application place function arguments) =
    PlaceIsOf owner place × ExpressionIsOf owner names function
    × All (ExpressionIsOf owner names) arguments.items
ExpressionNodeIsOf owner names (expression.Operators items) = ItemsAreOf owner names items
ExpressionNodeIsOf owner names (expression.Lambda place parameters inner) =
    PlaceIsOf owner place × All (PatternIsOf owner names) parameters.items
    × ExpressionIsOf owner names inner
ExpressionNodeIsOf owner names (expression.Let place declarations inner) =
    PlaceIsOf owner place × All (DeclarationIsOf owner names) declarations.items
    × ExpressionIsOf owner names inner
ExpressionNodeIsOf owner names (expression.If place condition chosen other) =
    PlaceIsOf owner place × ExpressionIsOf owner names condition × ExpressionIsOf owner names chosen
    × ExpressionIsOf owner names other
ExpressionNodeIsOf owner names (expression.Case place word subject alternatives) =
    PlaceIsOf owner place × ExpressionIsOf owner names subject
    × All (AlternativeIsOf owner names) alternatives.items
ExpressionNodeIsOf owner names (expression.Tuple place components) =
    PlaceIsOf owner place × All (ExpressionIsOf owner names) components.items
ExpressionNodeIsOf owner names (expression.TupleConstructor place count) = PlaceIsOf owner place
ExpressionNodeIsOf owner names (expression.LeftSection place operand operator) =
    PlaceIsOf owner place × ExpressionIsOf owner names operand × NameIsOf owner names operator
ExpressionNodeIsOf owner names (expression.RightSection place operator operand) =
    PlaceIsOf owner place × NameIsOf owner names operator × ExpressionIsOf owner names operand
ExpressionNodeIsOf owner names (expression.List place elements) =
    PlaceIsOf owner place × All (ExpressionIsOf owner names) elements.items
ExpressionNodeIsOf owner names (expression.Enumeration place numbers) =
    PlaceIsOf owner place × EnumerationIsOf owner names numbers
ExpressionNodeIsOf owner names (expression.Comprehension place element qualifiers) =
    PlaceIsOf owner place × ExpressionIsOf owner names element
    × All (QualifierIsOf owner names) qualifiers.items

abbrev pub GuardIsOf : NameId → List (List ℕ) → Guard → Type 0
GuardIsOf owner names g = PlaceIsOf owner g.place × ExpressionIsOf owner names g.condition
    × ExpressionIsOf owner names g.expression

abbrev pub BodyIsOf : NameId → List (List ℕ) → Body → Type 0
BodyIsOf owner names (body.Plain inner) = ExpressionIsOf owner names inner
BodyIsOf owner names (body.Guarded guards) = All (GuardIsOf owner names) guards.items

abbrev pub RightSideNodeIsOf : NameId → List (List ℕ) → RightSideNode → Type 0
RightSideNodeIsOf owner names right = PlaceIsOf owner right.place × BodyIsOf owner names right.body
    × All (DeclarationIsOf owner names) right.local.items

abbrev pub LeftIsOf : NameId → List (List ℕ) → Left → Type 0
LeftIsOf owner names (left.Function name parameters) =
    NameIsOf owner names name × All (PatternIsOf owner names) parameters.items
LeftIsOf owner names (left.Pattern p) = PatternIsOf owner names p

abbrev pub DeclarationNodeIsOf : NameId → List (List ℕ) → DeclarationNode → Type 0
DeclarationNodeIsOf owner names (declaration.FreeVariables place variables) =
    PlaceIsOf owner place × All (NameIsOf owner names) variables.items
DeclarationNodeIsOf owner names (declaration.Signature place functions term) =
    PlaceIsOf owner place × All (NameIsOf owner names) functions.items × TypeIsOf owner names term
DeclarationNodeIsOf owner names (declaration.FunctionRule place name parameters right) =
    PlaceIsOf owner place × NameIsOf owner names name
    × All (PatternIsOf owner names) parameters.items × RightSideIsOf owner names right
DeclarationNodeIsOf owner names (declaration.PatternBinding place p right) =
    PlaceIsOf owner place × PatternIsOf owner names p × RightSideIsOf owner names right

-- ---- items, headers and goals

abbrev pub ConstructorsAreOf : NameId → List (List ℕ) → Constructors → Type 0
ConstructorsAreOf owner names constructors.None = Unit {0}
ConstructorsAreOf owner names constructors.All = Unit {0}
ConstructorsAreOf owner names (constructors.Only only) = All (NameIsOf owner names) only.items

abbrev pub EntityIsOf : NameId → List (List ℕ) → Entity → Type 0
EntityIsOf owner names (entity.Variable place name) =
    PlaceIsOf owner place × NameIsOf owner names name
EntityIsOf owner names (entity.Type place name which) =
    PlaceIsOf owner place × NameIsOf owner names name × ConstructorsAreOf owner names which

abbrev pub ExportIsOf : NameId → List (List ℕ) → Export → Type 0
ExportIsOf owner names (export.Module place name) =
    PlaceIsOf owner place × ModuleNameIsOf owner names name
ExportIsOf owner names (export.Entity e) = EntityIsOf owner names e

abbrev pub ImportListIsOf : NameId → List (List ℕ) → ImportList → Type 0
ImportListIsOf owner names list = All (EntityIsOf owner names) list.entities.items

abbrev pub ImportIsOf : NameId → List (List ℕ) → Import → Type 0
ImportIsOf owner names i =
    PlaceIsOf owner i.place × ModuleNameIsOf owner names i.name
    × IfSome i.alias (ModuleNameIsOf owner names) × IfSome i.list (ImportListIsOf owner names)

abbrev pub ConstructorDeclarationIsOf : NameId → List (List ℕ) → ConstructorDeclaration → Type 0
ConstructorDeclarationIsOf owner names c = PlaceIsOf owner c.place × NameIsOf owner names c.name
    × All (TypeIsOf owner names) c.fields.items

abbrev pub ItemNodeIsOf : NameId → List (List ℕ) → ItemNode → Type 0
ItemNodeIsOf owner names (item.Import i) = ImportIsOf owner names i
ItemNodeIsOf owner names (item.Fixity place side level operators) =
    PlaceIsOf owner place × All (NameIsOf owner names) operators.items
ItemNodeIsOf owner names (item.Data place name parameters constructors) =
    PlaceIsOf owner place × NameIsOf owner names name × All (NameIsOf owner names) parameters.items
    × All (ConstructorDeclarationIsOf owner names) constructors.items
ItemNodeIsOf owner names (item.Synonym place name parameters term) =
    PlaceIsOf owner place × NameIsOf owner names name × All (NameIsOf owner names) parameters.items
    × TypeIsOf owner names term
ItemNodeIsOf owner names (item.Declaration d) = DeclarationIsOf owner names d

pub record ParsedIsOf (owner : NameId) (names : List (List ℕ)) (parsed : Parsed) : Type 0 where
  pub tokens : All (IsTokenOf owner names) parsed.tokens.items

abbrev pub HeaderIsOf : NameId → List (List ℕ) → headers.Header → Type 0
HeaderIsOf owner names header = ParsedIsOf owner names header.parsed

abbrev pub ItemIsOf : NameId → List (List ℕ) → texts.Item → Type 0
ItemIsOf owner names i = ParsedIsOf owner names i.parsed

abbrev pub ModuleIsOf : NameId → List (List ℕ) → modules.Module → Type 0
ModuleIsOf owner names m = IfSome m.header (HeaderIsOf owner names)
    × All (ItemIsOf owner names) m.items.items

abbrev pub GoalIsOf : NameId → List (List ℕ) → GoalText → Type 0
GoalIsOf owner names goal = ParsedIsOf owner names goal.parsed
