-- The syntax of Curry modules and goals (Curry Report, appendix on syntax) as trees. Names are
-- texts. A node has the place of its first token, unless it begins with the token of its name.
-- Parentheses round one thing alone leave no node.
use Rattle.std.specs.Prelude.{ℕ, ℤ, Bool, List, Option}
use Rattle.cu_lex.specs.Located.{Position}
use Rattle.cu_syntax.specs.declared.expressions.CaseWord.{CaseWord}
use Rattle.cu_syntax.specs.declared.items.Side.{Side}

-- A name or an operator where it stands: its text, its qualifier, if it has one, the text without
-- the qualifier, and the place of its token, inside the parentheses or backquotes round it.
pub record Name : Type 0 where
  pub text : List ℕ
  pub qualifier : Option (List ℕ)
  pub base : List ℕ
  pub at : Position

-- the name of a module, with its dots
pub record ModuleName : Type 0 where
  pub text : List ℕ
  pub at : Position

pub data Literal : Type 0 where
  Int : ℤ → Literal
  Char : ℕ → Literal
  String : List ℕ → Literal

mutual
  pub data TypeTerm : Type 0 where
    TypeVariable : Name → TypeTerm
    -- a type constructor on its arguments, or alone
    TypeNamed : Name → TypeTerms → TypeTerm
    Arrow : Position → TypeTerm → TypeTerm → TypeTerm
    -- the type of tuples of these components, and unit where there are none
    TypeTuple : Position → TypeTerms → TypeTerm
    TypeList : Position → TypeTerm → TypeTerm

  pub data TypeTerms : Type 0 where
    NoType : TypeTerms
    MoreTypes : TypeTerm → TypeTerms → TypeTerms

mutual
  pub data Pattern : Type 0 where
    PatternVariable : Name → Pattern
    As : Name → Pattern → Pattern
    Wildcard : Position → Pattern
    PatternLiteral : Position → Literal → Pattern
    -- a constructor on its arguments, or alone
    Constructed : Position → Name → Patterns → Pattern
    -- the tuple of these components, and unit where there are none
    PatternTuple : Position → Patterns → Pattern
    PatternList : Position → Patterns → Pattern
    -- patterns with constructor operators between them, not grouped
    PatternOperators : Position → Pattern → PatternRest → Pattern

  pub data Patterns : Type 0 where
    NoPattern : Patterns
    MorePatterns : Pattern → Patterns → Patterns

  pub data PatternRest : Type 0 where
    NoConstructor : PatternRest
    ThenConstructor : Name → Pattern → PatternRest → PatternRest

mutual
  pub data Expression : Type 0 where
    Variable : Position → Name → Expression
    Constructor : Position → Name → Expression
    LiteralExpression : Position → Literal → Expression
    -- an expression on one argument or more
    Application : Position → Expression → Expressions → Expression
    -- The place of a minus before the first operand, if there is one, the operand, and operators
    -- with the other operands, not grouped. There is a minus or an operator.
    Operators : Position → Option Position → Expression → OperatorRest → Expression
    Lambda : Position → Patterns → Expression → Expression
    Let : Position → Declarations → Expression → Expression
    If : Position → Expression → Expression → Expression → Expression
    Case : Position → CaseWord → Expression → Alternatives → Expression
    -- the tuple of these components, and unit where there are none
    Tuple : Position → Expressions → Expression
    -- the constructor of tuples of so many components
    TupleConstructor : Position → ℕ → Expression
    LeftSection : Position → Expression → Name → Expression
    RightSection : Position → Name → Expression → Expression
    ListOf : Position → Expressions → Expression
    -- from the first number, by the step to the second, if it is there, and up to the last, if it
    -- is there
    Enumeration : Position → Expression → MaybeExpression → MaybeExpression → Expression
    Comprehension : Position → Expression → Qualifiers → Expression

  pub data Expressions : Type 0 where
    NoExpression : Expressions
    MoreExpressions : Expression → Expressions → Expressions

  pub data MaybeExpression : Type 0 where
    Absent : MaybeExpression
    Present : Expression → MaybeExpression

  -- operators, each with a minus before its right operand, or without, and that operand
  pub data OperatorRest : Type 0 where
    NoOperator : OperatorRest
    ThenOperator : Name → Option Position → Expression → OperatorRest → OperatorRest

  pub data Alternatives : Type 0 where
    NoAlternative : Alternatives
    -- a pattern, the right-hand side, and the alternatives after it
    MoreAlternatives : Position → Pattern → RightSide → Alternatives → Alternatives

  -- what follows the equals sign or the arrow, and the local declarations
  pub data RightSide : Type 0 where
    Plain : Position → Expression → Declarations → RightSide
    Guarded : Position → Guards → Declarations → RightSide

  pub data Guards : Type 0 where
    NoGuard : Guards
    -- a condition, its expression, and the guards after it
    MoreGuards : Position → Expression → Expression → Guards → Guards

  pub data Declarations : Type 0 where
    NoDeclaration : Declarations
    MoreDeclarations : Declaration → Declarations → Declarations

  pub data Declaration : Type 0 where
    FreeVariables : Position → List Name → Declaration
    Signature : Position → List Name → TypeTerm → Declaration
    -- A rule of a function. One without parameters is that of a variable, where it is local.
    FunctionRule : Position → Name → Patterns → RightSide → Declaration
    PatternBinding : Position → Pattern → RightSide → Declaration

  pub data Qualifiers : Type 0 where
    NoQualifier : Qualifiers
    MoreQualifiers : Qualifier → Qualifiers → Qualifiers

  pub data Qualifier : Type 0 where
    Generator : Position → Pattern → Expression → Qualifier
    LocalDeclarations : Position → Declarations → Qualifier
    Condition : Position → Expression → Qualifier

-- which constructors an import or export list names with a type
pub data ConstructorsNamed : Type 0 where
  NoneOfThem : ConstructorsNamed
  AllOfThem : ConstructorsNamed
  Only : List Name → ConstructorsNamed

pub data Entity : Type 0 where
  VariableEntity : Position → Name → Entity
  TypeEntity : Position → Name → ConstructorsNamed → Entity

pub data Export : Type 0 where
  ModuleExport : Position → ModuleName → Export
  EntityExport : Entity → Export

pub record Header : Type 0 where
  pub at : Position
  pub name : ModuleName
  pub exports : Option (List Export)

-- the entities that an import names, or those that it hides
pub record ImportList : Type 0 where
  pub hides : Bool
  pub entities : List Entity

pub record Import : Type 0 where
  pub at : Position
  pub qualified : Bool
  pub name : ModuleName
  pub alias : Option ModuleName
  pub list : Option ImportList

pub record ConstructorDeclaration : Type 0 where
  pub at : Position
  pub name : Name
  pub fields : TypeTerms

pub data Item : Type 0 where
  ImportItem : Import → Item
  Fixity : Position → Side → ℕ → List Name → Item
  Data : Position → Name → List Name → List ConstructorDeclaration → Item
  Synonym : Position → Name → List Name → TypeTerm → Item
  -- a signature or a rule
  DeclarationItem : Declaration → Item

pub record Module : Type 0 where
  pub header : Option Header
  pub items : List Item

-- an expression, and the variables that the goal declares free
pub record Goal : Type 0 where
  pub expression : Expression
  pub free : List Name

-- ---- places: each is that of the first token, without parentheses round the whole

abbrev pub type_position : TypeTerm → Position
type_position (TypeVariable name) = name.at
type_position (TypeNamed name arguments) = name.at
type_position (Arrow at parameter result) = at
type_position (TypeTuple at components) = at
type_position (TypeList at element) = at

abbrev pub pattern_position : Pattern → Position
pattern_position (PatternVariable name) = name.at
pattern_position (As name inner) = name.at
pattern_position (Wildcard at) = at
pattern_position (PatternLiteral at found) = at
pattern_position (Constructed at name arguments) = at
pattern_position (PatternTuple at components) = at
pattern_position (PatternList at elements) = at
pattern_position (PatternOperators at first rest) = at

abbrev pub expression_position : Expression → Position
expression_position (Variable at name) = at
expression_position (Constructor at name) = at
expression_position (LiteralExpression at found) = at
expression_position (Application at function arguments) = at
expression_position (Operators at minus first rest) = at
expression_position (Lambda at parameters body) = at
expression_position (Let at local body) = at
expression_position (If at condition chosen other) = at
expression_position (Case at word subject alternatives) = at
expression_position (Tuple at components) = at
expression_position (TupleConstructor at count) = at
expression_position (LeftSection at operand operator) = at
expression_position (RightSection at operator operand) = at
expression_position (ListOf at elements) = at
expression_position (Enumeration at first second last) = at
expression_position (Comprehension at element qualifiers) = at

abbrev pub declaration_position : Declaration → Position
declaration_position (FreeVariables at names) = at
declaration_position (Signature at names term) = at
declaration_position (FunctionRule at name parameters right) = at
declaration_position (PatternBinding at pattern right) = at
