-- What the trees of the grammar mean, as syntax. A tree of another shape than the grammar gives
-- stands for something small.
use Rattle.std.specs.Prelude.{ℕ, ◌+◌, pos, Bool, true, false, List, [], ◌∷◌, ◌++◌, Option, None, Some}
use Rattle.std.specs.Option.{option_map, unwrap_or}
use Rattle.std.proofs.Math.IntN.{neg_ℤ}
use Rattle.cu_lex.specs.Kind as kind
use Rattle.cu_lex.specs.Kind.{Kind, Spelling}
use Rattle.cu_lex.specs.Located.{Position, first_position}
use Rattle.cu_lex.specs.Tokens.{Lexeme}
use Rattle.cu_peg.specs.Parse.{ParseTree, ParseTrees, Leaf, Parts, Chosen, NoTree, MoreTrees}
use Rattle.cu_syntax.specs.declared.symbol.Symbol.{Symbol}
use Rattle.cu_syntax.specs.declared.symbol.Symbol.TheVariants as symbol
use Rattle.cu_syntax.specs.declared.expressions.CaseWord.{CaseWord}
use Rattle.cu_syntax.specs.declared.expressions.CaseWord.TheVariants as case_words
use Rattle.cu_syntax.specs.declared.items.Side.{Side}
use Rattle.cu_syntax.specs.declared.items.Side.TheVariants as sides
use Rattle.cu_syntax.specs.Syntax as syntax
use Rattle.cu_syntax.specs.Syntax.{Alternatives, ConstructorDeclaration, ConstructorsNamed, Declaration, Declarations, Entity, Export, Expression, Expressions, Goal, Guards, Header, Import, ImportList, Item, Literal, MaybeExpression, ModuleName, Name, OperatorRest, Pattern, PatternRest, Patterns, Qualifier, Qualifiers, RightSide, TypeTerm, TypeTerms}
use Rattle.cu_syntax.specs.Table.{alternative}

abbrev pub Tree : Type 0
Tree = ParseTree Lexeme

abbrev pub Trees : Type 0
Trees = ParseTrees Lexeme

-- ---- tokens

abbrev pub or_else : Option Lexeme → Option Lexeme → Option Lexeme
or_else (Some x) other = Some x
or_else None other = other

abbrev mutual
  -- the first token of a tree, if it has one
  pub first_token : Tree → Option Lexeme
  first_token (Leaf x) = Some x
  first_token (Parts trees) = first_of trees
  first_token (Chosen n tree) = first_token tree

  pub first_of : Trees → Option Lexeme
  first_of NoTree = None
  first_of (MoreTrees tree trees) = or_else (first_token tree) (first_of trees)

abbrev pub place : Tree → Position
place tree = elim (first_token tree) [ Some x ↦ x.at | None ↦ first_position ]

-- whether an optional part of a production was matched
abbrev pub is_there : Tree → Bool
is_there (Parts NoTree) = false
is_there _ = true

abbrev pub spelling : Kind → Spelling
spelling (kind.VarId name) = name
spelling (kind.ConId name) = name
spelling (kind.VarOp name) = name
spelling (kind.ConOp name) = name
spelling _ = record { text = []; qualifier = None; base = []; special = None }

-- the name or operator that is the token of a tree, inside parentheses or backquotes
abbrev pub name_token : Tree → Lexeme
name_token (Leaf x) = x
name_token (Chosen n tree) = name_token tree
name_token (Parts (MoreTrees before (MoreTrees tree after))) = name_token tree
name_token _ = record { what = kind.Int (pos 0); at = first_position }

abbrev pub name_of : Tree → Name
name_of tree =
    let token = name_token tree in
    let name = spelling token.what
    in record { text = name.text; qualifier = name.qualifier; base = name.base; at = token.at }

abbrev pub module_name : Tree → ModuleName
module_name tree = let token =
    name_token tree in record { text = (spelling token.what).text; at = token.at }

abbrev pub names_of : Trees → List Name
names_of NoTree = []
names_of (MoreTrees tree trees) = name_of tree ∷ names_of trees

-- the names in the tree of a repeated symbol
abbrev pub names_in : Tree → List Name
names_in (Parts trees) = names_of trees
names_in _ = []

abbrev pub literal_token : Kind → Literal
literal_token (kind.Int n) = syntax.Int n
literal_token (kind.Char c) = syntax.Char c
literal_token (kind.String s) = syntax.String s
literal_token _ = syntax.Int (pos 0)

abbrev pub literal_of : Tree → Literal
literal_of tree = elim (first_token tree) [
  | Some x ↦ literal_token x.what
  | None ↦ syntax.Int (pos 0)
]

-- ---- types

abbrev pub no_type : TypeTerm
no_type = syntax.TypeTuple first_position syntax.NoType

-- the type that types between parentheses are: one alone is itself, and else they are a tuple
abbrev pub type_tuple : Position → TypeTerms → TypeTerm
type_tuple at (syntax.MoreTypes t syntax.NoType) = t
type_tuple at types = syntax.TypeTuple at types

abbrev mutual
  pub type_of : Tree → TypeTerm
  type_of (Parts trees) = arrows trees
  type_of _ = no_type

  -- the type of a row of types with arrows between them, which associate to the right
  pub arrows : Trees → TypeTerm
  arrows NoTree = no_type
  arrows (MoreTrees tree NoTree) = type_choice symbol.BType tree
  arrows (MoreTrees tree (MoreTrees next trees)) =
      syntax.Arrow (place tree) (type_choice symbol.BType tree) (arrows (MoreTrees next trees))

  pub type_choice : Symbol → Tree → TypeTerm
  type_choice s (Chosen n tree) = type_as (alternative s n) tree
  type_choice s _ = no_type

  pub type_as : Symbol → Tree → TypeTerm
  type_as symbol.TypeApplication (Parts (MoreTrees name (MoreTrees (Parts arguments) NoTree))) =
      syntax.TypeNamed (name_of name) (argument_types arguments)
  type_as symbol.AType (Chosen n tree) = type_as (alternative symbol.AType n) tree
  type_as symbol.QConId tree = syntax.TypeNamed (name_of tree) syntax.NoType
  type_as symbol.VarId tree = syntax.TypeVariable (name_of tree)
  type_as symbol.Unit tree = syntax.TypeTuple (place tree) syntax.NoType
  type_as symbol.TupleType
      (Parts
      (MoreTrees opening
      (MoreTrees limit (MoreTrees (Parts components) (MoreTrees closing NoTree))))) =
      type_tuple (place opening) (types_of components)
  type_as symbol.ListType
      (Parts (MoreTrees opening (MoreTrees element (MoreTrees closing NoTree)))) =
      syntax.TypeList (place opening) (type_of element)
  type_as _ _ = no_type

  pub argument_types : Trees → TypeTerms
  argument_types NoTree = syntax.NoType
  argument_types (MoreTrees tree trees) =
      syntax.MoreTypes (type_choice symbol.AType tree) (argument_types trees)

  pub types_of : Trees → TypeTerms
  types_of NoTree = syntax.NoType
  types_of (MoreTrees tree trees) = syntax.MoreTypes (type_of tree) (types_of trees)

-- ---- patterns

abbrev pub no_pattern : Pattern
no_pattern = syntax.Wildcard first_position

abbrev pub pattern_tuple : Position → Patterns → Pattern
pattern_tuple at (syntax.MorePatterns p syntax.NoPattern) = p
pattern_tuple at patterns = syntax.PatternTuple at patterns

abbrev pub with_operators : Position → Pattern → PatternRest → Pattern
with_operators at p syntax.NoConstructor = p
with_operators at p rest = syntax.PatternOperators at p rest

abbrev pub negated : Literal → Literal
negated (syntax.Int n) = syntax.Int (neg_ℤ n)
negated l = l

abbrev mutual
  pub pattern_of : Tree → Pattern
  pattern_of (Parts (MoreTrees first (MoreTrees (Parts further) NoTree))) =
      with_operators (place first) (pattern_choice symbol.ConPat first) (pattern_rest further)
  pattern_of _ = no_pattern

  pub pattern_rest : Trees → PatternRest
  pattern_rest (MoreTrees (Parts (MoreTrees operator (MoreTrees operand NoTree))) trees) =
      syntax.ThenConstructor (name_of operator) (pattern_choice symbol.ConPat operand)
      (pattern_rest trees)
  pattern_rest _ = syntax.NoConstructor

  pub pattern_choice : Symbol → Tree → Pattern
  pattern_choice s (Chosen n tree) = pattern_as (alternative s n) tree
  pattern_choice s _ = no_pattern

  pub pattern_as : Symbol → Tree → Pattern
  pattern_as symbol.NegativePat (Parts (MoreTrees minus (MoreTrees number NoTree))) =
      syntax.PatternLiteral (place minus) (negated (literal_of number))
  pattern_as symbol.ConApplication (Parts (MoreTrees name (MoreTrees (Parts arguments) NoTree))) =
      syntax.Constructed (place name) (name_of name) (argument_patterns arguments)
  pattern_as symbol.APat (Chosen n tree) = pattern_as (alternative symbol.APat n) tree
  pattern_as symbol.AliasPat (Parts (MoreTrees name (MoreTrees at (MoreTrees tree NoTree)))) =
      syntax.As (name_of name) (pattern_choice symbol.APat tree)
  pattern_as symbol.VarId tree = syntax.PatternVariable (name_of tree)
  pattern_as symbol.Underscore tree = syntax.Wildcard (place tree)
  pattern_as symbol.Literal tree = syntax.PatternLiteral (place tree) (literal_of tree)
  pattern_as symbol.QCon tree = syntax.Constructed (place tree) (name_of tree) syntax.NoPattern
  pattern_as symbol.Unit tree = syntax.PatternTuple (place tree) syntax.NoPattern
  pattern_as symbol.TuplePat
      (Parts
      (MoreTrees opening
      (MoreTrees limit (MoreTrees (Parts components) (MoreTrees closing NoTree))))) =
      pattern_tuple (place opening) (patterns_of components)
  pattern_as symbol.ListPat
      (Parts (MoreTrees opening (MoreTrees elements (MoreTrees closing NoTree)))) =
      syntax.PatternList (place opening) (optional_patterns elements)
  pattern_as _ _ = no_pattern

  pub optional_patterns : Tree → Patterns
  optional_patterns (Parts (MoreTrees (Parts elements) NoTree)) = patterns_of elements
  optional_patterns _ = syntax.NoPattern

  pub argument_patterns : Trees → Patterns
  argument_patterns NoTree = syntax.NoPattern
  argument_patterns (MoreTrees tree trees) =
      syntax.MorePatterns (pattern_choice symbol.APat tree) (argument_patterns trees)

  pub patterns_of : Trees → Patterns
  patterns_of NoTree = syntax.NoPattern
  patterns_of (MoreTrees tree trees) = syntax.MorePatterns (pattern_of tree) (patterns_of trees)

-- the patterns in the tree of a repeated argument
abbrev pub arguments_in : Tree → Patterns
arguments_in (Parts trees) = argument_patterns trees
arguments_in _ = syntax.NoPattern

abbrev pub and_patterns : Patterns → Patterns → Patterns
and_patterns syntax.NoPattern others = others
and_patterns (syntax.MorePatterns p patterns) others =
    syntax.MorePatterns p (and_patterns patterns others)

-- ---- left-hand sides of rules

-- the left-hand side of a rule: a function on parameters, or a pattern
pub data LeftSide : Type 0 where
  OfFunction : Name → Patterns → LeftSide
  OfPattern : Pattern → LeftSide

abbrev pub with_arguments : LeftSide → Patterns → LeftSide
with_arguments (OfFunction f parameters) further = OfFunction f (and_patterns parameters further)
with_arguments (OfPattern p) further = OfPattern p

abbrev mutual
  pub left_choice : Symbol → Tree → LeftSide
  left_choice s (Chosen n tree) = left_as (alternative s n) tree
  left_choice s _ = OfPattern no_pattern

  pub left_as : Symbol → Tree → LeftSide
  left_as symbol.InfixLhs (Parts (MoreTrees left (MoreTrees operator (MoreTrees right NoTree)))) =
      OfFunction (name_of operator)
      (syntax.MorePatterns (pattern_of left)
      (syntax.MorePatterns (pattern_of right) syntax.NoPattern))
  left_as symbol.ParenthesizedLhs
      (Parts
      (MoreTrees opening (MoreTrees inner (MoreTrees closing (MoreTrees arguments NoTree))))) =
      with_arguments (left_choice symbol.Lhs inner) (arguments_in arguments)
  left_as symbol.PrefixLhs
      (Parts (MoreTrees name (MoreTrees parameters (MoreTrees ahead NoTree)))) =
      OfFunction (name_of name) (arguments_in parameters)
  left_as symbol.PatternLhs (Parts (MoreTrees pattern (MoreTrees ahead NoTree))) =
      OfPattern (pattern_of pattern)
  left_as _ _ = OfPattern no_pattern

-- the declaration that a rule is: a variable alone, in parentheses too, is defined like a function
-- without parameters
abbrev pub rule_of : Position → LeftSide → RightSide → Declaration
rule_of at (OfFunction f parameters) right = syntax.FunctionRule at f parameters right
rule_of at (OfPattern (syntax.PatternVariable x)) right =
    syntax.FunctionRule at x syntax.NoPattern right
rule_of at (OfPattern p) right = syntax.PatternBinding at p right

-- ---- expressions and declarations

abbrev pub no_expression : Expression
no_expression = syntax.Tuple first_position syntax.NoExpression

abbrev pub tuple : Position → Expressions → Expression
tuple at (syntax.MoreExpressions e syntax.NoExpression) = e
tuple at components = syntax.Tuple at components

abbrev pub applied : Position → Expression → Expressions → Expression
applied at e syntax.NoExpression = e
applied at e arguments = syntax.Application at e arguments

abbrev pub minus_of : Tree → Option Position
minus_of tree = option_map (λ x. x.at) (first_token tree)

abbrev pub operators : Position → Option Position → Expression → OperatorRest → Expression
operators at None e syntax.NoOperator = e
operators at minus e rest = syntax.Operators at minus e rest

abbrev pub count : Trees → ℕ
count NoTree = 0
count (MoreTrees tree trees) = count trees + 1

-- how many parts the tree of a repeated symbol has
abbrev pub count_in : Tree → ℕ
count_in (Parts trees) = count trees
count_in _ = 0

abbrev pub case_word : Tree → CaseWord
case_word (Chosen n tree) = case_word_as (alternative symbol.CaseWord n)
  where
    case_word_as : Symbol → CaseWord
    case_word_as symbol.Case = case_words.Case
    case_word_as s = case_words.Fcase
case_word _ = case_words.Fcase

abbrev mutual
  pub expression_of : Tree → Expression
  expression_of (Parts trees) = expression_parts trees
  expression_of _ = no_expression

  pub expression_parts : Trees → Expression
  expression_parts (MoreTrees minus (MoreTrees first (MoreTrees (Parts further) NoTree))) =
      operators (unwrap_or (minus_of minus) (place first)) (minus_of minus)
      (expression_choice symbol.Operand first) (operator_rest further)
  expression_parts _ = no_expression

  pub operator_rest : Trees → OperatorRest
  operator_rest
      (MoreTrees (Parts (MoreTrees operator (MoreTrees minus (MoreTrees operand NoTree)))) trees) =
      syntax.ThenOperator (name_of operator) (minus_of minus)
      (expression_choice symbol.Operand operand) (operator_rest trees)
  operator_rest _ = syntax.NoOperator

  pub expression_choice : Symbol → Tree → Expression
  expression_choice s (Chosen n tree) = expression_as (alternative s n) tree
  expression_choice s _ = no_expression

  pub expression_as : Symbol → Tree → Expression
  -- operands
  expression_as symbol.Lambda
      (Parts
      (MoreTrees backslash (MoreTrees parameters (MoreTrees arrow (MoreTrees body NoTree))))) =
      syntax.Lambda (place backslash) (arguments_in parameters) (expression_of body)
  expression_as symbol.LetExp
      (Parts (MoreTrees word (MoreTrees block (MoreTrees in_word (MoreTrees body NoTree))))) =
      syntax.Let (place word) (block_of block) (expression_of body)
  expression_as symbol.IfExp
      (Parts
      (MoreTrees word
      (MoreTrees condition
      (MoreTrees then_word
      (MoreTrees chosen (MoreTrees else_word (MoreTrees other NoTree))))))) =
      syntax.If (place word) (expression_of condition) (expression_of chosen) (expression_of other)
  expression_as symbol.CaseExp
      (Parts
      (MoreTrees word
      (MoreTrees subject
      (MoreTrees of_word
      (MoreTrees opening
      (MoreTrees (Parts alternatives) (MoreTrees closing NoTree))))))) =
      syntax.Case (place word) (case_word word) (expression_of subject)
      (alternatives_of alternatives)
  expression_as symbol.Application (Parts (MoreTrees function arguments)) =
      applied (place function) (expression_choice symbol.Atom function) (atoms_of arguments)
  -- atoms
  expression_as symbol.Literal tree = syntax.LiteralExpression (place tree) (literal_of tree)
  expression_as symbol.QVar tree = syntax.Variable (place tree) (name_of tree)
  expression_as symbol.QCon tree = syntax.Constructor (place tree) (name_of tree)
  expression_as symbol.Unit tree = syntax.Tuple (place tree) syntax.NoExpression
  expression_as symbol.TupleCon
      (Parts (MoreTrees opening (MoreTrees limit (MoreTrees commas (MoreTrees closing NoTree))))) =
      syntax.TupleConstructor (place opening) (count_in commas + 1)
  expression_as symbol.RightSection
      (Parts
      (MoreTrees opening
      (MoreTrees no_minus
      (MoreTrees operator (MoreTrees operand (MoreTrees closing NoTree)))))) =
      syntax.RightSection (place opening) (name_of operator) (expression_of operand)
  expression_as symbol.LeftSection
      (Parts
      (MoreTrees opening (MoreTrees operand (MoreTrees operator (MoreTrees closing NoTree))))) =
      syntax.LeftSection (place opening) (expression_of operand) (name_of operator)
  expression_as symbol.Tuple
      (Parts
      (MoreTrees opening
      (MoreTrees limit (MoreTrees (Parts components) (MoreTrees closing NoTree))))) =
      tuple (place opening) (expressions_of components)
  expression_as symbol.EmptyList tree = syntax.ListOf (place tree) syntax.NoExpression
  expression_as symbol.FromThen
      (Parts
      (MoreTrees opening
      (MoreTrees first
      (MoreTrees comma
      (MoreTrees second
      (MoreTrees dots (MoreTrees last (MoreTrees closing NoTree)))))))) =
      syntax.Enumeration (place opening) (expression_of first)
      (syntax.Present (expression_of second)) (maybe_expression last)
  expression_as symbol.From
      (Parts
      (MoreTrees opening
      (MoreTrees first (MoreTrees dots (MoreTrees last (MoreTrees closing NoTree)))))) =
      syntax.Enumeration (place opening) (expression_of first) syntax.Absent (maybe_expression last)
  expression_as symbol.Comprehension
      (Parts
      (MoreTrees opening
      (MoreTrees element
      (MoreTrees bar (MoreTrees (Parts qualifiers) (MoreTrees closing NoTree)))))) =
      syntax.Comprehension (place opening) (expression_of element) (qualifiers_of qualifiers)
  expression_as symbol.ListExp
      (Parts (MoreTrees opening (MoreTrees (Parts elements) (MoreTrees closing NoTree)))) =
      syntax.ListOf (place opening) (expressions_of elements)
  expression_as _ _ = no_expression

  pub maybe_expression : Tree → MaybeExpression
  maybe_expression (Parts (MoreTrees tree NoTree)) = syntax.Present (expression_of tree)
  maybe_expression _ = syntax.Absent

  pub atoms_of : Trees → Expressions
  atoms_of NoTree = syntax.NoExpression
  atoms_of (MoreTrees tree trees) =
      syntax.MoreExpressions (expression_choice symbol.Atom tree) (atoms_of trees)

  pub expressions_of : Trees → Expressions
  expressions_of NoTree = syntax.NoExpression
  expressions_of (MoreTrees tree trees) =
      syntax.MoreExpressions (expression_of tree) (expressions_of trees)

  -- the alternatives of a case distinction, of which empty ones are left out
  pub alternatives_of : Trees → Alternatives
  alternatives_of
      (MoreTrees
      (Parts
      (MoreTrees (Parts (MoreTrees pattern (MoreTrees body (MoreTrees local NoTree))))
      NoTree)) trees) =
      syntax.MoreAlternatives (place pattern) (pattern_of pattern)
      (right_side symbol.AltBody body (where_block local)) (alternatives_of trees)
  alternatives_of (MoreTrees tree trees) = alternatives_of trees
  alternatives_of NoTree = syntax.NoAlternative

  -- the right-hand side of a rule or an alternative, with what is local to it
  pub right_side : Symbol → Tree → Declarations → RightSide
  right_side s (Chosen n tree) local = right_as (alternative s n) tree local
  right_side s _ local = syntax.Plain first_position no_expression local

  pub right_as : Symbol → Tree → Declarations → RightSide
  right_as symbol.PlainRhs (Parts (MoreTrees equals (MoreTrees body NoTree))) local =
      syntax.Plain (place equals) (expression_of body) local
  right_as symbol.GuardedRhs (Parts guards) local =
      syntax.Guarded (place (Parts guards)) (guards_of guards) local
  right_as symbol.PlainAlt (Parts (MoreTrees arrow (MoreTrees body NoTree))) local =
      syntax.Plain (place arrow) (expression_of body) local
  right_as symbol.GuardedAlts (Parts guards) local =
      syntax.Guarded (place (Parts guards)) (guards_of guards) local
  right_as _ _ local = syntax.Plain first_position no_expression local

  pub guards_of : Trees → Guards
  guards_of
      (MoreTrees
      (Parts (MoreTrees bar (MoreTrees condition (MoreTrees sign (MoreTrees body NoTree)))))
      trees) =
      syntax.MoreGuards (place bar) (expression_of condition) (expression_of body) (guards_of trees)
  guards_of _ = syntax.NoGuard

  pub where_block : Tree → Declarations
  where_block (Parts (MoreTrees (Parts (MoreTrees word (MoreTrees block NoTree))) NoTree)) =
      block_of block
  where_block _ = syntax.NoDeclaration

  pub block_of : Tree → Declarations
  block_of (Parts (MoreTrees opening (MoreTrees (Parts declarations) (MoreTrees closing NoTree)))) =
      declarations_of declarations
  block_of _ = syntax.NoDeclaration

  pub declarations_of : Trees → Declarations
  declarations_of (MoreTrees (Parts (MoreTrees (Chosen n tree) NoTree)) trees) =
      syntax.MoreDeclarations (declaration_as (alternative symbol.Decl n) tree)
      (declarations_of trees)
  declarations_of (MoreTrees tree trees) = declarations_of trees
  declarations_of NoTree = syntax.NoDeclaration

  pub declaration_as : Symbol → Tree → Declaration
  declaration_as symbol.FreeDecl (Parts (MoreTrees names (MoreTrees word NoTree))) =
      syntax.FreeVariables (place names) (names_in names)
  declaration_as symbol.Signature
      (Parts (MoreTrees names (MoreTrees colons (MoreTrees term NoTree)))) =
      syntax.Signature (place names) (names_in names) (type_of term)
  declaration_as symbol.Rule
      (Parts
      (MoreTrees left (MoreTrees (Parts (MoreTrees body (MoreTrees local NoTree))) NoTree))) =
      rule_of (place left) (left_choice symbol.Lhs left)
      (right_side symbol.RhsBody body (where_block local))
  declaration_as symbol.TopRule
      (Parts
      (MoreTrees left (MoreTrees (Parts (MoreTrees body (MoreTrees local NoTree))) NoTree))) =
      rule_of (place left) (left_choice symbol.FunctionLhs left)
      (right_side symbol.RhsBody body (where_block local))
  declaration_as _ _ = syntax.FreeVariables first_position []

  pub qualifiers_of : Trees → Qualifiers
  qualifiers_of NoTree = syntax.NoQualifier
  qualifiers_of (MoreTrees (Chosen n tree) trees) =
      syntax.MoreQualifiers (qualifier_as (alternative symbol.Qual n) tree) (qualifiers_of trees)
  qualifiers_of (MoreTrees tree trees) = qualifiers_of trees

  pub qualifier_as : Symbol → Tree → Qualifier
  qualifier_as symbol.Generator
      (Parts (MoreTrees pattern (MoreTrees arrow (MoreTrees list NoTree)))) =
      syntax.Generator (place pattern) (pattern_of pattern) (expression_of list)
  qualifier_as symbol.LetQual (Parts (MoreTrees word (MoreTrees block (MoreTrees no_in NoTree)))) =
      syntax.LocalDeclarations (place word) (block_of block)
  qualifier_as symbol.Exp (Parts trees) =
      syntax.Condition (place (Parts trees)) (expression_parts trees)
  qualifier_as _ _ = syntax.Condition first_position no_expression

-- ---- items of a module

-- what an optional tree stands for, or none where it isn't there
abbrev pub optional : {A : Type 0} → (Tree → A) → Tree → Option A
optional f (Parts (MoreTrees tree NoTree)) = Some (f tree)
optional f _ = None

abbrev pub constructors_named : Tree → ConstructorsNamed
constructors_named
    (Parts
    (MoreTrees
    (Parts (MoreTrees opening (MoreTrees (Chosen n names) (MoreTrees closing NoTree))))
    NoTree)) =
    constructors_as (alternative symbol.ConstructorNames n) names
  where
    constructors_as : Symbol → Tree → ConstructorsNamed
    constructors_as symbol.DotDot tree = syntax.AllOfThem
    constructors_as s tree = syntax.Only (unwrap_or (optional names_in tree) [])
constructors_named _ = syntax.NoneOfThem

abbrev pub entity_of : Tree → Entity
entity_of (Chosen n tree) = entity_as (alternative symbol.Entity n) tree
  where
    entity_as : Symbol → Tree → Entity
    entity_as symbol.TypeEntity (Parts (MoreTrees name (MoreTrees constructors NoTree))) =
        syntax.TypeEntity (place name) (name_of name) (constructors_named constructors)
    entity_as s other = syntax.VariableEntity (place other) (name_of other)
entity_of tree = syntax.VariableEntity (place tree) (name_of tree)

abbrev pub each : {A : Type 0} → (Tree → A) → Trees → List A
each f NoTree = []
each f (MoreTrees tree trees) = f tree ∷ each f trees

-- what each part of the tree of a repeated symbol stands for
abbrev pub each_in : {A : Type 0} → (Tree → A) → Tree → List A
each_in f (Parts trees) = each f trees
each_in f _ = []

abbrev pub export_of : Tree → Export
export_of (Chosen n tree) = export_as (alternative symbol.Export n) tree
  where
    export_as : Symbol → Tree → Export
    export_as symbol.ModuleExport (Parts (MoreTrees word (MoreTrees name NoTree))) =
        syntax.ModuleExport (place word) (module_name name)
    export_as s other = syntax.EntityExport (entity_of other)
export_of tree = syntax.EntityExport (entity_of tree)

-- the exports that an optional list between parentheses names; the list may be empty
abbrev pub exports_of : Tree → List Export
exports_of (Parts (MoreTrees opening (MoreTrees list (MoreTrees closing NoTree)))) =
    unwrap_or (optional (each_in export_of) list) []
exports_of _ = []

abbrev pub header_of : Tree → Header
header_of
    (Parts (MoreTrees word (MoreTrees name (MoreTrees exports (MoreTrees where_word NoTree))))) =
    record { at = place word; name = module_name name; exports = optional exports_of exports }
header_of tree = record { at = place tree; name = module_name tree; exports = None }

abbrev pub import_list : Tree → ImportList
import_list
    (Parts (MoreTrees hiding (MoreTrees opening (MoreTrees list (MoreTrees closing NoTree))))) =
    record { hides = is_there hiding; entities = unwrap_or (optional (each_in entity_of) list) [] }
import_list _ = record { hides = false; entities = [] }

abbrev pub alias_of : Tree → ModuleName
alias_of (Parts (MoreTrees word (MoreTrees name NoTree))) = module_name name
alias_of tree = module_name tree

abbrev pub import_of : Tree → Import
import_of
    (Parts
    (MoreTrees word
    (MoreTrees qualified (MoreTrees name (MoreTrees alias (MoreTrees list NoTree)))))) =
    record {
      at = place word;
      qualified = is_there qualified;
      name = module_name name;
      alias = optional alias_of alias;
      list = optional import_list list;
    }
import_of tree =
    record {
      at = first_position;
      qualified = false;
      name = module_name tree;
      alias = None;
      list = None;
    }

abbrev pub side_of : Tree → Side
side_of (Chosen n tree) = side_as (alternative symbol.FixityWord n)
  where
    side_as : Symbol → Side
    side_as symbol.Infixl = sides.Left
    side_as symbol.Infixr = sides.Right
    side_as s = sides.Neither
side_of _ = sides.Neither

abbrev pub digit_of : Tree → ℕ
digit_of tree = elim (literal_of tree) [ syntax.Int (pos n) ↦ n | _ ↦ 0 ]

abbrev pub constructor_as : Symbol → Tree → ConstructorDeclaration
constructor_as symbol.InfixConDecl
    (Parts (MoreTrees left (MoreTrees operator (MoreTrees right NoTree)))) =
    record {
      at = place left;
      name = name_of operator;
      fields = syntax.MoreTypes (type_choice symbol.BType left)
          (syntax.MoreTypes (type_choice symbol.BType right) syntax.NoType);
    }
constructor_as symbol.PrefixConDecl (Parts (MoreTrees name (MoreTrees (Parts fields) NoTree))) =
    record { at = place name; name = name_of name; fields = argument_types fields }
constructor_as s other = record { at = place other; name = name_of other; fields = syntax.NoType }

abbrev pub constructor_declaration : Tree → ConstructorDeclaration
constructor_declaration (Chosen n tree) = constructor_as (alternative symbol.ConDecl n) tree
constructor_declaration tree =
    record { at = place tree; name = name_of tree; fields = syntax.NoType }

-- the declarations of constructors after the equals sign
abbrev pub constructors_of : Tree → List ConstructorDeclaration
constructors_of (Parts (MoreTrees equals (MoreTrees list NoTree))) =
    each_in constructor_declaration list
constructors_of _ = []

abbrev pub item_as : Symbol → Tree → Item
item_as symbol.FixityDecl (Parts (MoreTrees word (MoreTrees level (MoreTrees names NoTree)))) =
    syntax.Fixity (place word) (side_of word) (unwrap_or (optional digit_of level) 9)
    (names_in names)
item_as symbol.DataDecl
    (Parts
    (MoreTrees word (MoreTrees name (MoreTrees parameters (MoreTrees constructors NoTree))))) =
    syntax.Data (place word) (name_of name) (names_in parameters)
    (unwrap_or (optional constructors_of constructors) [])
item_as symbol.SynonymDecl
    (Parts
    (MoreTrees word
    (MoreTrees name (MoreTrees parameters (MoreTrees equals (MoreTrees term NoTree)))))) =
    syntax.Synonym (place word) (name_of name) (names_in parameters) (type_of term)
item_as s tree = syntax.DeclarationItem (declaration_as s tree)

abbrev pub item_of : Tree → Item
item_of (Chosen n tree) = item_as (alternative symbol.Item n) tree
item_of tree = syntax.DeclarationItem (syntax.FreeVariables first_position [])

-- the variables that free declarations declare, in order
abbrev pub free_names : Trees → List Name
free_names (MoreTrees (Parts (MoreTrees (Parts names) (MoreTrees word NoTree))) trees) =
    names_of names ++ free_names trees
free_names _ = []

abbrev pub goal_variables : Tree → List Name
goal_variables
    (Parts
    (MoreTrees
    (Parts
    (MoreTrees word
    (MoreTrees opening
    (MoreTrees (Parts declarations) (MoreTrees closing NoTree)))))
    NoTree)) = free_names declarations
goal_variables _ = []

abbrev pub goal_of : Tree → Goal
goal_of (Parts (MoreTrees expression (MoreTrees variables NoTree))) =
    record { expression = expression_of expression; free = goal_variables variables }
goal_of _ = record { expression = no_expression; free = [] }
