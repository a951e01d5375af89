-- What an answer of the reader stands for, by the texts of names.
use Rattle.std.specs.Prelude.{ℕ, List, All, map}
use Rattle.cu_names.specs.Texts.{IsKnown, text_of}
use Rattle.cu_flatread.specs.Faults.{IsFault}
use Rattle.cu_flatread.specs.Modules as m
use Rattle.cu_flatread.specs.Modules.{Branches, Constructor, Declaration, Expression, Expressions, Function, FunctionRule, Module, Operator, Pattern, RightSide, TypeExpression, TypeExpressions}
use Rattle.cu_flatread.specs.Notation.{Entity}
use Rattle.cu_flatread.specs.declared.cells.FlatEntity.{FlatEntity}
use Rattle.cu_flatread.specs.declared.declarations.FlatConstructor.{FlatConstructor}
use Rattle.cu_flatread.specs.declared.declarations.FlatDeclaration.{FlatDeclaration}
use Rattle.cu_flatread.specs.declared.declarations.FlatFunction.{FlatFunction}
use Rattle.cu_flatread.specs.declared.declarations.FlatModule.{FlatModule}
use Rattle.cu_flatread.specs.declared.declarations.FlatOperator.{FlatOperator}
use Rattle.cu_flatread.specs.declared.declarations.FlatRightSide.{FlatRightSide}
use Rattle.cu_flatread.specs.declared.declarations.FlatRightSide.TheVariants as declared
use Rattle.cu_flatread.specs.declared.declarations.FlatRule.{FlatRule}
use Rattle.cu_flatread.specs.declared.declarations.FlatRule.TheVariants as rule
use Rattle.cu_flatread.specs.declared.fault.BadFlat.{BadFlat}
use Rattle.cu_flatread.specs.declared.fault.BadFlat.TheVariants.{At, NoMemory}

-- ---- texts for the numbers of names

-- an entity, by the texts of its names
abbrev pub entity_of : List (List ℕ) → FlatEntity → Entity
entity_of names e = record { owner = text_of names e.owner; name = text_of names e.name }

abbrev mutual
  pub type_of : List (List ℕ) → TypeExpression FlatEntity → TypeExpression Entity
  type_of names (m.Variable x) = m.Variable x
  type_of names (m.Arrow a b) = m.Arrow (type_of names a) (type_of names b)
  type_of names (m.Named e ts) = m.Named (entity_of names e) (types_of names ts)

  pub types_of : List (List ℕ) → TypeExpressions FlatEntity → TypeExpressions Entity
  types_of names m.NoType = m.NoType
  types_of names (m.MoreTypes t ts) = m.MoreTypes (type_of names t) (types_of names ts)

abbrev pub pattern_of : List (List ℕ) → Pattern FlatEntity → Pattern Entity
pattern_of names (m.Built e xs) = m.Built (entity_of names e) xs
pattern_of names (m.Exactly l) = m.Exactly l

abbrev mutual
  pub expression_of : List (List ℕ) → Expression FlatEntity → Expression Entity
  expression_of names (m.Var x) = m.Var x
  expression_of names (m.Literal l) = m.Literal l
  expression_of names (m.Comb kind e ts) =
      m.Comb kind (entity_of names e) (expressions_of names ts)
  expression_of names (m.Let x a b) = m.Let x (expression_of names a) (expression_of names b)
  expression_of names (m.Free x a) = m.Free x (expression_of names a)
  expression_of names (m.Or a b) = m.Or (expression_of names a) (expression_of names b)
  expression_of names (m.Case mode a bs) =
      m.Case mode (expression_of names a) (branches_of names bs)

  pub expressions_of : List (List ℕ) → Expressions FlatEntity → Expressions Entity
  expressions_of names m.NoExpression = m.NoExpression
  expressions_of names (m.MoreExpressions t ts) =
      m.MoreExpressions (expression_of names t) (expressions_of names ts)

  pub branches_of : List (List ℕ) → Branches FlatEntity → Branches Entity
  branches_of names m.NoBranch = m.NoBranch
  branches_of names (m.MoreBranches p t bs) =
      m.MoreBranches (pattern_of names p) (expression_of names t) (branches_of names bs)

-- ---- what the values of the code stand for

abbrev pub constructor_of : List (List ℕ) → FlatConstructor → Constructor
constructor_of names c = record {
  entity = entity_of names c.entity;
  arity = c.arity;
  public = c.public;
  fields = types_of names c.fields;
}

abbrev pub right_side_of : List (List ℕ) → FlatRightSide → RightSide
right_side_of names (declared.Type cs) = m.OfType (map (constructor_of names) cs.items)
right_side_of names (declared.TypeSyn t) = m.OfTypeSyn (type_of names t)

abbrev pub declaration_of : List (List ℕ) → FlatDeclaration → Declaration
declaration_of names d = record {
  entity = entity_of names d.entity;
  public = d.public;
  parameters = d.parameters.items;
  right_side = right_side_of names d.right_side;
}

abbrev pub rule_of : List (List ℕ) → FlatRule → FunctionRule
rule_of names (rule.Rule xs t) = m.Rule xs.items (expression_of names t)
rule_of names (rule.External name) = m.External (text_of names name)

abbrev pub function_of : List (List ℕ) → FlatFunction → Function
function_of names f = record {
  entity = entity_of names f.entity;
  arity = f.arity;
  public = f.public;
  of_type = type_of names f.of_type;
  rule = rule_of names f.rule;
}

abbrev pub operator_of : List (List ℕ) → FlatOperator → Operator
operator_of names o = record {
  entity = entity_of names o.entity;
  side = o.side;
  level = o.level;
}

abbrev pub module_of : List (List ℕ) → FlatModule → Module
module_of names flat = record {
  name = text_of names flat.name;
  imports = map (text_of names) flat.imports.items;
  types = map (declaration_of names) flat.types.items;
  functions = map (function_of names) flat.functions.items;
  operators = map (operator_of names) flat.operators.items;
}

-- ---- names that a table has

abbrev pub HasEntity : List (List ℕ) → FlatEntity → Type 0
HasEntity names e = IsKnown names e.owner × IsKnown names e.name

abbrev mutual
  -- a table has the names of a type
  pub HasType : List (List ℕ) → TypeExpression FlatEntity → Type 0
  HasType names (m.Variable x) = Unit {0}
  HasType names (m.Arrow a b) = HasType names a × HasType names b
  HasType names (m.Named e ts) = HasEntity names e × HasTypes names ts

  pub HasTypes : List (List ℕ) → TypeExpressions FlatEntity → Type 0
  HasTypes names m.NoType = Unit {0}
  HasTypes names (m.MoreTypes t ts) = HasType names t × HasTypes names ts

abbrev pub HasPattern : List (List ℕ) → Pattern FlatEntity → Type 0
HasPattern names (m.Built e xs) = HasEntity names e
HasPattern names (m.Exactly l) = Unit {0}

abbrev mutual
  -- a table has the names of an expression
  pub HasExpression : List (List ℕ) → Expression FlatEntity → Type 0
  HasExpression names (m.Var x) = Unit {0}
  HasExpression names (m.Literal l) = Unit {0}
  HasExpression names (m.Comb kind e ts) = HasEntity names e × HasExpressions names ts
  HasExpression names (m.Let x a b) = HasExpression names a × HasExpression names b
  HasExpression names (m.Free x a) = HasExpression names a
  HasExpression names (m.Or a b) = HasExpression names a × HasExpression names b
  HasExpression names (m.Case mode a bs) = HasExpression names a × HasBranches names bs

  pub HasExpressions : List (List ℕ) → Expressions FlatEntity → Type 0
  HasExpressions names m.NoExpression = Unit {0}
  HasExpressions names (m.MoreExpressions t ts) = HasExpression names t × HasExpressions names ts

  pub HasBranches : List (List ℕ) → Branches FlatEntity → Type 0
  HasBranches names m.NoBranch = Unit {0}
  HasBranches names (m.MoreBranches p t bs) =
      HasPattern names p × HasExpression names t × HasBranches names bs

abbrev pub HasConstructor : List (List ℕ) → FlatConstructor → Type 0
HasConstructor names c = HasEntity names c.entity × HasTypes names c.fields

abbrev pub HasRightSide : List (List ℕ) → FlatRightSide → Type 0
HasRightSide names (declared.Type cs) = All (HasConstructor names) cs.items
HasRightSide names (declared.TypeSyn t) = HasType names t

abbrev pub HasDeclaration : List (List ℕ) → FlatDeclaration → Type 0
HasDeclaration names d = HasEntity names d.entity × HasRightSide names d.right_side

abbrev pub HasRule : List (List ℕ) → FlatRule → Type 0
HasRule names (rule.Rule xs t) = HasExpression names t
HasRule names (rule.External name) = IsKnown names name

abbrev pub HasFunction : List (List ℕ) → FlatFunction → Type 0
HasFunction names f =
    HasEntity names f.entity × HasType names f.of_type × HasRule names f.rule

abbrev pub HasOperator : List (List ℕ) → FlatOperator → Type 0
HasOperator names o = HasEntity names o.entity

-- a table has the names of a module
abbrev pub HasModule : List (List ℕ) → FlatModule → Type 0
HasModule names flat = IsKnown names flat.name × All (IsKnown names) flat.imports.items
    × All (HasDeclaration names) flat.types.items × All (HasFunction names) flat.functions.items
    × All (HasOperator names) flat.operators.items

-- ---- what `read` answers

-- Why bytes aren't read. An allocation failure says nothing.
abbrev pub Tells : List ℕ → BadFlat → Type 0
Tells bytes (At offset) = IsFault bytes offset
Tells bytes NoMemory = Unit {0}
