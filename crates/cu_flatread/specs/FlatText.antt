-- Which modules have a text that is read, and which bytes are a text: names are UTF-8 without
-- quotes, numbers are in range, and types and expressions aren't nested too deep.
use Rattle.std.specs.Prelude.{◌≡◌, ℕ, zero, suc, ◌^◌, ◌<◌, List, All, Contains, IsTrue}
use Rattle.std.specs.Char.{IsScalar}
use Rattle.std.specs.Str.{IsUtf8}
use Rattle.cu_calculus.specs.declared.Lit.{Lit}
use Rattle.cu_calculus.specs.declared.Lit.TheVariants as lit
use Rattle.cu_int.specs.Integers.{is_integer}
use Rattle.cu_flatread.specs.Modules as m
use Rattle.cu_flatread.specs.Modules.{Branches, Built, Constructor, Declaration, Exactly, Expression, Expressions, External, Function, FunctionRule, Module, MoreBranches, MoreExpressions, MoreTypes, NoBranch, NoExpression, NoType, OfType, OfTypeSyn, Operator, Pattern, RightSide, Rule, TypeExpression, TypeExpressions}
use Rattle.cu_flatread.specs.Notation.{Entity}
use Rattle.cu_flatread.specs.Text.{module_text}
use Rattle.cu_flatread.specs.declared.cells.CombKind.{CombKind}
use Rattle.cu_flatread.specs.declared.cells.CombKind.TheVariants.{FuncCall, ConsCall, FuncPartCall, ConsPartCall}

-- ---- names and numbers

-- a name: UTF-8 without a quote; it may be empty
abbrev pub IsName : List ℕ → Type 0
IsName text = IsUtf8 text × (Contains text 34 → ⊥)

abbrev pub IsEntity : Entity → Type 0
IsEntity e = IsName e.owner × IsName e.name

-- a number of a variable, an arity, or how many arguments are missing: 64 bits hold it
abbrev pub IsNumber : ℕ → Type 0
IsNumber n = n < 2 ^ 64

abbrev pub IsLiteral : Lit → Type 0
IsLiteral (lit.Int n) = IsTrue (is_integer n)
IsLiteral (lit.Char c) = IsScalar c

abbrev pub IsKind : CombKind → Type 0
IsKind FuncCall = Unit {0}
IsKind ConsCall = Unit {0}
IsKind (FuncPartCall n) = IsNumber n
IsKind (ConsPartCall n) = IsNumber n

abbrev pub IsPattern : Pattern Entity → Type 0
IsPattern (Built e xs) = IsEntity e × All IsNumber xs
IsPattern (Exactly l) = IsLiteral l

-- ---- nesting

-- how deep types and expressions are nested at most
abbrev pub most_nested : ℕ
most_nested = 16384

abbrev mutual
  -- A type that is nested at most so deep: one without a type in it is nested once, and what stands
  -- in a type once less deep than the type may be.
  pub IsType : ℕ → TypeExpression Entity → Type 0
  IsType zero t = ⊥
  IsType (suc depth) (m.Variable x) = IsNumber x
  IsType (suc depth) (m.Arrow a b) = IsType depth a × IsType depth b
  IsType (suc depth) (m.Named e ts) = IsEntity e × AreTypes depth ts

  pub AreTypes : ℕ → TypeExpressions Entity → Type 0
  AreTypes depth NoType = Unit {0}
  AreTypes depth (MoreTypes t ts) = IsType depth t × AreTypes depth ts

abbrev mutual
  -- an expression that is nested at most so deep, counted as for types
  pub IsExpression : ℕ → Expression Entity → Type 0
  IsExpression zero t = ⊥
  IsExpression (suc depth) (m.Var x) = IsNumber x
  IsExpression (suc depth) (m.Literal l) = IsLiteral l
  IsExpression (suc depth) (m.Comb kind e ts) =
      IsKind kind × IsEntity e × AreExpressions depth ts
  IsExpression (suc depth) (m.Let x a b) =
      IsNumber x × IsExpression depth a × IsExpression depth b
  IsExpression (suc depth) (m.Free x a) = IsNumber x × IsExpression depth a
  IsExpression (suc depth) (m.Or a b) = IsExpression depth a × IsExpression depth b
  IsExpression (suc depth) (m.Case mode a branches) =
      IsExpression depth a × AreBranches depth branches

  pub AreExpressions : ℕ → Expressions Entity → Type 0
  AreExpressions depth NoExpression = Unit {0}
  AreExpressions depth (MoreExpressions t ts) = IsExpression depth t × AreExpressions depth ts

  pub AreBranches : ℕ → Branches Entity → Type 0
  AreBranches depth NoBranch = Unit {0}
  AreBranches depth (MoreBranches p t branches) =
      IsPattern p × IsExpression depth t × AreBranches depth branches

-- ---- declarations and modules

abbrev pub IsConstructor : Constructor → Type 0
IsConstructor c = IsEntity c.entity × IsNumber c.arity × AreTypes most_nested c.fields

abbrev pub IsRightSide : RightSide → Type 0
IsRightSide (OfType cs) = All IsConstructor cs
IsRightSide (OfTypeSyn t) = IsType most_nested t

abbrev pub IsDeclaration : Declaration → Type 0
IsDeclaration d = IsEntity d.entity × All IsNumber d.parameters × IsRightSide d.right_side

abbrev pub IsRule : FunctionRule → Type 0
IsRule (Rule xs t) = All IsNumber xs × IsExpression most_nested t
IsRule (External name) = IsName name

abbrev pub IsFunction : Function → Type 0
IsFunction f =
    IsEntity f.entity × IsNumber f.arity × IsType most_nested f.of_type × IsRule f.rule

-- an operator, of a precedence that 32 bits hold
abbrev pub IsOperator : Operator → Type 0
IsOperator o = IsEntity o.entity × (o.level < 2 ^ 32)

abbrev pub IsModule : Module → Type 0
IsModule flat = IsName flat.name × All IsName flat.imports × All IsDeclaration flat.types
    × All IsFunction flat.functions × All IsOperator flat.operators

-- the bytes are the text of the module
pub record FlatText (bytes : List ℕ) (flat : Module) : Type 0 where
  pub text : bytes ≡ module_text flat
  pub is_module : IsModule flat
