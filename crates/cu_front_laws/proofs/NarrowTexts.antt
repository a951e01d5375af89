-- Texts whose tuple types are those that there are, and whose declared types have no signs for
-- names.
use Rattle.std.proofs.Common.{◌≡◌, ◌||◌, ℕ, Bool, true, false, List, [], ◌∷◌}
use Rattle.std.specs.List.{list_any}
use Rattle.std.specs.Prelude.{nat_eq}
use Rattle.cu_syntax.specs.Syntax as syntax
use Rattle.cu_syntax.specs.Syntax.{Alternatives, ConstructorDeclaration, Declaration, Declarations, Expression, Expressions, Goal, Guards, Item, MaybeExpression, OperatorRest, Qualifier, Qualifiers, RightSide, TypeTerm, TypeTerms}
use Rattle.cu_translation.specs.Numbered.{tuple_sizes}
use Rattle.cu_translation.specs.TypeTable.{type_count}
use Rattle.cu_front_laws.proofs.Members.{Every}

-- ---- tuples that there are

abbrev pub is_size : ℕ → Bool
is_size n = list_any (nat_eq n) (0 ∷ tuple_sizes)

abbrev mutual
  -- each tuple type in a type is one of those that there are
  pub NarrowType : TypeTerm → Type 0
  NarrowType (syntax.TypeVariable x) = Unit {0}
  NarrowType (syntax.TypeNamed name ts) = NarrowTypes ts
  NarrowType (syntax.Arrow at s t) = NarrowType s × NarrowType t
  NarrowType (syntax.TypeTuple at ts) = (is_size (type_count ts) ≡ true) × NarrowTypes ts
  NarrowType (syntax.TypeList at t) = NarrowType t

  pub NarrowTypes : TypeTerms → Type 0
  NarrowTypes syntax.NoType = Unit {0}
  NarrowTypes (syntax.MoreTypes t ts) = NarrowType t × NarrowTypes ts

-- ---- texts

abbrev mutual
  pub NarrowExpression : Expression → Type 0
  NarrowExpression (syntax.Variable at name) = Unit {0}
  NarrowExpression (syntax.Constructor at name) = Unit {0}
  NarrowExpression (syntax.LiteralExpression at found) = Unit {0}
  NarrowExpression (syntax.Application at f es) = NarrowExpression f × NarrowExpressions es
  NarrowExpression (syntax.Operators at minus first rest) = NarrowExpression first × NarrowRest rest
  NarrowExpression (syntax.Lambda at ps body) = NarrowExpression body
  NarrowExpression (syntax.Let at ds body) = NarrowDeclarations ds × NarrowExpression body
  NarrowExpression (syntax.If at c e f) = NarrowExpression c × (NarrowExpression e × NarrowExpression f)
  NarrowExpression (syntax.Case at word e alternatives) = NarrowExpression e × NarrowAlternatives alternatives
  NarrowExpression (syntax.Tuple at es) = NarrowExpressions es
  NarrowExpression (syntax.TupleConstructor at n) = Unit {0}
  NarrowExpression (syntax.LeftSection at e operator) = NarrowExpression e
  NarrowExpression (syntax.RightSection at operator e) = NarrowExpression e
  NarrowExpression (syntax.ListOf at es) = NarrowExpressions es
  NarrowExpression (syntax.Enumeration at first second last) = NarrowExpression first × (NarrowMaybe second × NarrowMaybe last)
  NarrowExpression (syntax.Comprehension at e qualifiers) = NarrowExpression e × NarrowQualifiers qualifiers

  pub NarrowExpressions : Expressions → Type 0
  NarrowExpressions syntax.NoExpression = Unit {0}
  NarrowExpressions (syntax.MoreExpressions e es) = NarrowExpression e × NarrowExpressions es

  pub NarrowMaybe : MaybeExpression → Type 0
  NarrowMaybe syntax.Absent = Unit {0}
  NarrowMaybe (syntax.Present e) = NarrowExpression e

  pub NarrowRest : OperatorRest → Type 0
  NarrowRest syntax.NoOperator = Unit {0}
  NarrowRest (syntax.ThenOperator operator minus e rest) = NarrowExpression e × NarrowRest rest

  pub NarrowAlternatives : Alternatives → Type 0
  NarrowAlternatives syntax.NoAlternative = Unit {0}
  NarrowAlternatives (syntax.MoreAlternatives at p right alternatives) = NarrowRight right × NarrowAlternatives alternatives

  pub NarrowRight : RightSide → Type 0
  NarrowRight (syntax.Plain at e ds) = NarrowExpression e × NarrowDeclarations ds
  NarrowRight (syntax.Guarded at guards ds) = NarrowGuards guards × NarrowDeclarations ds

  pub NarrowGuards : Guards → Type 0
  NarrowGuards syntax.NoGuard = Unit {0}
  NarrowGuards (syntax.MoreGuards at c e guards) = NarrowExpression c × (NarrowExpression e × NarrowGuards guards)

  pub NarrowDeclarations : Declarations → Type 0
  NarrowDeclarations syntax.NoDeclaration = Unit {0}
  NarrowDeclarations (syntax.MoreDeclarations d ds) = NarrowDeclaration d × NarrowDeclarations ds

  pub NarrowDeclaration : Declaration → Type 0
  NarrowDeclaration (syntax.FreeVariables at names) = Unit {0}
  NarrowDeclaration (syntax.Signature at names t) = NarrowType t
  NarrowDeclaration (syntax.FunctionRule at name ps right) = NarrowRight right
  NarrowDeclaration (syntax.PatternBinding at p right) = NarrowRight right

  pub NarrowQualifiers : Qualifiers → Type 0
  NarrowQualifiers syntax.NoQualifier = Unit {0}
  NarrowQualifiers (syntax.MoreQualifiers q qualifiers) = NarrowQualifier q × NarrowQualifiers qualifiers

  pub NarrowQualifier : Qualifier → Type 0
  NarrowQualifier (syntax.Generator at p e) = NarrowExpression e
  NarrowQualifier (syntax.LocalDeclarations at ds) = NarrowDeclarations ds
  NarrowQualifier (syntax.Condition at e) = NarrowExpression e

abbrev pub NarrowItem : Item → Type 0
NarrowItem (syntax.ImportItem found) = Unit {0}
NarrowItem (syntax.Fixity at to level operators) = Unit {0}
NarrowItem (syntax.Data at name ps cs) = Every (λ (c : ConstructorDeclaration). NarrowTypes c.fields) cs
NarrowItem (syntax.Synonym at name ps t) = NarrowType t
NarrowItem (syntax.DeclarationItem d) = NarrowDeclaration d

-- ---- names of types

-- whether a text begins with the sign of a list or of tuples
abbrev pub opens : List ℕ → Bool
opens [] = false
opens (c ∷ cs) = nat_eq c 40 || nat_eq c 91

-- the type that an item declares has no such sign
abbrev pub Unsigned : Item → Type 0
Unsigned (syntax.Data at name ps cs) = opens name.text ≡ false
Unsigned (syntax.Synonym at name ps t) = opens name.text ≡ false
Unsigned _ = Unit {0}
