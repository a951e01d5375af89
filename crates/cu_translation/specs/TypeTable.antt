-- What types of the source stand for.
use Rattle.std.specs.Prelude.{ℕ, ◌+◌, List, [], ◌∷◌, codes}
use Rattle.std.specs.List.{position_or_len}
use Rattle.std.specs.Str.{bytes_eq}
use Rattle.cu_kernel.specs.TypeExpr as kernel
use Rattle.cu_kernel.specs.TypeExpr.{TypeExpr, TypeExprs}
use Rattle.cu_syntax.specs.Syntax as syntax
use Rattle.cu_syntax.specs.Syntax.{Name, TypeTerm, TypeTerms}
use Rattle.cu_uses.specs.Binders.{once, texts, type_variables}
use Rattle.cu_translation.specs.Around.{Names, tuple_name}

abbrev pub type_count : TypeTerms → ℕ
type_count syntax.NoType = 0
type_count (syntax.MoreTypes t ts) = type_count ts + 1

abbrev pub types : List TypeExpr → TypeExprs
types [] = kernel.NoType
types (t ∷ ts) = kernel.MoreTypes t (types ts)

-- The type that a type of the source stands for. A type variable stands for its place among these
-- names.
abbrev mutual
  pub type_of : Names → List (List ℕ) → TypeTerm → TypeExpr
  type_of names variables (syntax.TypeVariable x) =
      kernel.Variable (position_or_len (bytes_eq x.text) variables)
  type_of names variables (syntax.TypeNamed t ts) =
      kernel.Named (names.type t) (types_of names variables ts)
  type_of names variables (syntax.Arrow at s t) =
      kernel.Arrow (type_of names variables s) (type_of names variables t)
  type_of names variables (syntax.TypeTuple at ts) =
      kernel.Named (names.prelude_type (tuple_name (type_count ts))) (types_of names variables ts)
  type_of names variables (syntax.TypeList at t) =
      kernel.Named (names.prelude_type (codes "[]"))
      (kernel.MoreTypes (type_of names variables t) kernel.NoType)

  pub types_of : Names → List (List ℕ) → TypeTerms → TypeExprs
  types_of names variables syntax.NoType = kernel.NoType
  types_of names variables (syntax.MoreTypes t ts) =
      kernel.MoreTypes (type_of names variables t) (types_of names variables ts)

-- the types of the fields of a constructor
abbrev pub fields_of : Names → List (List ℕ) → TypeTerms → List TypeExpr
fields_of names variables syntax.NoType = []
fields_of names variables (syntax.MoreTypes t ts) =
    type_of names variables t ∷ fields_of names variables ts

-- the type that a signature declares; its type variables are its own, in the order in which they
-- first stand in it
abbrev pub signature_type : Names → TypeTerm → TypeExpr
signature_type names t = type_of names (texts (once [] (type_variables t))) t
