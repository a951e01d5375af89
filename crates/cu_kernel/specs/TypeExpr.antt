-- Type expressions: variables, function types, and data types or synonyms with arguments.
use Rattle.std.specs.Prelude.{ℕ}
use Rattle.cu_kernel.specs.declared.type_term.TypeName.{TypeName}

mutual
  -- a type expression
  pub data TypeExpr : Type 0 where
    Variable : ℕ → TypeExpr
    -- the type of functions from one type to another
    Arrow : TypeExpr → TypeExpr → TypeExpr
    -- a data type or a synonym with arguments
    Named : TypeName → TypeExprs → TypeExpr

  -- several type expressions
  pub data TypeExprs : Type 0 where
    NoType : TypeExprs
    MoreTypes : TypeExpr → TypeExprs → TypeExprs
