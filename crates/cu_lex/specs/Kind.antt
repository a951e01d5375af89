-- What tokens are, with names as texts.
use Rattle.std.specs.Prelude.{ℕ, ℤ, List, Option}
use Rattle.cu_lex.specs.declared.token.Keyword as keyword
use Rattle.cu_lex.specs.declared.token.LayoutMark.{LayoutMark}
use Rattle.cu_lex.specs.declared.token.Mark as mark
use Rattle.cu_lex.specs.declared.token.ReservedOperator.{ReservedOperator}
use Rattle.cu_lex.specs.declared.token.Special.{Special}

-- A name or an operator: its text, its qualifier, if it has one, what follows the qualifier, and
-- which special name it is, if any.
pub record Spelling : Type 0 where
  pub text : List ℕ
  pub qualifier : Option (List ℕ)
  pub base : List ℕ
  pub special : Option Special

-- The kind of a token, with the values of literals.
pub data Kind : Type 0 where
  VarId : Spelling → Kind
  ConId : Spelling → Kind
  VarOp : Spelling → Kind
  ConOp : Spelling → Kind
  Keyword : keyword.Keyword → Kind
  Reserved : ReservedOperator → Kind
  Mark : mark.Mark → Kind
  Int : ℤ → Kind
  Char : ℕ → Kind
  String : List ℕ → Kind
  Layout : LayoutMark → Kind
