-- Which tokens a class has. Names count by their kind, their qualifier and what they mean in some
-- places, and not by their text.
use Rattle.std.specs.Prelude.{nat_lt, ℤ, pos, negsuc, Bool, true, false, Option, None, Some, is_none, is_some}
use Rattle.std.specs.Option.{option_map_or}
use denote.Enum.Bare.{sameb}
use Rattle.cu_lex.specs.Kind.{Kind, Spelling}
use Rattle.cu_lex.specs.Kind as kind
use Rattle.cu_lex.specs.declared.token.LayoutMark.{LayoutMark}
use Rattle.cu_lex.specs.declared.token.LayoutMark.TheVariants as layout
use Rattle.cu_lex.specs.declared.token.Mark.{Mark}
use Rattle.cu_lex.specs.declared.token.Mark.TheVariants as mark
use Rattle.cu_lex.specs.declared.token.Special.{Special}
use Rattle.cu_lex.specs.contracts.token.Keyword as keyword
use Rattle.cu_lex.specs.contracts.token.Mark as marks
use Rattle.cu_lex.specs.contracts.token.ReservedOperator as reserved
use Rattle.cu_lex.specs.contracts.token.Special as special
use Rattle.cu_lex.specs.Tokens.{Lexeme}
use Rattle.cu_peg.specs.declared.class.Class.{Class}
use Rattle.cu_peg.specs.declared.class.Class.TheVariants as class
use Rattle.cu_peg.specs.declared.class.NameKind.{NameKind}
use Rattle.cu_peg.specs.declared.class.NameKind.TheVariants as name_kind

-- the name that a token is, if it is one of this kind
abbrev pub spelling_in : NameKind → Kind → Option Spelling
spelling_in name_kind.VarId (kind.VarId name) = Some name
spelling_in name_kind.ConId (kind.ConId name) = Some name
spelling_in name_kind.VarOp (kind.VarOp name) = Some name
spelling_in name_kind.ConOp (kind.ConOp name) = Some name
spelling_in _ _ = None

-- whether a name is this one of those that mean something in some places
abbrev pub is_special : Special → Option Special → Bool
is_special expected found = option_map_or (sameb special.the_type expected) found false

-- whether a number is one of 0 to 9
abbrev pub is_digit : ℤ → Bool
is_digit (pos n) = nat_lt n 10
is_digit (negsuc n) = false

-- the mark of the text that a mark of the layout stands for
abbrev pub mark_of : LayoutMark → Mark
mark_of layout.Open = mark.OpenBrace
mark_of layout.Close = mark.CloseBrace
mark_of layout.Separator = mark.Semicolon

-- whether a class has tokens of this kind
abbrev pub has_kind : Class → Kind → Bool
has_kind (class.Unqualified expected) token =
    option_map_or (λ name. is_none name.qualifier) (spelling_in expected token) false
has_kind (class.Name expected) token = is_some (spelling_in expected token)
has_kind (class.Special expected) (kind.VarId name) = is_special expected name.special
has_kind (class.Special expected) (kind.VarOp name) = is_special expected name.special
has_kind (class.Keyword expected) (kind.Keyword word) = sameb keyword.the_type expected word
has_kind (class.Reserved expected) (kind.Reserved word) = sameb reserved.the_type expected word
has_kind (class.Mark expected) (kind.Mark word) = sameb marks.the_type expected word
has_kind (class.Mark expected) (kind.Layout word) = sameb marks.the_type expected (mark_of word)
has_kind class.Int (kind.Int n) = true
has_kind class.Digit (kind.Int n) = is_digit n
has_kind class.Char (kind.Char code) = true
has_kind class.String (kind.String codes) = true
has_kind _ _ = false

-- whether a class has a token
abbrev pub has : Class → Lexeme → Bool
has c lexeme = has_kind c lexeme.what
