-- What layout sees of a token.
use Rattle.std.specs.Prelude.{Bool, true, false, List, [], ◌∷◌}
use Rattle.cu_lex.specs.declared.token.Keyword.TheVariants as keyword
use Rattle.cu_lex.specs.declared.token.Mark.TheVariants as mark
use Rattle.cu_lex.specs.declared.token.ReservedOperator.TheVariants as reserved
use Rattle.cu_lex.specs.declared.token.Token.{Token}
use Rattle.cu_lex.specs.declared.token.TokenKind.{TokenKind}
use Rattle.cu_lex.specs.declared.token.TokenKind.TheVariants as token
use Rattle.cu_lex.specs.Kind.{Kind}
use Rattle.cu_lex.specs.Kind.Kind.{VarId, ConId, VarOp, ConOp, Keyword, Reserved, Mark}
use Rattle.cu_lex.specs.Munch.{Placed}
use Rattle.cu_lex.specs.Reading.{position_of}
use Rattle.cu_lex.specs.Tokens.{Lexeme}
use Rattle.cu_layout.specs.declared.form.Form.{Form}
use Rattle.cu_layout.specs.declared.form.Form.TheVariants as form

-- What layout sees of a token: its form, and where it stands.
abbrev pub Sight : Type 0
Sight = Placed Form

-- The form of a token's kind.
abbrev pub form_of : Kind → Form
form_of (VarId name) = form.Name
form_of (ConId name) = form.Name
form_of (VarOp name) = form.Operator
form_of (ConOp name) = form.Operator
form_of (Keyword word) = form.Keyword word
form_of (Reserved reserved.Backslash) = form.Lambda
form_of (Mark mark) = form.Mark mark
form_of _ = form.Other

-- What layout sees of a token of a text.
abbrev pub sight_of : Lexeme → Sight
sight_of t = record { what = form_of t.what; at = t.at }

-- The form of a token of the lexer's, by its kind.
abbrev pub token_form : TokenKind → Form
token_form (token.VarId name) = form.Name
token_form (token.ConId name) = form.Name
token_form (token.VarOp name) = form.Operator
token_form (token.ConOp name) = form.Operator
token_form (token.Keyword word) = form.Keyword word
token_form (token.Reserved reserved.Backslash) = form.Lambda
token_form (token.Mark mark) = form.Mark mark
token_form _ = form.Other

-- What layout sees of a token of the lexer's.
abbrev pub token_sight : Token → Sight
token_sight t = record { what = token_form t.kind; at = position_of t.place }

-- ---- the forms that the rules ask for

abbrev pub is_where : Form → Bool
is_where (form.Keyword keyword.Where) = true
is_where _ = false

abbrev pub is_module : Form → Bool
is_module (form.Keyword keyword.Module) = true
is_module _ = false

abbrev pub is_open_brace : Form → Bool
is_open_brace (form.Mark mark.OpenBrace) = true
is_open_brace _ = false

abbrev pub is_close_brace : Form → Bool
is_close_brace (form.Mark mark.CloseBrace) = true
is_close_brace _ = false

abbrev pub is_comma : Form → Bool
is_comma (form.Mark mark.Comma) = true
is_comma _ = false

abbrev pub is_semicolon : Form → Bool
is_semicolon (form.Mark mark.Semicolon) = true
is_semicolon _ = false

-- Whether a block is due after a token of this form: `where`, `let` and `of`.
abbrev pub is_block_keyword : Form → Bool
is_block_keyword (form.Keyword keyword.Where) = true
is_block_keyword (form.Keyword keyword.Let) = true
is_block_keyword (form.Keyword keyword.Of) = true
is_block_keyword _ = false

-- Whether a token of this form goes on with an item where it stands on the column of the item's
-- block. There `where` closes the block, and every other token begins a new item.
abbrev pub goes_on : Form → Bool
goes_on (form.Keyword keyword.Then) = true
goes_on (form.Keyword keyword.Else) = true
goes_on (form.Keyword keyword.Of) = true
goes_on (form.Keyword keyword.In) = true
goes_on (form.Mark mark.Comma) = true
goes_on (form.Mark mark.CloseParen) = true
goes_on (form.Mark mark.CloseSquare) = true
goes_on _ = false

-- Whether tokens are names, operators in parentheses and commas alone, as they stand before `free`
-- and `::`. No token at all is such a list too.
abbrev pub only_names : List Form → Bool
only_names [] = true
only_names (form.Name ∷ more) = only_names more
only_names (form.Mark mark.Comma ∷ more) = only_names more
only_names (form.Mark mark.OpenParen ∷ form.Operator ∷ form.Mark mark.CloseParen ∷ more) =
    only_names more
only_names (form.Mark mark.OpenParen ∷ form.Mark mark.Backquote ∷ form.Name
    ∷ form.Mark mark.Backquote ∷ form.Mark mark.CloseParen ∷ more) = only_names more
only_names _ = false
