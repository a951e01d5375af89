-- The tokens of names and literals.
use Rattle.std.specs.Prelude.{Bool, true, false, ◌||◌}
use denote.Enum.Bare.{sameb}
use Rattle.cu_lex.specs.declared.token.TokenKind.{TokenKind}
use Rattle.cu_lex.specs.declared.token.TokenKind.TheVariants as token
use Rattle.cu_syntax.specs.contracts.symbol.Symbol as symbols
use Rattle.cu_syntax.specs.declared.symbol.Symbol.{Symbol}
use Rattle.cu_syntax.specs.declared.symbol.Symbol.TheVariants as symbol
use Rattle.cu_syntax.specs.Forms.{is_name}

-- whether a symbol's tree has the token of a name, or of the name of a module
abbrev pub has_name : Symbol → Bool
has_name s = is_name s || sameb symbols.the_type symbol.ModuleName s

-- whether a token is a name or an operator
abbrev pub is_spelled : TokenKind → Bool
is_spelled (token.VarId name) = true
is_spelled (token.ConId name) = true
is_spelled (token.VarOp name) = true
is_spelled (token.ConOp name) = true
is_spelled _ = false
