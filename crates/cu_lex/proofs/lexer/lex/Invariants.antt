use Rattle.std.proofs.Common.{◌≡◌, length, map, true}
use Rattle.std.specs.Prelude.{All}
use Rattle.std.specs.Str.{chars}
use Rattle.cu_names.specs.Texts.{AllDiffer, Extends}
use Rattle.cu_lex.specs.Located.{located}
use Rattle.cu_lex.specs.Reading.{is_written, lexeme_of, IsTokenOf}
use Rattle.cu_lex.specs.Inside.Scanning.{left, HasNoVariable}
use Rattle.cu_lex.specs.Tokens.{lexemes}
use Rattle.cu_lex.proofs.TokenLemmas.{before}
use Rattle.cu_lex.proofs.lexer.lex.Given as goal

abbrev pub invariant-loop-first : goal.invariant-loop-first
invariant-loop-first l = record {
  tokens : lexemes (located (chars l.bytes)) ≡ before (map (lexeme_of l.names) l.tokens.items) (lexemes (left l.rest));
  owned : All (IsTokenOf l.«module» l.names) l.tokens.items;
  written : All (λ t. is_written t.kind ≡ true) l.tokens.items;
  names : Extends l.fn.names l.names;
  underscore : l.after_underscore ≡ true → HasNoVariable (left l.rest);
  differ : AllDiffer l.fn.names → AllDiffer l.names;
}

abbrev pub decreases-loop-first : goal.decreases-loop-first
decreases-loop-first l = length (left l.rest)
