use Rattle.std.proofs.Common.{◌≡◌, ℕ, List, drop, map}
use Rattle.cu_lex.specs.Reading.{lexeme_of}
use Rattle.cu_syntax.specs.Inside.Scanning.{last_line}
use Rattle.cu_syntax.proofs.scanning.last_line.Given as goal

abbrev pub invariant-loop-token : goal.invariant-loop-token
invariant-loop-token l = (names : List (List ℕ)) → last_line l.before (map (lexeme_of names) l.tokens) ≡ last_line l.last (map (lexeme_of names) (drop l.token-index l.tokens))
