use Rattle.std.proofs.Common.{◌≡◌, ℕ, List, drop, map}
use Rattle.cu_lex.specs.Reading.{lexeme_of}
use Rattle.cu_syntax.specs.Parsing.{first_line}
use Rattle.cu_syntax.proofs.scanning.first_line.Given as goal

abbrev pub invariant-loop-token : goal.invariant-loop-token
invariant-loop-token l = (names : List (List ℕ)) → first_line l.before (map (lexeme_of names) l.tokens) ≡ first_line l.before (map (lexeme_of names) (drop l.token-index l.tokens))
