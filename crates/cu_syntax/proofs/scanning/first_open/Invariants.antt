use Rattle.std.proofs.Common.{◌≡◌, ◌+◌, ℕ, List, drop, map}
use Rattle.std.specs.Option.{option_map}
use Rattle.cu_lex.specs.Reading.{lexeme_of}
use Rattle.cu_syntax.specs.Inside.Scanning.{first_open}
use Rattle.cu_syntax.proofs.scanning.first_open.Given as goal

abbrev pub invariant-loop-number : goal.invariant-loop-number
invariant-loop-number l = (names : List (List ℕ)) → first_open (map (lexeme_of names) l.tokens) ≡ option_map (λ n. l.number + n) (first_open (map (lexeme_of names) (drop l.number l.tokens)))
