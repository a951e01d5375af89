use Rattle.std.proofs.Common.{◌≡◌, ℕ, List, drop, map, nat_lt}
use Rattle.cu_lex.specs.Reading.{lexeme_of}
use Rattle.cu_syntax.specs.Parsing.{item_length}
use Rattle.cu_syntax.proofs.scanning.is_longer.Given as goal

abbrev pub invariant-loop-token : goal.invariant-loop-token
invariant-loop-token l = (names : List (List ℕ)) → nat_lt l.limit (item_length (map (lexeme_of names) l.tokens)) ≡ nat_lt l.room (item_length (map (lexeme_of names) (drop l.token-index l.tokens)))
