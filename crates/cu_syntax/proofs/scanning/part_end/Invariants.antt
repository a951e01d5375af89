use Rattle.std.proofs.Common.{◌≡◌, ◌≤◌, ℕ, List, drop, map}
use Rattle.cu_lex.specs.Reading.{lexeme_of}
use Rattle.cu_syntax.specs.Inside.Scanning.{later, part_end}
use Rattle.cu_syntax.proofs.scanning.part_end.Given as goal

abbrev pub invariant-loop-number : goal.invariant-loop-number
invariant-loop-number l = record {
  depth : l.depth ≤ l.number;
  end : (names : List (List ℕ)) → part_end 0 (map (lexeme_of names) l.tokens) ≡ later l.number (part_end l.depth (map (lexeme_of names) (drop l.number l.tokens)));
}
