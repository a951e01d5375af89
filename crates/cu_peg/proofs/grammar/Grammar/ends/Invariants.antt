use Rattle.std.proofs.Common.{◌≡◌, ◌≤◌, ◌+◌, ◌-◌, ℕ, List, length, map}
use Rattle.cu_lex.specs.Reading.{lexeme_of}
use Rattle.cu_peg.specs.Inside.Ends.{IsRight}
use Rattle.cu_peg.specs.Inside.Reached.{kept}
use Rattle.cu_peg.specs.Result.{has_at}
use Rattle.cu_peg.proofs.grammar.Grammar.ends.Given as goal

abbrev pub invariant-places : goal.invariant-places
invariant-places l = record {
  wide : l.table.width ≡ length l.rows;
  long : length l.table.columns ≤ length l.tokens + 1;
  right : (names : List (List ℕ)) → IsRight (kept l.marks l.rows) (has_at (map (lexeme_of names) l.tokens)) (length l.tokens) l.table.columns;
}

abbrev pub decreases-places : goal.decreases-places
decreases-places l = length l.tokens + 1 - length l.table.columns
