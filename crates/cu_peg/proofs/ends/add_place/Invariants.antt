use Rattle.std.proofs.Common.{◌≡◌, ℕ, ◌+◌, ◌<◌, List, [], length, map, get_or, take}
use Rattle.std.specs.Prelude.{Contains}
use Rattle.cu_lex.specs.Reading.{lexeme_of}
use Rattle.cu_peg.specs.Inside.Ends.{IsEnd, end_at}
use Rattle.cu_peg.specs.Inside.Reached.{kept}
use Rattle.cu_peg.specs.Result.{has_at}
use Rattle.cu_peg.proofs.ends.add_place.Given as goal

abbrev pub invariant-loop-row : goal.invariant-loop-row
invariant-loop-row l = record {
  as_wide : l.table.width ≡ length (kept l.fn.grammar.marks.now l.fn.grammar.rows.now);
  long : length l.table.columns ≡ l.left + 1;
  wide : length (get_or l.table.columns l.left []) ≡ length (kept l.fn.grammar.marks.now l.fn.grammar.rows.now);
  before : (names : List (List ℕ)) (k r : ℕ) → k < l.left → r < length (kept l.fn.grammar.marks.now l.fn.grammar.rows.now)
      → IsEnd (kept l.fn.grammar.marks.now l.fn.grammar.rows.now) (has_at (map (lexeme_of names) l.tokens)) (length l.tokens) r k (end_at l.table.columns r k);
  here : (names : List (List ℕ)) (r : ℕ) → Contains (take l.row-index l.order) r
      → IsEnd (kept l.fn.grammar.marks.now l.fn.grammar.rows.now) (has_at (map (lexeme_of names) l.tokens)) (length l.tokens) r l.left (end_at l.table.columns r l.left);
}
