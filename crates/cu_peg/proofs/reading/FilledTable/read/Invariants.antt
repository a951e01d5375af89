use Rattle.std.proofs.Common.{◌-◌, ℕ, Bool, List, length, map, ◌≡◌, ◌+◌}
use Rattle.cu_lex.specs.Reading.{lexeme_of}
use Rattle.cu_peg.specs.Inside.Ends.{IsRight, last}
use Rattle.cu_peg.specs.Matches.{HasTree}
use Rattle.cu_peg.specs.Parse.{ParseTree}
use Rattle.cu_peg.specs.Inside.Reached.{IsReached, kept}
use Rattle.cu_peg.specs.Result.{has_at}
use Rattle.cu_peg.proofs.ReadLemmas.{Reading}
use Rattle.cu_peg.proofs.reading.FilledTable.read.Given as goal

abbrev pub invariant-loop-parts : goal.invariant-loop-parts
invariant-loop-parts l =
    (marks : List Bool) → IsReached l.self.rows.now l.start marks → (names : List (List ℕ)) (right : IsRight (kept marks l.self.rows.now) (has_at (map (lexeme_of names) l.self.tokens.now)) (length l.self.tokens.now) l.self.table.now.columns) (long : length l.self.table.now.columns ≡ length l.self.tokens.now + 1) (tree : ParseTree ℕ)
    → HasTree (kept marks l.self.rows.now) (has_at (map (lexeme_of names) l.self.tokens.now)) l.start (last (length l.self.tokens.now) (length l.self.tokens.now)) tree
    → Reading (kept marks l.self.rows.now) (has_at (map (lexeme_of names) l.self.tokens.now)) (length l.self.tokens.now) l.self.table.now.columns right long l.nodes.items l.pending.items tree

abbrev pub decreases-loop-parts : goal.decreases-loop-parts
decreases-loop-parts l = l.fn.end.nodes - length l.nodes.items
