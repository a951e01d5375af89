use Rattle.std.proofs.Common.{◌≡◌, length, drop, nat_lt}
use Rattle.std.specs.List.{list_all}
use Rattle.cu_peg.specs.WellFormed.{is_closed, named}
use Rattle.cu_peg.proofs.grammar.is_closed.Given as goal

abbrev pub invariant-loop-row : goal.invariant-loop-row
invariant-loop-row l = is_closed l.rows ≡ list_all (λ e. list_all (λ p. nat_lt p (length l.rows)) (named e)) (drop l.row-index l.rows)
