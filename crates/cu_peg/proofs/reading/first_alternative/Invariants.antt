use Rattle.std.proofs.Common.{◌≡◌, ◌+◌, drop}
use Rattle.std.specs.Option.{option_map}
use Rattle.cu_peg.specs.Inside.Cursors.{first_alternative}
use Rattle.cu_peg.specs.Inside.Ends.{end_at}
use Rattle.cu_peg.proofs.reading.first_alternative.Given as goal

abbrev pub invariant-loop-number : goal.invariant-loop-number
invariant-loop-number l =
    first_alternative (end_at l.table.columns) l.parts l.left ≡ option_map (λ n. l.number + n) (first_alternative (end_at l.table.columns) (drop l.number l.parts) l.left)
