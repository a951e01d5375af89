use Rattle.std.proofs.Common.{◌≡◌, ◌*◌, ◌^◌, ◌≤◌, ◌∷◌, [], length, vec_len}
use Rattle.cu_values.specs.Cells.{arity_of}
use Rattle.cu_prooftext.specs.Inside.Loops.{with_front}
use Rattle.cu_prooftext.specs.Inside.Reading.{cells_at}
use Rattle.cu_prooftext.proofs.cells.cells_from.Given as goal

-- the cells so far and those that are left are all, and not too many are needed
abbrev pub invariant-loop-needed : goal.invariant-loop-needed
invariant-loop-needed l =
    (with_front l.cells.items (cells_at l.needed l.rest) ≡ with_front (l.fn.first ∷ []) (cells_at (arity_of l.fn.first) l.fn.bytes))
    × (l.needed ≤ 2 ^ 32 * vec_len l.cells)

abbrev pub decreases-loop-needed : goal.decreases-loop-needed
decreases-loop-needed l = length l.rest
