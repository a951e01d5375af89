use Rattle.std.proofs.Common.{◌≡◌, ℕ, ◌≤◌, [], ◌∷◌, All, length, map}
use Rattle.cu_names.specs.Texts.{Extends}
use Rattle.cu_flatread.specs.Inside.Declarations.{operator_at}
use Rattle.cu_flatread.specs.Inside.Words.{joined, more_elements}
use Rattle.cu_flatread.specs.Meaning.{HasOperator, operator_of}
use Rattle.cu_flatread.proofs.functions.operators_after.Given as goal

abbrev pub invariant-loop-operators : goal.invariant-loop-operators
invariant-loop-operators l =
    (room : ℕ) × (length l.cursor.rest.now ≤ room)
    × (joined (map (operator_of l.names) l.operators.items) (more_elements operator_at room l.cursor.rest.now)
    ≡ joined (operator_of l.fn.names l.fn.first ∷ [])
    (more_elements operator_at (length l.fn.cursor.rest.now) l.fn.cursor.rest.now))
    × (length l.cursor.rest.now ≤ length l.fn.cursor.rest.now)
    × All (HasOperator l.names) l.operators.items × Extends l.fn.names l.names

abbrev pub decreases-loop-operators : goal.decreases-loop-operators
decreases-loop-operators l = length l.cursor.rest.now
