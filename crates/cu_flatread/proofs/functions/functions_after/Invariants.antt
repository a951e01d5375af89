use Rattle.std.proofs.Common.{◌≡◌, ℕ, ◌≤◌, [], ◌∷◌, All, length, map}
use Rattle.cu_names.specs.Texts.{Extends}
use Rattle.cu_flatread.specs.Inside.Declarations.{function_at}
use Rattle.cu_flatread.specs.Inside.Words.{joined, more_elements}
use Rattle.cu_flatread.specs.Meaning.{HasFunction, function_of}
use Rattle.cu_flatread.proofs.functions.functions_after.Given as goal

abbrev pub invariant-loop-functions : goal.invariant-loop-functions
invariant-loop-functions l =
    (room : ℕ) × (length l.cursor.rest.now ≤ room)
    × (joined (map (function_of l.names) l.functions.items) (more_elements function_at room l.cursor.rest.now)
    ≡ joined (function_of l.fn.names l.fn.first ∷ [])
    (more_elements function_at (length l.fn.cursor.rest.now) l.fn.cursor.rest.now))
    × (length l.cursor.rest.now ≤ length l.fn.cursor.rest.now)
    × All (HasFunction l.names) l.functions.items × Extends l.fn.names l.names

abbrev pub decreases-loop-functions : goal.decreases-loop-functions
decreases-loop-functions l = length l.cursor.rest.now
