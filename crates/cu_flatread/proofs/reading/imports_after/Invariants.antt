use Rattle.std.proofs.Common.{◌≡◌, ℕ, ◌≤◌, [], ◌∷◌, All, length, map}
use Rattle.cu_names.specs.Texts.{Extends, IsKnown, text_of}
use Rattle.cu_flatread.specs.Inside.Names.{quoted_at}
use Rattle.cu_flatread.specs.Inside.Words.{joined, more_elements}
use Rattle.cu_flatread.proofs.reading.imports_after.Given as goal

abbrev pub invariant-loop-imports : goal.invariant-loop-imports
invariant-loop-imports l =
    (room : ℕ) × (length l.cursor.rest.now ≤ room)
    × (joined (map (text_of l.names) l.imports.items) (more_elements quoted_at room l.cursor.rest.now)
    ≡ joined (text_of l.fn.names l.fn.first ∷ [])
    (more_elements quoted_at (length l.fn.cursor.rest.now) l.fn.cursor.rest.now))
    × (length l.cursor.rest.now ≤ length l.fn.cursor.rest.now)
    × All (IsKnown l.names) l.imports.items × Extends l.fn.names l.names

abbrev pub decreases-loop-imports : goal.decreases-loop-imports
decreases-loop-imports l = length l.cursor.rest.now
