use Rattle.std.proofs.Common.{◌≡◌, ℕ, ◌≤◌, [], ◌∷◌, All, length, map}
use Rattle.cu_names.specs.Texts.{Extends}
use Rattle.cu_flatread.specs.Inside.Declarations.{constructor_at}
use Rattle.cu_flatread.specs.Inside.Words.{joined, more_elements}
use Rattle.cu_flatread.specs.Meaning.{HasConstructor, constructor_of}
use Rattle.cu_flatread.proofs.type_declarations.constructors_after.Given as goal

abbrev pub invariant-loop-constructors : goal.invariant-loop-constructors
invariant-loop-constructors l =
    (room : ℕ) × (length l.cursor.rest.now ≤ room)
    × (joined (map (constructor_of l.names) l.constructors.items) (more_elements constructor_at room l.cursor.rest.now)
    ≡ joined (constructor_of l.fn.names l.fn.first ∷ [])
    (more_elements constructor_at (length l.fn.cursor.rest.now) l.fn.cursor.rest.now))
    × (length l.cursor.rest.now ≤ length l.fn.cursor.rest.now)
    × All (HasConstructor l.names) l.constructors.items × Extends l.fn.names l.names

abbrev pub decreases-loop-constructors : goal.decreases-loop-constructors
decreases-loop-constructors l = length l.cursor.rest.now
