use Rattle.std.proofs.Common.{◌≡◌, ℕ, ◌≤◌, [], ◌∷◌, All, length, map}
use Rattle.cu_names.specs.Texts.{Extends}
use Rattle.cu_flatread.specs.Inside.Declarations.{declaration_at}
use Rattle.cu_flatread.specs.Inside.Words.{joined, more_elements}
use Rattle.cu_flatread.specs.Meaning.{HasDeclaration, declaration_of}
use Rattle.cu_flatread.proofs.type_declarations.declarations_after.Given as goal

abbrev pub invariant-loop-declarations : goal.invariant-loop-declarations
invariant-loop-declarations l =
    (room : ℕ) × (length l.cursor.rest.now ≤ room)
    × (joined (map (declaration_of l.names) l.declarations.items) (more_elements declaration_at room l.cursor.rest.now)
    ≡ joined (declaration_of l.fn.names l.fn.first ∷ [])
    (more_elements declaration_at (length l.fn.cursor.rest.now) l.fn.cursor.rest.now))
    × (length l.cursor.rest.now ≤ length l.fn.cursor.rest.now)
    × All (HasDeclaration l.names) l.declarations.items × Extends l.fn.names l.names

abbrev pub decreases-loop-declarations : goal.decreases-loop-declarations
decreases-loop-declarations l = length l.cursor.rest.now
