-- What a sink answers.
use Rattle.std.specs.Prelude.{◌≡◌, ℕ, ◌≤◌, List, ◌++◌, Option, length, take}
use Rattle.std.specs.Option.{option_map}
use Rattle.cu_io.specs.declared.sink.Put.{Put}
use Rattle.cu_io.specs.declared.sink.Put.TheVariants.{Done, Failed}
use Rattle.cu_io.specs.Rose.{Rose}

-- What a sink tells of its output after a piece: Done added the whole piece to it, and Failed a
-- prefix of the piece. A sink that doesn't tell its output (None) doesn't tell it afterwards.
abbrev pub Puts : Put → List ℕ → Option (List ℕ) → Option (List ℕ) → Type 0
Puts Done piece before after = after ≡ option_map (λ bytes. bytes ++ piece) before
Puts Failed piece before after = (n : ℕ) × (n ≤ length piece)
    × (after ≡ option_map (λ bytes. bytes ++ take n piece) before)

-- The sink's count of faults rose where the answer is Failed, and is as before otherwise.
abbrev pub PutCount : Put → ℕ → ℕ → Type 0
PutCount Done old new = new ≡ old
PutCount Failed old new = Rose old new
