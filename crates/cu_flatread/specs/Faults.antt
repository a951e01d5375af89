-- Where bytes stop being the text of a module in FlatCurry.
use Rattle.std.specs.Prelude.{ℕ, ◌+◌, ◌<◌, List, ◌++◌, length, take}
use Rattle.cu_flatread.specs.FlatText.{FlatText}
use Rattle.cu_flatread.specs.Modules.{Module}

-- the bytes are the text of some module
abbrev pub IsFlatText : List ℕ → Type 0
IsFlatText bytes = (flat : Module) × FlatText bytes flat

-- the text of some module begins with these bytes
abbrev pub BeginsFlatText : List ℕ → Type 0
BeginsFlatText bytes = (after : List ℕ) × IsFlatText (bytes ++ after)

-- Where the fault of bytes is that are no text.
pub data IsFault (bytes : List ℕ) : ℕ → Type 0 where
  -- the first byte up to and with which no text begins
  wrong_byte : (offset : ℕ) → offset < length bytes
      → BeginsFlatText (take offset bytes) → (BeginsFlatText (take (offset + 1) bytes) → ⊥)
      → IsFault bytes offset
  -- the end, where the bytes begin a text and are none
  unfinished : BeginsFlatText bytes → (IsFlatText bytes → ⊥) → IsFault bytes (length bytes)
