-- What was written to a sink, and why a search breaks off.
use Rattle.std.specs.Prelude.{◌≡◌, ℕ, ◌≤◌, List, ◌++◌, Option, Result, Ok, Err, length, option_map, take}
use Rattle.cu_io.specs.Rose.{Rose}
use Rattle.cu_search.specs.declared.fault.SearchFault.{SearchFault}
use Rattle.cu_search.specs.declared.fault.SearchFault.TheVariants.{NoMemory, Write}

-- What the sink took is what it had taken before, and then these bytes. Where the sink doesn't tell
-- what it took (None), nothing is said.
abbrev pub Adds : Option (List ℕ) → Option (List ℕ) → List ℕ → Type 0
Adds before after bytes = after ≡ option_map (λ told. told ++ bytes) before

-- The sink took a prefix of these bytes beside what it had taken before.
abbrev pub AddsPrefix : Option (List ℕ) → Option (List ℕ) → List ℕ → Type 0
AddsPrefix before after bytes = (n : ℕ) × (n ≤ length bytes) × Adds before after (take n bytes)

-- The output's count of faults rose where the output failed. Otherwise it stands, also where memory
-- ran out.
abbrev pub HasCause : {A : Type 0} → Result A SearchFault → ℕ → ℕ → Type 0
HasCause (Ok x) old new = new ≡ old
HasCause (Err Write) old new = Rose old new
HasCause (Err NoMemory) old new = new ≡ old
