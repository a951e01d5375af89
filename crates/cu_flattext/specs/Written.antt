-- What was written to a sink, and why printing breaks off.
use Rattle.std.specs.Prelude.{◌≡◌, ℕ, ◌≤◌, List, ◌++◌, Option, Result, Ok, Err, length, option_map, take}
use Rattle.cu_io.specs.Rose.{Rose}
use Rattle.cu_flattext.specs.declared.fault.PrintFault.{PrintFault}
use Rattle.cu_flattext.specs.declared.fault.PrintFault.TheVariants.{NoMemory, Write}

-- What the sink took is what it had taken before, and then this text. Where the sink doesn't tell
-- what it took (None), nothing is said.
abbrev pub Adds : Option (List ℕ) → Option (List ℕ) → List ℕ → Type 0
Adds before after text = after ≡ option_map (λ told. told ++ text) before

-- The sink took a prefix of this text beside what it had taken before.
abbrev pub AddsPrefix : Option (List ℕ) → Option (List ℕ) → List ℕ → Type 0
AddsPrefix before after text = (n : ℕ) × (n ≤ length text) × Adds before after (take n text)

-- The output's count of faults rose where the output failed. Otherwise it stands, also where memory
-- ran out.
abbrev pub HasCause : {A : Type 0} → Result A PrintFault → ℕ → ℕ → Type 0
HasCause (Ok x) old new = new ≡ old
HasCause (Err Write) old new = Rose old new
HasCause (Err NoMemory) old new = new ≡ old
