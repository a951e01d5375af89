-- What the faults of `ask` tell, under a table of names.
use Rattle.std.specs.Prelude.{ℕ, List}
use Rattle.cu_front.specs.declared.asking.AskFault.{AskFault}
use Rattle.cu_front.specs.declared.asking.AskFault.TheVariants as answer
use Rattle.cu_front.specs.Refusal.{Refusal}
use Rattle.cu_front.specs.RefusalMeaning.{RefusalIsKnown, refusal_meaning}

-- A refusal that a fault tells has the property P. An allocation failure says nothing.
abbrev pub AskTells : List (List ℕ) → (Refusal → Type 0) → AskFault → Type 0
AskTells names P (answer.Refused refusal) = P (refusal_meaning names refusal)
AskTells names P answer.NoMemory = Unit {0}

-- The table has the names of the refusal that a fault tells.
abbrev pub AskIsKnown : List (List ℕ) → AskFault → Type 0
AskIsKnown names (answer.Refused refusal) = RefusalIsKnown names refusal
AskIsKnown names answer.NoMemory = Unit {0}
