-- What a fault of the code says of the bytes.
use Rattle.std.specs.Prelude.{ℕ, List}
use Rattle.cu_prooftext.specs.declared.fault.ProofFault.{ProofFault}
use Rattle.cu_prooftext.specs.declared.fault.ProofFault.TheVariants as fault
use Rattle.cu_prooftext.specs.Faults.{IsFault, IsProofText}
use Rattle.cu_prooftext.specs.Files.{IsFileFault}

-- The bytes aren't the text of a proof, and the offset is that of their fault; or memory ran out.
abbrev pub IsFirstFault : List ℕ → ProofFault → Type 0
IsFirstFault bytes (fault.BadProof offset) = IsFault IsProofText bytes offset
IsFirstFault bytes fault.NoMemory = Unit {0}

-- The bytes aren't a file, and the offset is that of their fault; or memory ran out.
abbrev pub IsFirstFileFault : List ℕ → ProofFault → Type 0
IsFirstFileFault bytes (fault.BadProof offset) = IsFileFault bytes offset
IsFirstFileFault bytes fault.NoMemory = Unit {0}
