-- Whole texts, their prefixes, and the fault of bytes that are no whole text.
use Rattle.std.specs.Prelude.{◌≡◌, ℕ, ◌+◌, ◌<◌, ◌≤◌, List, ◌++◌, length, take}
use Rattle.cu_calculus.specs.Gives.{Claim}
use Rattle.cu_calculus.specs.Proof.{Step}
use Rattle.cu_prooftext.specs.Format.{AreNested, IsOrdered, ProofInRange}
use Rattle.cu_prooftext.specs.Text.{proof_text}

-- The bytes are the text of this proof with these claims, which the format allows.
pub record IsTextOf (claims : List Claim) (steps : List Step) (bytes : List ℕ) : Type 0 where
  pub in_range : ProofInRange claims steps
  pub ordered : IsOrdered steps
  pub nested : AreNested steps
  pub text : bytes ≡ proof_text claims steps

-- The bytes are the text of some proof with some claims.
abbrev pub IsProofText : List ℕ → Type 0
IsProofText bytes = (claims : List Claim) × (steps : List Step) × IsTextOf claims steps bytes

-- The bytes are a prefix of a whole text.
abbrev pub IsPrefix : (List ℕ → Type 0) → List ℕ → Type 0
IsPrefix IsWhole bytes = (after : List ℕ) × IsWhole (bytes ++ after)

-- The offset of the fault of bytes that are no whole text: that of the first byte up to and with
-- which they are no prefix of one, or their length, where they end unfinished.
pub record IsFault (IsWhole : List ℕ → Type 0) (bytes : List ℕ) (offset : ℕ) : Type 0 where
  pub within : offset ≤ length bytes
  pub begins : IsPrefix IsWhole (take offset bytes)
  pub stops : offset < length bytes → IsPrefix IsWhole (take (offset + 1) bytes) → ⊥
  pub no_text : IsWhole bytes → ⊥
