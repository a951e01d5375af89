-- The text of a file: a goal, and the proof of an answer to it. The goal's text may be any bytes;
-- the number of them stands before it.
use Rattle.std.specs.Prelude.{◌≡◌, ℕ, ◌<◌, ◌≤◌, List, ◌++◌, codes, decimal, length}
use Rattle.cu_calculus.specs.Gives.{Claim}
use Rattle.cu_calculus.specs.Proof.{Step}
use Rattle.cu_prooftext.specs.Faults.{IsFault, IsTextOf}
use Rattle.cu_prooftext.specs.Format.{FitsIn64}

-- the most bytes of a file, one below the most that a library gives
abbrev pub max_file_bytes : ℕ
max_file_bytes = 16777216

-- the first line of a file: `goal`, the number of the bytes of the goal, and the goal
abbrev pub goal_line : List ℕ → List ℕ
goal_line goal = codes "goal " ++ (decimal (length goal) ++ (codes " " ++ (goal ++ codes "\n")))

-- The bytes are the text of a file with this goal, and this proof with these claims.
pub record IsFileOf (goal : List ℕ) (claims : List Claim) (steps : List Step) (bytes : List ℕ)
    : Type 0 where
  pub size : FitsIn64 (length goal)
  pub body : List ℕ
  pub is_body : IsTextOf claims steps body
  pub text : bytes ≡ goal_line goal ++ body

-- The bytes are the text of a file.
abbrev pub IsFile : List ℕ → Type 0
IsFile bytes =
    (goal : List ℕ) × (claims : List Claim) × (steps : List Step) × IsFileOf goal claims steps bytes

-- The offset of the fault of a file: that of the first byte too many, whatever the file has before
-- it, or the offset of the fault of its text.
pub data IsFileFault (bytes : List ℕ) (offset : ℕ) : Type 0 where
  too_long : max_file_bytes < length bytes → offset ≡ max_file_bytes → IsFileFault bytes offset
  in_text : length bytes ≤ max_file_bytes → IsFault IsFile bytes offset
      → IsFileFault bytes offset
