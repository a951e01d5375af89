-- What `check` answers of a file that is said to prove an answer of a goal.
use Rattle.std.specs.Prelude.{◌≡◌, ℕ, ◌≤◌, List, [], ◌∷◌, ◌++◌, None, Some, codes, decimal, length}
use Rattle.cu_calculus.specs.Gives as calculus
use Rattle.cu_calculus.specs.Program as programs
use Rattle.cu_calculus.specs.Proof.{Step}
use Rattle.cu_calculus.specs.Value.{Value}
use Rattle.cu_front.specs.Compiling.{AreCompiled, Compiles, Folder, ModulesRefused, RequestRefused}
use Rattle.cu_front.specs.Refusal.{Refusal}
use Rattle.cu_front.specs.RefusalLine.{refusal_line, refused}
use Rattle.cu_io.specs.Holdings.{Holdings}
use Rattle.cu_kernel.specs.Kernel.{Goal, Kernel, program_of}
use Rattle.cu_modules.specs.Scopes.{Named}
use Rattle.cu_prooftext.specs.Files.{IsFileFault, IsFileOf, max_file_bytes}
use Rattle.cu_search.specs.Lines.{Notation, answer_text}
use Rattle.cu_verdict.specs.Proved.{ProvesAnswer}
use Rattle.cu_words.specs.Words.{Check}
use Rattle.cu_cmd.specs.Listings.{notation_of}
use Rattle.cu_cmd.specs.declared.status.Status.{Status}
use Rattle.cu_cmd.specs.declared.status.Status.TheVariants as status

-- ---- lines

-- the line for a file that isn't there
abbrev pub missing_file_line : List ℕ → List ℕ
missing_file_line path = refused (codes "32 MissingFile") path

-- the line for a file whose text has its fault at this byte
abbrev pub bad_proof_line : ℕ → List ℕ
bad_proof_line offset = refused (codes "26 BadProof") (codes "offset " ++ decimal offset)

-- the line for a proof of an answer of this text that is given so many claims
abbrev pub yes_line : List ℕ → ℕ → List ℕ
yes_line answer claims =
    codes "yes " ++ (answer ++ (codes " given " ++ (decimal claims ++ codes " claims\n")))

-- the line for a proof of no answer
abbrev pub no_line : List ℕ
no_line = codes "no\n"

-- ---- proofs

-- What a proof with claims comes to, in pieces, and the status of its check: a line that tells
-- whether the proof proves an answer of the goal, and which one.
pub data ProofReport (names : List (List ℕ)) (program : Kernel) (goal : Goal)
    (claims : List calculus.Claim) (steps : List Step) : List (List ℕ) → Status → Type 0 where
  -- The proof proves this answer.
  proved : (bindings : List Value) (v : Value)
      → ProvesAnswer (program_of program) goal claims steps bindings v
      → ProofReport names program goal claims steps
      (yes_line (answer_text (notation_of names program goal) bindings v) (length claims) ∷ [])
      status.Done
  -- The proof proves no answer.
  not_proved : ((bindings : List Value) (v : Value)
      → ProvesAnswer (program_of program) goal claims steps bindings v → ⊥)
      → ProofReport names program goal claims steps (no_line ∷ []) status.Done

-- ---- files

-- The bytes are those of a file, which isn't too long, of this goal and this proof with its claims.
pub record HasProof (text : List ℕ) (claims : List calculus.Claim) (steps : List Step)
    (bytes : List ℕ) : Type 0 where
  pub size : length bytes ≤ max_file_bytes
  pub is_file : IsFileOf text claims steps bytes

-- What the bytes of a file come to, in pieces, and the status of its check, by the modules that a
-- root reaches in a folder. The file is refused, or its goal, or its proof is tried.
pub data FileReport (held : Folder) (root bytes : List ℕ) : List (List ℕ) → Status → Type 0 where
  -- The file is too long, or isn't the text of a goal and a proof.
  bad_proof : (offset : ℕ) → IsFileFault bytes offset
      → FileReport held root bytes (bad_proof_line offset ∷ []) status.Refused
  -- The file's goal is refused.
  goal_refused : (text : List ℕ) (claims : List calculus.Claim) (steps : List Step)
      (refusal : Refusal) → HasProof text claims steps bytes
      → RequestRefused held root text refusal
      → FileReport held root bytes (refusal_line refusal ∷ []) status.Refused
  -- The file's proof is tried.
  tried : (text : List ℕ) (claims : List calculus.Claim) (steps : List Step)
      (names : List (List ℕ)) (program : Kernel) (flat : programs.Program) (goal : Goal)
      (written : List (List ℕ)) (answer : Status)
      → HasProof text claims steps bytes → Compiles held root text names program flat
      → program.goal ≡ Some goal → ProofReport names program goal claims steps written answer
      → FileReport held root bytes written answer

-- ---- the report

-- What a `check` writes, in pieces, and the status that it ends with. It is refused for its
-- modules, then for its file, then for the file's goal; otherwise it tells whether the file's proof
-- proves an answer of the goal by the rules of the modules. The file's path isn't one of the
-- folder.
pub data CheckReport (held : Holdings) (check : Check) : List (List ℕ) → Status → Type 0 where
  -- The modules are refused.
  modules_refused : (refusal : Refusal)
      → ModulesRefused (held.module_at check.folder) check.name refusal
      → CheckReport held check (refusal_line refusal ∷ []) status.Refused
  -- There is no such file.
  no_file : (modules : List Named)
      → AreCompiled (held.module_at check.folder) check.name modules
      → held.file_at check.path ≡ None
      → CheckReport held check (missing_file_line check.path ∷ []) status.Refused
  -- There is such a file.
  of_file : (modules : List Named) (bytes : List ℕ) (written : List (List ℕ)) (answer : Status)
      → AreCompiled (held.module_at check.folder) check.name modules
      → held.file_at check.path ≡ Some bytes
      → FileReport (held.module_at check.folder) check.name bytes written answer
      → CheckReport held check written answer

-- ---- whole lines, whatever the library tells

-- The line is that of a refused file.
pub data IsFileRefusal (path line : List ℕ) : Type 0 where
  missing : line ≡ missing_file_line path → IsFileRefusal path line
  faulty : (offset : ℕ) → line ≡ bad_proof_line offset → IsFileRefusal path line

-- The line tells whether a proof proves an answer.
pub data IsVerdict (line : List ℕ) : Type 0 where
  yes : (notation : Notation) (bindings : List Value) (v : Value) (claims : ℕ)
      → line ≡ yes_line (answer_text notation bindings v) claims → IsVerdict line
  no : line ≡ no_line → IsVerdict line
