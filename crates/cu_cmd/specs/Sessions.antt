-- What the command `session` writes, by its input, and what the replies to its lines `next` come to.
use Rattle.std.specs.Prelude.{◌≡◌, ℕ, List, [], ◌∷◌, ◌++◌, Option, Some, None, codes}
use Rattle.std.specs.List.{concat}
use Rattle.cu_calculus.specs.Program as calculus
use Rattle.cu_front.specs.Compiling.{Compiles, Folder}
use Rattle.cu_kernel.specs.Kernel.{Goal, Kernel}
use Rattle.cu_machine.specs.declared.SearchLimits.{SearchLimits}
use Rattle.cu_search.specs.Lines.{listing_bytes}
use Rattle.cu_search.specs.NextLines.{NextLines}
use Rattle.cu_search.specs.Standing.{Standing, left_of}
use Rattle.cu_session.specs.Lines.{lines_of}
use Rattle.cu_session.specs.Session.{Begins, Session}
use Rattle.cu_session.specs.declared.end.SessionEnd.TheVariants as end
use Rattle.cu_theorem.specs.Listed.{listing_of}
use Rattle.cu_cmd.specs.Listings.{listing_text}
use Rattle.cu_cmd.specs.Replies.{Replies, asked_for, fresh}
use Rattle.cu_cmd.specs.declared.status.Status.{Status}
use Rattle.cu_cmd.specs.declared.status.Status.TheVariants as status

-- the line that is written at a line that is too long
abbrev pub too_long_line : List ℕ
too_long_line = codes "line too long\n"

-- The status is that of a run that broke off.
abbrev pub IsBrokenOff : Status → Type 0
IsBrokenOff status.ReadFault = Unit {0}
IsBrokenOff status.WriteFault = Unit {0}
IsBrokenOff status.NoMemory = Unit {0}
IsBrokenOff answer = ⊥

-- What a session writes over an input, a reply a piece, and the status that it ends with.
pub data SessionReport (folder : Folder) (input : List ℕ) : List (List ℕ) → Status → Type 0 where
  -- All lines were answered.
  answered : (replies : List (List ℕ))
      → Session Replies (fresh folder) (lines_of input) replies end.EndOfInput
      → SessionReport folder input replies status.Done
  -- The lines up to and with one that quits were answered.
  left : (replies : List (List ℕ))
      → Session Replies (fresh folder) (lines_of input) replies end.Quit
      → SessionReport folder input replies status.Done
  -- The lines before one that is too long were answered.
  too_long : (replies : List (List ℕ))
      → Session Replies (fresh folder) (lines_of input) replies end.LineTooLong
      → SessionReport folder input (replies ++ too_long_line ∷ []) status.Done
  -- The outside failed or memory ran out, after the first lines had been answered.
  broke_off : (replies : List (List ℕ)) (answer : Status)
      → Begins Replies (fresh folder) (lines_of input) replies → IsBrokenOff answer
      → SessionReport folder input replies answer

-- ---- questions

-- What the replies to the lines `next` of a question list, without their dots, and where its search
-- stands after them, unless the listing has ended. Lines that leave the question as it is may stand
-- between them.
pub data Lists : Standing → List (List ℕ) → Option Standing → Type 0 where
  not_yet : (s : Standing) → Lists s [] (Some s)
  goes_on : (s t : Standing) (bytes : List ℕ) (others : List (List ℕ)) (after : Option Standing)
      → NextLines s bytes (Some t) → Lists t others after → Lists s (bytes ∷ others) after
  ends : (s : Standing) (bytes : List ℕ) → NextLines s bytes None → Lists s (bytes ∷ []) None

-- what is left of the listing of a question
abbrev pub left_after : Option Standing → List ℕ
left_after None = []
left_after (Some s) = listing_bytes s.notation (left_of s)

-- Whatever program a goal in a module comes to, what a session lists of it under these limits,
-- without the dots, and what is left then, are the listing that a `solve` of it writes.
abbrev pub ListsQuestion : Folder → List ℕ → List ℕ → SearchLimits → Type 0
ListsQuestion held root text limits = (names : List (List ℕ)) (program : Kernel)
    (flat : calculus.Program) (goal : Goal)
    → Compiles held root text names program flat → program.goal ≡ Some goal
    → (replies : List (List ℕ)) (after : Option Standing)
    → Lists (asked_for limits names program flat goal) replies after
    → listing_text names program goal (listing_of limits flat goal)
    ≡ concat replies ++ left_after after
