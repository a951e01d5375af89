-- What an asker tells of its replies.
use Rattle.std.specs.Prelude.{◌≡◌, ℕ, ◌⊎◌, List, ◌++◌, Option, Some, Result, Ok, Err}
use Rattle.cu_io.specs.Rose.{Rose}
use Rattle.cu_session.specs.declared.asker.Turn.{Turn}
use Rattle.cu_session.specs.declared.asker.Turn.TheVariants.{Go, Quit}

-- an answer to a line: the reply, the turn, and the state after it
pub record Answer (State : Type 0) : Type 0 where
  pub reply : List ℕ
  pub turn : Turn
  pub after : State

-- which answers are due to a line in a state
abbrev pub Meaning : Type 0 → Type 1
Meaning State = State → List ℕ → Answer State → Type 0

-- A text has more bytes at its end.
abbrev pub Extends : List ℕ → List ℕ → Type 0
Extends old new = (more : List ℕ) × (new ≡ old ++ more)

-- An asker gives an answer that is due: it adds the reply to a text, says the turn and leaves the
-- state after it.
pub record Gives
    {State : Type 0} (is_due : Answer State → Type 0) (turn : Turn)
    (old new : List ℕ) (state : Option State) : Type 0
  where
    pub answer : Answer State
    pub due : is_due answer
    pub added : new ≡ old ++ answer.reply
    pub turned : turn ≡ answer.turn
    pub left : state ≡ Some answer.after

-- An asker breaks off: it adds nothing to a text and quits. Its count of faults rose.
pub record BreaksOff (turn : Turn) (old new : List ℕ) (old_count new_count : ℕ) : Type 0 where
  pub nothing : new ≡ old
  pub quits : turn ≡ Quit
  pub rose : Rose old_count new_count

-- An asker's count of faults rises only where it quits and adds nothing to a text. Otherwise it
-- stands, also where memory ran out.
abbrev pub ReplyCount : {E : Type 0} → Result Turn E → List ℕ → List ℕ → ℕ → ℕ → Type 0
ReplyCount (Ok Go) old new old_count new_count = new_count ≡ old_count
ReplyCount (Ok Quit) old new old_count new_count =
    (new_count ≡ old_count) ⊎ ((new ≡ old) × Rose old_count new_count)
ReplyCount (Err error) old new old_count new_count = new_count ≡ old_count
