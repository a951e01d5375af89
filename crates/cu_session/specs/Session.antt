-- The replies of a session, line by line, and how it ends.
use Rattle.std.specs.Prelude.{◌≡◌, ℕ, true, false, List, [], ◌∷◌}
use Rattle.cu_session.specs.declared.asker.Turn.TheVariants as turn
use Rattle.cu_session.specs.declared.end.SessionEnd.{SessionEnd}
use Rattle.cu_session.specs.declared.end.SessionEnd.TheVariants as end
use Rattle.cu_session.specs.Answers.{Answer, Meaning}
use Rattle.cu_session.specs.Lines.{Line, content, is_too_long}

-- An answer is due to a line in a state: the line isn't too long, and what it says has this answer.
pub record IsDue
    {State : Type 0} (answers : Meaning State) (state : State) (line : Line)
    (answer : Answer State) : Type 0
  where
    pub fits : is_too_long line ≡ false
    pub answered : answers state (content line) answer

-- What an asker replies to lines from a state on, one reply for each line, and how the session
-- ends.
pub data Session {State : Type 0} (answers : Meaning State)
    : State → List Line → List (List ℕ) → SessionEnd → Type 0 where
  -- no line is left
  no_more : (state : State) → Session answers state [] [] end.EndOfInput
  -- the next line is too long
  too_long : (state : State) (line : Line) (lines : List Line) → is_too_long line ≡ true
      → Session answers state (line ∷ lines) [] end.LineTooLong
  -- the next line is answered, and its reply is the last
  quits : (state : State) (line : Line) (lines : List Line) (answer : Answer State)
      → IsDue answers state line answer → answer.turn ≡ turn.Quit
      → Session answers state (line ∷ lines) (answer.reply ∷ []) end.Quit
  -- the next line is answered, and the session goes on
  goes_on : (state : State) (line : Line) (lines : List Line) (answer : Answer State)
      (replies : List (List ℕ)) (ending : SessionEnd)
      → IsDue answers state line answer → answer.turn ≡ turn.Go
      → Session answers answer.after lines replies ending
      → Session answers state (line ∷ lines) (answer.reply ∷ replies) ending

-- The replies of a session that begins so, and that may break off before any line.
pub data Begins {State : Type 0} (answers : Meaning State)
    : State → List Line → List (List ℕ) → Type 0 where
  -- no more is said
  breaks_off : (state : State) (lines : List Line) → Begins answers state lines []
  -- the next line is answered, and its reply is the last
  last : (state : State) (line : Line) (lines : List Line) (answer : Answer State)
      → IsDue answers state line answer → answer.turn ≡ turn.Quit
      → Begins answers state (line ∷ lines) (answer.reply ∷ [])
  -- the next line is answered, and the session goes on
  next : (state : State) (line : Line) (lines : List Line) (answer : Answer State)
      (replies : List (List ℕ)) → IsDue answers state line answer → answer.turn ≡ turn.Go
      → Begins answers answer.after lines replies
      → Begins answers state (line ∷ lines) (answer.reply ∷ replies)
