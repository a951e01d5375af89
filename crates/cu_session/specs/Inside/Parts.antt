-- A session, a part of its text at a time.
use Rattle.std.specs.Prelude.{◌≡◌, ℕ, ◌≤◌, ◌==◌, Bool, false, List, [], ◌∷◌, ◌++◌, Option, None, Some, Result, Ok, Err, length}
use Rattle.std.specs.List.{concat}
use Rattle.cu_io.specs.declared.sink.Put.{Put}
use Rattle.cu_io.specs.declared.sink.Put.TheVariants as put
use Rattle.cu_session.specs.declared.asker.Turn.{Turn}
use Rattle.cu_session.specs.declared.asker.Turn.TheVariants as turn
use Rattle.cu_session.specs.declared.end.SessionEnd.{SessionEnd}
use Rattle.cu_session.specs.declared.end.SessionEnd.TheVariants as end
use Rattle.cu_session.specs.Answers.{Meaning}
use Rattle.cu_session.specs.Lines.{Line, max_line_bytes}
use Rattle.cu_session.specs.Session.{Begins, Session}
use Rattle.cu_session.specs.Ends.{Adds, AskerCount, Ends, HasEnd, SinkCount, SourceCount, WritesPrefix}

-- No byte is an LF.
abbrev pub HasNoLf : List ℕ → Type 0
HasNoLf [] = Unit {0}
HasNoLf (byte ∷ bytes) = ((byte == 10) ≡ false) × HasNoLf bytes

-- What has come of a line whose LF hasn't: no LF, and no more bytes than a line may have.
pub record IsBegun (line : List ℕ) : Type 0 where
  pub no_lf : HasNoLf line
  pub fits : length line ≤ max_line_bytes

-- how a session ends after a reply, where it does, by what the sink and the asker answered
abbrev pub ended : Put → Turn → Option SessionEnd
ended put.Failed said = Some end.WriteFault
ended put.Done turn.Go = None
ended put.Done turn.Quit = Some end.Quit

-- A session goes on: these replies are due to its first lines and were written, and what is due to
-- the later ones from the state now follows them.
pub record GoesOn
    {State : Type 0} (answers : Meaning State) (state : State) (lines later : List Line)
    (state_after : Option State) (before after : Option (List ℕ)) : Type 0
  where
    pub now : State
    pub replies : List (List ℕ)
    pub is_now : state_after ≡ Some now
    pub written : Adds before after (concat replies)
    pub session : (more : List (List ℕ)) (ending : SessionEnd)
        → Session answers now later more ending
        → Session answers state lines (replies ++ more) ending
    pub begins : (more : List (List ℕ)) → Begins answers now later more
        → Begins answers state lines (replies ++ more)

-- A session ends so, or for want of memory.
abbrev pub Closes : {State E : Type 0} → Result SessionEnd E → Meaning State → State → List Line
    → ℕ → ℕ → Option (List ℕ) → Option (List ℕ) → Type 0
Closes (Ok said) answers state lines old new before after =
    Ends said answers state lines old new before after
    × WritesPrefix answers state lines before after
Closes (Err error) answers state lines old new before after =
    WritesPrefix answers state lines before after

-- A part of a session, over its first lines up to the later ones: where nothing is said it goes on.
abbrev pub Goes : {State E : Type 0} → Result (Option SessionEnd) E → Meaning State → State
    → List Line → List Line → Option State → ℕ → ℕ → Option (List ℕ) → Option (List ℕ) → Type 0
Goes (Ok None) answers state lines later state_after old new before after =
    GoesOn answers state lines later state_after before after
Goes (Ok (Some said)) answers state lines later state_after old new before after =
    Ends said answers state lines old new before after
    × WritesPrefix answers state lines before after
Goes (Err error) answers state lines later state_after old new before after =
    WritesPrefix answers state lines before after

-- Whether a line of the text is too long, before and after a part of it.
abbrev pub Keeps : {E : Type 0} → Result (Option SessionEnd) E → Bool → Bool → Type 0
Keeps (Ok None) old new = new ≡ old
Keeps (Ok (Some said)) old new = HasEnd said old
Keeps (Err error) old new = Unit {0}

-- The count of a source, a sink or an asker after a part of a session, by what is said of a whole one.
abbrev pub SourcePart : {E : Type 0} → Result (Option SessionEnd) E → ℕ → ℕ → Type 0
SourcePart (Ok None) old new = new ≡ old
SourcePart {E = E} (Ok (Some said)) old new = SourceCount {E = E} (Ok said) old new
SourcePart (Err error) old new = new ≡ old

abbrev pub SinkPart : {E : Type 0} → Result (Option SessionEnd) E → ℕ → ℕ → Type 0
SinkPart (Ok None) old new = new ≡ old
SinkPart {E = E} (Ok (Some said)) old new = SinkCount {E = E} (Ok said) old new
SinkPart (Err error) old new = new ≡ old

abbrev pub AskerPart : {E : Type 0} → Result (Option SessionEnd) E → ℕ → ℕ → Type 0
AskerPart (Ok None) old new = new ≡ old
AskerPart {E = E} (Ok (Some said)) old new = AskerCount {E = E} (Ok said) old new
AskerPart (Err error) old new = new ≡ old
