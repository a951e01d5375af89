-- What was written, why a session ends, and the counts of faults.
use Rattle.std.specs.Prelude.{◌≡◌, ℕ, ◌≤◌, ◌⊎◌, Bool, true, false, List, ◌++◌, Option, Result, Ok, length, option_map, take}
use Rattle.std.specs.List.{concat}
use Rattle.cu_io.specs.Rose.{Rose}
use Rattle.cu_session.specs.declared.end.SessionEnd.{SessionEnd}
use Rattle.cu_session.specs.declared.end.SessionEnd.TheVariants.{EndOfInput, LineTooLong, Quit, ReadFault, WriteFault}
use Rattle.cu_session.specs.Answers.{Meaning}
use Rattle.cu_session.specs.Lines.{Line}
use Rattle.cu_session.specs.Session.{Begins, Session}

-- What the sink took is what it had taken before, and then these bytes. Where the sink doesn't tell
-- what it took (None), nothing is said.
abbrev pub Adds : Option (List ℕ) → Option (List ℕ) → List ℕ → Type 0
Adds before after bytes = after ≡ option_map (λ told. told ++ bytes) before

-- The sink took a prefix of these bytes beside what it had taken before.
abbrev pub AddsPrefix : Option (List ℕ) → Option (List ℕ) → List ℕ → Type 0
AddsPrefix before after bytes = (n : ℕ) × (n ≤ length bytes) × Adds before after (take n bytes)

-- A session ended so, and all its replies were written.
pub record WritesWhole
    {State : Type 0} (answers : Meaning State) (state : State) (lines : List Line)
    (said : SessionEnd) (before after : Option (List ℕ)) : Type 0
  where
    pub replies : List (List ℕ)
    pub session : Session answers state lines replies said
    pub written : Adds before after (concat replies)

-- A session began so, and these replies were written whole.
pub record WritesBegun
    {State : Type 0} (answers : Meaning State) (state : State) (lines : List Line)
    (before after : Option (List ℕ)) : Type 0
  where
    pub replies : List (List ℕ)
    pub begins : Begins answers state lines replies
    pub written : Adds before after (concat replies)

-- A session began so, and a prefix of its replies was written.
pub record WritesPrefix
    {State : Type 0} (answers : Meaning State) (state : State) (lines : List Line)
    (before after : Option (List ℕ)) : Type 0
  where
    pub replies : List (List ℕ)
    pub begins : Begins answers state lines replies
    pub written : AddsPrefix before after (concat replies)

-- What was written where a session ends so. It is whole, unless the source or the sink failed, or
-- the asker quit where its count of faults rose.
abbrev pub Ends : {State : Type 0} → SessionEnd → Meaning State → State → List Line → ℕ → ℕ
    → Option (List ℕ) → Option (List ℕ) → Type 0
Ends EndOfInput answers state lines old new before after =
    WritesWhole answers state lines EndOfInput before after
Ends LineTooLong answers state lines old new before after =
    WritesWhole answers state lines LineTooLong before after
Ends Quit answers state lines old new before after =
    WritesWhole answers state lines Quit before after
    ⊎ (Rose old new × WritesBegun answers state lines before after)
Ends ReadFault answers state lines old new before after =
    WritesBegun answers state lines before after
Ends WriteFault answers state lines old new before after = Unit {0}

-- The end of the input is answered only where no line is too long, and that one is only where one
-- is.
abbrev pub HasEnd : SessionEnd → Bool → Type 0
HasEnd EndOfInput long = long ≡ false
HasEnd LineTooLong long = long ≡ true
HasEnd Quit long = Unit {0}
HasEnd ReadFault long = Unit {0}
HasEnd WriteFault long = Unit {0}

-- The source's count of faults rose where a read failed, and stands otherwise, also where memory
-- ran out.
abbrev pub SourceCount : {E : Type 0} → Result SessionEnd E → ℕ → ℕ → Type 0
SourceCount (Ok ReadFault) old new = Rose old new
SourceCount other old new = new ≡ old

-- The sink's count of faults rose where a write failed, and stands otherwise, also where memory ran
-- out.
abbrev pub SinkCount : {E : Type 0} → Result SessionEnd E → ℕ → ℕ → Type 0
SinkCount (Ok WriteFault) old new = Rose old new
SinkCount other old new = new ≡ old

-- The asker's count of faults rises only where it quits, and stands otherwise, also where memory
-- ran out.
abbrev pub AskerCount : {E : Type 0} → Result SessionEnd E → ℕ → ℕ → Type 0
AskerCount (Ok Quit) old new = (new ≡ old) ⊎ Rose old new
AskerCount other old new = new ≡ old
