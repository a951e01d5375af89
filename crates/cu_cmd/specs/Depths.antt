-- The depth of answers: in which round of its listing an answer of a goal stands.
use Rattle.std.specs.Prelude.{◌≡◌, ◌≤◌, ◌⊎◌, ℕ, List, Some}
use Rattle.cu_calculus.specs.Program.{Program}
use Rattle.cu_flat.specs.Layout.{laid_out}
use Rattle.cu_front.specs.Compiling.{Compiles, Folder}
use Rattle.cu_kernel.specs.Kernel.{Goal, Kernel}
use Rattle.cu_machine.specs.Among.{Among}
use Rattle.cu_machine.specs.Earlier.{EndedBefore, IsListed, IsReached, earlier}
use Rattle.cu_machine.specs.Level.{level, step_level}
use Rattle.cu_machine.specs.Listing.{Answered}
use Rattle.cu_machine.specs.Next.{Answer, Reading, next}
use Rattle.cu_machine.specs.Run.{reached, reading_at, run}
use Rattle.cu_machine.specs.State.{State, start_of}
use Rattle.cu_machine.specs.declared.SearchLimits.{SearchLimits}
use Rattle.cu_theorem.specs.Listed.{listing_of}

-- An answer of a round stands in the listing right after what the rounds list before it, unless the
-- listing has ended by then: since the limits don't allow that many rounds or answers, or since the
-- search has stopped.
abbrev pub IsListedInRound : Program → Goal → SearchLimits → ℕ → List State → Reading → Type 0
IsListedInRound flat goal limits round before reading =
    let code = laid_out flat in
    let lines = earlier code limits (start_of code goal.function) round before in
    IsListed round lines reading (listing_of limits flat goal)
    ⊎ EndedBefore limits round lines (listing_of limits flat goal)

-- An answer at a depth of the search tree, counted in single steps, is due in the round of that
-- number where rounds are single steps, and in no later one where they are longer.
abbrev pub AnswersAreListed : Program → Goal → SearchLimits → Type 0
AnswersAreListed flat goal limits = (state : State) (depth : ℕ) (reading : Reading)
    → Among state
    (step_level (laid_out flat) limits.step (start_of (laid_out flat) goal.function) depth)
    → next (laid_out flat) limits.step state ≡ Answer reading
    → (round : ℕ) × (round ≤ depth) × (limits.stride ≡ 1 → round ≡ depth)
    × (before : List State)
    × IsReached (laid_out flat) limits (start_of (laid_out flat) goal.function) round before state
    × IsListedInRound flat goal limits round before reading

-- An answer that is listed in a round is that of a state at the depth of this round, and is read
-- off the state that is reached from there in the round.
abbrev pub ListedAnswersAreOfTheirRound : Program → Goal → SearchLimits → Type 0
ListedAnswersAreOfTheirRound flat goal limits = (round : ℕ) (reading : Reading)
    → Among (Answered round reading) (listing_of limits flat goal).lines
    → (state : State)
    × Among state (level (laid_out flat) limits (start_of (laid_out flat) goal.function) round)
    × (run limits.stride (laid_out flat) limits.step state ≡ Answer reading)
    × (reading ≡ reading_at (reached limits.stride (laid_out flat) limits.step state))

-- Whatever program a goal in a module comes to, each answer of its search tree is listed in the
-- round of its depth, and each answer that is listed is of the depth of its round.
pub record ListsByDepth (held : Folder) (root text : List ℕ) (limits : SearchLimits) : Type 0 where
  pub answers_are_listed : (names : List (List ℕ)) (program : Kernel) (flat : Program)
      (goal : Goal) → Compiles held root text names program flat → program.goal ≡ Some goal
      → AnswersAreListed flat goal limits
  pub listed_are_of_their_round : (names : List (List ℕ)) (program : Kernel) (flat : Program)
      (goal : Goal) → Compiles held root text names program flat → program.goal ≡ Some goal
      → ListedAnswersAreOfTheirRound flat goal limits
