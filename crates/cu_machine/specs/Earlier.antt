-- Where an answer stands in a listing: what the rounds list before it, and how a listing may have
-- ended before it.
use Rattle.std.specs.Prelude.{◌≡◌, ◌<◌, ◌≤◌, ℕ, zero, suc, ◌+◌, List, [], ◌∷◌, ◌++◌, Some, map, flat_map}
use Rattle.cu_calculus.specs.Code.{Code}
use Rattle.cu_machine.specs.declared.End.{End}
use Rattle.cu_machine.specs.declared.End.TheVariants.{Answers, NoMore, Rounds, Stopped}
use Rattle.cu_machine.specs.declared.SearchLimits.{SearchLimits}
use Rattle.cu_machine.specs.Level.{level}
use Rattle.cu_machine.specs.Listing.{Answered, Line, Listing, Waiting}
use Rattle.cu_machine.specs.Next.{Next, Answer, Fails, Go, Reading, Stops, Waits}
use Rattle.cu_machine.specs.Run.{reached, run}
use Rattle.cu_machine.specs.State.{State}

-- the lines that a round lists for what becomes of a state
abbrev pub lines_of : ℕ → Next → List Line
lines_of round (Answer reading) = Answered round reading ∷ []
lines_of round (Waits names) = Waiting round names ∷ []
lines_of round (Go states) = []
lines_of round Fails = []
lines_of round (Stops stop) = []

-- what becomes of these states in a round
abbrev pub events_of : Code → SearchLimits → List State → List Next
events_of code limits states = map (run limits.stride code limits.step) states

-- what becomes of the states of a round's level
abbrev pub events : Code → SearchLimits → State → ℕ → List Next
events code limits start round = events_of code limits (level code limits start round)

-- the lines that the rounds before this one list, where nothing ends the listing
abbrev pub lines_before : (ℕ → List Next) → ℕ → List Line
lines_before in_round zero = []
lines_before in_round (suc round) =
    lines_before in_round round ++ flat_map (lines_of round) (in_round round)

-- the lines that are listed before those of a state of a round's level, which stands after these
-- states of the level
abbrev pub earlier : Code → SearchLimits → State → ℕ → List State → List Line
earlier code limits start round states =
    lines_before (events code limits start) round
    ++ flat_map (lines_of round) (events_of code limits states)

-- A run reaches the state from one of a round's level, which stands after these states of the
-- level.
pub record IsReached (code : Code) (limits : SearchLimits) (start : State) (round : ℕ)
    (before : List State) (state : State) : Type 0 where
  pub from : State
  pub after : List State
  pub level_is : level code limits start round ≡ before ++ from ∷ after
  pub reaches : reached limits.stride code limits.step from ≡ state

-- how many of these lines are answers
abbrev pub answers_in : List Line → ℕ
answers_in [] = 0
answers_in (Answered round reading ∷ lines) = answers_in lines + 1
answers_in (Waiting round names ∷ lines) = answers_in lines

-- The listing has an answer of a round right after these lines.
pub record IsListed (round : ℕ) (lines : List Line) (reading : Reading)
    (listing : Listing) : Type 0 where
  pub rest : List Line
  pub split : listing.lines ≡ lines ++ Answered round reading ∷ rest

-- The end comes by the time of a round, where these lines were listed: by the limit on rounds, by
-- the limit on answers, or by a search that stops.
abbrev pub EndsBy : SearchLimits → ℕ → List Line → End → Type 0
EndsBy limits round lines (NoMore waits) = ⊥
EndsBy limits round lines (Rounds last count) = (last ≡ limits.rounds) × (last < round)
EndsBy limits round lines (Answers count) = (limits.answers ≡ Some count)
    × (count ≡ answers_in lines)
EndsBy limits round lines (Stopped stop last) = last ≤ round

-- The listing ended before a place in a round: its lines are the first ones of those before that
-- place.
pub record EndedBefore (limits : SearchLimits) (round : ℕ) (lines : List Line)
    (listing : Listing) : Type 0 where
  pub rest : List Line
  pub first : lines ≡ listing.lines ++ rest
  pub end : EndsBy limits round listing.lines listing.end
