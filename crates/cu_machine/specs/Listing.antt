-- The listing of a goal: level by level, in rounds. A round takes each state on by at most so many
-- steps, the stride.
use Rattle.std.specs.Prelude.{ℕ, zero, suc, ◌+◌, List, [], ◌∷◌, ◌++◌, Option, None, Some, Bool, false, if◌then◌else◌, nat_lt, nat_eq, length, map, flat_map}
use Rattle.cu_calculus.specs.Code.{Code}
use Rattle.cu_machine.specs.declared.End.{End}
use Rattle.cu_machine.specs.declared.End.TheVariants.{Answers, NoMore, Rounds, Stopped}
use Rattle.cu_machine.specs.declared.SearchLimits.{SearchLimits}
use Rattle.cu_machine.specs.declared.Stop.TheVariants.{TooWide}
use Rattle.cu_machine.specs.declared.Waited.{Waited}
use Rattle.cu_machine.specs.Level.{go_list}
use Rattle.cu_machine.specs.Next.{Next, Answer, Fails, Go, Reading, Stops, Waits}
use Rattle.cu_machine.specs.Run.{run}
use Rattle.cu_machine.specs.State.{State}

-- a line of a listing
pub data Line : Type 0 where
  -- a line for an answer of a round
  Answered : ℕ → Reading → Line
  -- a line for a branch that waits in a round, with the variables that it waits for
  Waiting : ℕ → List Waited → Line

-- the listing of a goal: its lines, and how it ends
pub record Listing : Type 0 where
  pub lines : List Line
  pub end : End

-- how many answers and waiting branches were listed so far
pub record Tally : Type 0 where
  pub answers : ℕ
  pub waits : ℕ

-- what a round listed: its lines, the count after them, and the end where the listing ended inside
-- the round
pub record Round : Type 0 where
  pub lines : List Line
  pub tally : Tally
  pub end : Option End

-- the count with one answer more
abbrev pub one_answer : Tally → Tally
one_answer tally = record { answers = tally.answers + 1; waits = tally.waits }

-- the count with one waiting branch more
abbrev pub one_wait : Tally → Tally
one_wait tally = record { answers = tally.answers; waits = tally.waits + 1 }

-- what a round listed, with a line before it
abbrev pub with_line : Line → Round → Round
with_line line round = record { lines = line ∷ round.lines; tally = round.tally; end = round.end }

-- a round in which nothing more is listed, with the end if there is one
abbrev pub nothing : Tally → Option End → Round
nothing tally end = record { lines = []; tally = tally; end = end }

-- whether the limit on answers is reached
abbrev pub is_last : Option ℕ → ℕ → Bool
is_last None answers = false
is_last (Some limit) answers = nat_eq answers limit

-- What one round lists of the outcomes of its level, in order. Answers and waiting branches give a
-- line each. The last answer that is wanted, and a branch that stops, end the listing.
unfoldable pub round_of : ℕ → Option ℕ → Tally → List Next → Round
round_of d limit tally [] = nothing tally None
round_of d limit tally (Go states ∷ outcomes) = round_of d limit tally outcomes
round_of d limit tally (Answer reading ∷ outcomes) =
    with_line (Answered d reading)
    (if is_last limit (tally.answers + 1)
    then nothing (one_answer tally) (Some (Answers (tally.answers + 1)))
    else round_of d limit (one_answer tally) outcomes)
round_of d limit tally (Fails ∷ outcomes) = round_of d limit tally outcomes
round_of d limit tally (Waits names ∷ outcomes) =
    with_line (Waiting d names) (round_of d limit (one_wait tally) outcomes)
round_of d limit tally (Stops stop ∷ outcomes) = nothing tally (Some (Stopped stop d))

-- a listing, with lines before it
abbrev pub after_lines : List Line → Listing → Listing
after_lines lines listing = record { lines = lines ++ listing.lines; end = listing.end }

-- the listing that has no lines and ends so
abbrev pub only_end : End → Listing
only_end end = record { lines = []; end = end }

-- the listing that ended inside a round, or else the listing of what comes after it
abbrev pub unless_ended : Option End → Listing → Listing
unless_ended None listing = listing
unless_ended (Some end) listing = only_end end

-- The listing after a round: an exhausted tree ends it, with the number of the branches that wait;
-- otherwise `others` lists the next level.
abbrev pub unless_exhausted : (Tally → List State → Listing) → Tally → List State → Listing
unless_exhausted others tally [] = only_end (NoMore tally.waits)
unless_exhausted others tally (state ∷ states) = others tally (state ∷ states)

-- the listing of one level, where `others` lists the level after it
abbrev pub list_level : (Tally → List State → Listing) → Code → SearchLimits → ℕ → Tally
    → List State → Listing
list_level others code limits d tally states =
    let outcomes = map (run limits.stride code limits.step) states in
    let round = round_of d limits.answers tally outcomes
    in after_lines round.lines
    (unless_ended round.end (unless_exhausted others round.tally (flat_map go_list outcomes)))

-- The listing of the rounds from round d on, whose level is given, where `left` more may follow it.
-- After the last of them the round limit ends the listing; after an earlier one a level that is too
-- wide does.
unfoldable pub rounds : ℕ → Code → SearchLimits → ℕ → Tally → List State → Listing
rounds zero code limits d tally states =
    list_level (λ after following. only_end (Rounds d (length following))) code limits d tally
    states
rounds (suc left) code limits d tally states =
    list_level
    (λ after following.
    if nat_lt limits.step.width (length following)
    then only_end (Stopped (TooWide (length following)) (d + 1))
    else rounds left code limits (d + 1) after following)
    code limits d tally states

-- the listing of a search that begins in this state
abbrev pub listing : Code → SearchLimits → State → Listing
listing code limits start =
    rounds limits.rounds code limits 0 (record { answers = 0; waits = 0 }) (start ∷ [])
