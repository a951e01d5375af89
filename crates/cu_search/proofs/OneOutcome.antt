-- A round over one outcome.
use Rattle.std.proofs.Common.{◌≡◌, ℕ, ◌+◌, Bool, true, false, List, [], ◌∷◌, Option, None, Some, refl}
use Rattle.std.specs.Prelude.{if◌then◌else◌}
use Rattle.cu_machine.specs.declared.Waited.{Waited}
use Rattle.cu_machine.specs.declared.Stop.{Stop}
use Rattle.cu_machine.specs.declared.End.{End}
use Rattle.cu_machine.specs.declared.End.TheVariants.{Answers, Stopped}
use Rattle.cu_machine.specs.Listing.{Answered, Line, Tally, Waiting, is_last, nothing, one_answer, one_wait, round_of, with_line}
use Rattle.cu_machine.specs.Next.{Answer, Fails, Go, Reading, Stops, Waits}
use Rattle.cu_machine.specs.State.{State}

pub round_of-Go : (d : ℕ) (limit : Option ℕ) (tally : Tally) (states : List State) → round_of d limit tally (Go states ∷ []) ≡ nothing tally None
unfolding round_of
round_of-Go d limit tally states = refl

pub round_of-Fails : (d : ℕ) (limit : Option ℕ) (tally : Tally) → round_of d limit tally (Fails ∷ []) ≡ nothing tally None
unfolding round_of
round_of-Fails d limit tally = refl

pub round_of-Waits : (d : ℕ) (limit : Option ℕ) (tally : Tally) (names : List Waited)
    → round_of d limit tally (Waits names ∷ []) ≡ with_line (Waiting d names) (nothing (one_wait tally) None)
unfolding round_of
round_of-Waits d limit tally names = refl

pub round_of-Stops : (d : ℕ) (limit : Option ℕ) (tally : Tally) (stop : Stop) → round_of d limit tally (Stops stop ∷ []) ≡ nothing tally (Some (Stopped stop d))
unfolding round_of
round_of-Stops d limit tally stop = refl

-- the end at an answer, where b says whether it is the last that is wanted
with_line-end : (b : Bool) (line : Line) (tally : Tally) (end : End)
    → with_line line (if b then nothing tally (Some end) else nothing tally None) ≡ record { lines = line ∷ []; tally = tally; end = if b then Some end else None }
with_line-end true line tally end = refl
with_line-end false line tally end = refl

pub round_of-Answer : (d : ℕ) (limit : Option ℕ) (tally : Tally) (reading : Reading)
    → round_of d limit tally (Answer reading ∷ []) ≡ record { lines = Answered d reading ∷ []; tally = one_answer tally; end = if is_last limit (tally.answers + 1) then Some (Answers (tally.answers + 1)) else None }
unfolding round_of
round_of-Answer d limit tally reading = with_line-end (is_last limit (tally.answers + 1)) (Answered d reading) (one_answer tally) (Answers (tally.answers + 1))

-- what a round is over one outcome
pub ruleset one_outcome = (round_of-Go, round_of-Answer, round_of-Fails, round_of-Waits, round_of-Stops)
