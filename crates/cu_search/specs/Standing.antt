-- Where a search stands between two rounds, and what it lists from there on.
use Rattle.std.specs.Prelude.{◌≡◌, ℕ, ◌+◌, ◌-◌, ◌≤◌, List, [], ◌∷◌, Bool, false, Option, Some, None, if◌then◌else◌, length, map, flat_map, nat_eq, nat_lt}
use Rattle.std.specs.List.{All}
use Rattle.std.specs.Option.{option_or}
use Rattle.cu_calculus.specs.declared.FunId.{FunId}
use Rattle.cu_calculus.specs.Code.{Code}
use Rattle.cu_machine.specs.declared.End.{End}
use Rattle.cu_machine.specs.declared.End.TheVariants.{NoMore, Rounds, Stopped}
use Rattle.cu_machine.specs.declared.SearchLimits.{SearchLimits}
use Rattle.cu_machine.specs.declared.Stop.TheVariants.{TooWide}
use Rattle.cu_machine.specs.Level.{go_list}
use Rattle.cu_machine.specs.Listing.{Listing, Round, Tally, round_of, rounds}
use Rattle.cu_machine.specs.Next.{Next}
use Rattle.cu_machine.specs.Run.{run}
use Rattle.cu_machine.specs.State.{State, start_of}
use Rattle.cu_machine.specs.Validity.{IsValid}
use Rattle.cu_search.specs.Lines.{Notation}

-- a search between two rounds
pub record Standing : Type 0 where
  pub code : Code
  pub notation : Notation
  pub limits : SearchLimits
  -- the number of the next round
  pub round : ℕ
  -- how many answers and waiting branches were listed so far
  pub tally : Tally
  -- the level that the next round lists
  pub level : List State
  -- whether the listing ended or broke off
  pub ended : Bool

-- a goal's search before its first round
abbrev pub opened : Code → Notation → SearchLimits → FunId → Standing
opened code notation limits goal = record {
  code = code;
  notation = notation;
  limits = limits;
  round = 0;
  tally = record { answers = 0; waits = 0 };
  level = start_of code goal ∷ [];
  ended = false;
}

-- what a search is still to list
abbrev pub left_of : Standing → Listing
left_of s = rounds (s.limits.rounds - s.round) s.code s.limits s.round s.tally s.level

-- what becomes of the states of the next round's level
abbrev pub outcomes_of : Standing → List Next
outcomes_of s = map (run s.limits.stride s.code s.limits.step) s.level

-- what the next round lists: its lines, the count after them, and the end where the listing ends
-- inside the round
abbrev pub round_at : Standing → Round
round_at s = round_of s.round s.limits.answers s.tally (outcomes_of s)

-- the level after the next round
abbrev pub level_after : Standing → List State
level_after s = flat_map go_list (outcomes_of s)

-- How a listing ends after the lines of round d, if it does, where so many branches wait and so
-- many states follow: the tree is exhausted, or it was the last round, or the next level is too
-- wide.
abbrev pub end_after : SearchLimits → ℕ → ℕ → ℕ → Option End
end_after limits d waits count =
    if nat_eq count 0 then Some (NoMore waits)
    else if nat_eq d limits.rounds then Some (Rounds d count)
    else if nat_lt limits.step.width count then Some (Stopped (TooWide count) (d + 1)) else None

-- how the listing ends in the next round or after its lines, if it does
abbrev pub end_at : Standing → Option End
end_at s =
    option_or (round_at s).end
    (end_after s.limits s.round (round_at s).tally.waits (length (level_after s)))

-- a search after its next round, where the listing doesn't end with that
abbrev pub next_of : Standing → Standing
next_of s = record {
  code = s.code;
  notation = s.notation;
  limits = s.limits;
  round = s.round + 1;
  tally = (round_at s).tally;
  level = level_after s;
  ended = false;
}

-- the most branches that a level may have
abbrev pub widest : ℕ
widest = 1048576

-- The next round of the search may be run. The limit on the width is in its range, and so levels
-- are.
pub record IsGoing (s : Standing) : Type 0 where
  pub going : s.ended ≡ false
  pub within : s.round ≤ s.limits.rounds
  pub width : s.limits.step.width ≤ widest
  pub level : length s.level ≤ widest
  pub valid : All (IsValid s.code) s.level
