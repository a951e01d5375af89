-- An answer in its round, from the laws of the machine.
use Rattle.std.proofs.Common.{◌≡◌, ◌≤◌, ◌⊎◌, ℕ, List}
use Rattle.cu_calculus.specs.Code.{Code}
use Rattle.cu_machine.specs.Among.{Among}
use Rattle.cu_machine.specs.Earlier.{EndedBefore, IsListed, IsReached, earlier}
use Rattle.cu_machine.specs.Level.{step_level}
use Rattle.cu_machine.specs.Listing.{Answered, listing}
use Rattle.cu_machine.specs.Next.{Answer, Reading, next}
use Rattle.cu_machine.specs.State.{State}
use Rattle.cu_machine.specs.declared.SearchLimits.{SearchLimits}

-- where an answer is listed, or how the listing has ended before it
abbrev Place : Code → SearchLimits → State → State → ℕ → List State → Reading → Type 0
Place code limits start state round before reading =
    IsListed round (earlier code limits start round before) reading (listing code limits start)
    ⊎ EndedBefore limits round (earlier code limits start round before) (listing code limits start)

-- the round in which an answer at a depth is due
abbrev Due : Code → SearchLimits → State → State → ℕ → (ℕ → List State → Type 0) → Type 0
Due code limits start state depth P = (round : ℕ) × (round ≤ depth) × (limits.stride ≡ 1 → round ≡ depth)
    × (before : List State) × IsReached code limits start round before state × P round before

pub in_its_round : (code : Code) (limits : SearchLimits) (start state : State) (depth : ℕ) (reading : Reading)
    → ((code : Code) (limits : SearchLimits) (start state : State) (steps : ℕ) (reading : Reading)
    → Among state (step_level code limits.step start steps) → next code limits.step state ≡ Answer reading
    → Due code limits start state steps (λ round before. Among (Answered round reading) (listing code limits start).lines
    ⊎ EndedBefore limits round (earlier code limits start round before) (listing code limits start)))
    → ((code : Code) (limits : SearchLimits) (start state : State) (round : ℕ) (before : List State) (reading : Reading)
    → IsReached code limits start round before state → next code limits.step state ≡ Answer reading
    → Place code limits start state round before reading)
    → Among state (step_level code limits.step start depth) → next code limits.step state ≡ Answer reading
    → Due code limits start state depth (λ round before. Place code limits start state round before reading)
in_its_round code limits start state depth reading due place among is =
    at (due code limits start state depth reading among is) where
      at : Due code limits start state depth (λ round before. Among (Answered round reading) (listing code limits start).lines
          ⊎ EndedBefore limits round (earlier code limits start round before) (listing code limits start))
          → Due code limits start state depth (λ round before. Place code limits start state round before reading)
      at (round, most, same, before, reaches, listed) =
          (round, most, same, before, reaches, place code limits start state round before reading reaches is)
