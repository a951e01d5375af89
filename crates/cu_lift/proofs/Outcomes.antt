-- What follows where a component has a set call, and where none has.
use Rattle.std.proofs.Common.{◌≡◌, ℕ, ◌<◌, ◌≤◌, List, length, Option, Some, slice_get, arith}
use Rattle.cu_calculus.specs.Claims.{AreLeastLevels}
use Rattle.cu_calculus.specs.Program.{Program}
use Rattle.cu_lift.proofs.Bridges.{least_of}
use Rattle.cu_lift.proofs.LevelSteps.{all_levels}
use Rattle.cu_cycles.proofs.Places.{within}
use Rattle.cu_cycles.specs.Components.{AreRanks}
use Rattle.cu_cycles.specs.Graph.{Reach}
use Rattle.cu_lift.specs.Inside.Levelling.{AreCalls, IsCall, IsFirstCall, LevelsTo}
use Rattle.cu_lift.specs.Inside.MentionsOf.{MentionRows, graph_of, rows_of, targets_in}
use Rattle.cu_lift.specs.declared.set_levels.Call.{Call}

pub levels_until : (g : MentionRows) (ranks : List ℕ) (count r : ℕ) (levels : List ℕ) → AreRanks (targets_in g) ranks count → count ≤ r → LevelsTo g ranks r levels
    → LevelsTo g ranks count levels
levels_until g ranks count r levels are more to = record {
  sized = to.sized;
  low = to.low;
  none = λ v x e high. let less = are.below v x e in absurd (omega arith);
  allowed = λ u x m h e less. to.allowed u x m h e (omega arith);
  least = to.least;
}

module _ (g : MentionRows) (ranks : List ℕ) (count : ℕ) (calls : List (Option Call)) (are : AreRanks (targets_in g) ranks count)
    (found : AreCalls g ranks count (length g) calls) where
  pub rank_within : (f r : ℕ) → slice_get ranks f ≡ Some r → r < length calls
  rank_within f r e = let less = are.below f r e in let size = found.sized in omega arith

  module _ (first : ℕ) (call : Call) (is_first : IsFirstCall ranks calls first call) where
    is_call : IsCall g ranks is_first.rank call
    is_call = found.some is_first.rank call is_first.is_call

    pub first_within : first < length (targets_in g)
    first_within = let low = within ranks first is_first.rank is_first.is_rank in let size = are.sized in omega arith

    pub collected_within : call.collected < length (targets_in g)
    collected_within =
        let low = within ranks call.collected is_first.rank is_call.collected_rank in let size = are.sized in omega arith

    pub reaches_caller : Reach (targets_in g) first call.caller
    reaches_caller = are.alike first call.caller is_first.rank is_first.is_rank is_call.caller_rank

    pub reaches_first : Reach (targets_in g) call.collected first
    reaches_first = are.alike call.collected first is_first.rank is_call.collected_rank is_first.is_rank

pub found_levels : (program : Program) (g : MentionRows) (ranks : List ℕ) (count : ℕ) (levels : List ℕ) → rows_of g ≡ graph_of program
    → AreRanks (targets_in g) ranks count → LevelsTo g ranks count levels → AreLeastLevels program levels
found_levels program g ranks count levels same are to =
    least_of program g same levels (all_levels g ranks count levels are to) (λ others v on. to.least others v on)
