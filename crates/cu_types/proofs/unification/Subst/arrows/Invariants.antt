use Rattle.std.proofs.Common.{◌≤◌, ◌+◌, ◌-◌, map}
use Rattle.cu_types.proofs.unification.Subst.arrows.Given as goal
use Rattle.cu_types.specs.BuiltInTypes.{arrows, variables_from}
use Rattle.cu_types.specs.Inside.Growing.{Grows}
use Rattle.cu_types.specs.Meaning.{subst_of, types_of_subst}
use Rattle.cu_types.specs.Table.{at, trees}
use Rattle.cu_types.specs.Types.{apply}

abbrev pub decreases-loop-left : goal.decreases-loop-left
decreases-loop-left l = l.left

-- the types of the last parameters were taken
abbrev pub invariant-loop-left : goal.invariant-loop-left
invariant-loop-left l = record {
  few : l.left ≤ l.count;
  grows : Grows l.initial.self l.self
      (arrows (map (apply (subst_of l.initial.self)) (variables_from (l.first + l.left) (l.count - l.left)))
      (at (trees (types_of_subst l.initial.self)) l.place)) l.whole;
}
