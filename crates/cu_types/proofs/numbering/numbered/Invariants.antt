use Rattle.std.proofs.Common.{[], map, reverse}
use Rattle.cu_types.proofs.numbering.numbered.Given as goal
use Rattle.cu_types.specs.Inside.Numbering.{Goes, efforts}
use Rattle.cu_types.specs.Numbered.{all_noted, variables_in}
use Rattle.cu_types.specs.Table.{at, shape_of, trees}

abbrev pub decreases-loop-task : goal.decreases-loop-task
decreases-loop-task l = efforts (trees (map shape_of l.types)) (reverse l.tasks.items)

abbrev pub invariant-loop-task : goal.invariant-loop-task
invariant-loop-task l =
    Goes (map shape_of l.types) l.place (all_noted [] (variables_in (at (trees (map shape_of l.types)) l.place))) l.walk (reverse l.tasks.items)
