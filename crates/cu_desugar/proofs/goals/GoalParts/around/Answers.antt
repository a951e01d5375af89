use Rattle.std.proofs.Common.{map, refl}
use Rattle.cu_translation.specs.Functions.{goal_nodes}
use Rattle.cu_translation.specs.Numbering.{at_name}
use Rattle.cu_desugar.proofs.goals.GoalParts.around.Goals as goal

pub returns : goal.returns
returns c t names whole top is = record {
  top = top;
  nodes = goal_nodes whole;
  last = map at_name whole.free;
  numbered = is.numbered;
  dependent = is.dependent;
  numbers = refl;
}
