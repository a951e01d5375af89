use Rattle.cu_deftree.proofs.Levels.{levels_kept, operations_lowest}
use Rattle.cu_deftree.proofs.laws.least_levels_stay_levels.Goals as goal

pub returns : goal.returns
returns c = λ program flat levels flattens least. levels_kept program flat levels flattens least.are_levels (operations_lowest program levels least)
