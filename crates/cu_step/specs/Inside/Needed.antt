-- The needs that answers of the walk stand for.
use Rattle.cu_machine.specs.Need as need
use Rattle.cu_machine.specs.Need.{Need}
use Rattle.cu_step.specs.declared.need.Demand.{Demand}
use Rattle.cu_step.specs.declared.need.Demand.TheVariants as demand
use Rattle.cu_step.specs.declared.need.Needed.{Needed}
use Rattle.cu_step.specs.declared.need.Needed.TheVariants as needed

-- the need that was found before all nodes were looked at
abbrev pub need_of : Needed → Need
need_of needed.Dead = need.Dead
need_of (needed.At id) = need.At id

-- the need that an answer stands for
abbrev pub need_in : Demand → Need
need_in (demand.There id) = need.Done
need_in demand.Dead = need.Dead
need_in (demand.Wait ids) = need.Wait ids.keys
need_in (demand.Rewrite id walk) = need.At id
