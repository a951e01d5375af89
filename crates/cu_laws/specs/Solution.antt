-- Solutions that a state promises.
use Rattle.std.specs.Prelude.{◌≡◌, List, map}
use Rattle.cu_calculus.specs.Code.{Code}
use Rattle.cu_calculus.specs.Gives.{Claim}
use Rattle.cu_calculus.specs.Value.{Value, Values, values_of}
use Rattle.cu_machine.specs.State.{State}
use Rattle.cu_laws.specs.Good.{Assignment}
use Rattle.cu_laws.specs.Promises.{Promises, goals_of, root_of}

-- Some assignment that promises the state an answer gives the goal variables these values, and the
-- root the value v.
pub record HasSolution (code : Code) (claims : List Claim) (state : State) (arguments : Values)
    (v : Value) : Type 0 where
  pub assigned : Assignment
  pub promises : Promises code claims state assigned
  pub arguments_are : values_of (map assigned (goals_of state)) ≡ arguments
  pub value_is : assigned (root_of state) ≡ v
