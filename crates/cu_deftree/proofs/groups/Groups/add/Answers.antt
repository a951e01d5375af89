use Rattle.std.proofs.Common.{◌≡◌, ◌++◌, ◌∷◌, [], cond, subst}
use Rattle.std.specs.Prelude.{OnOk}
use Rattle.cu_calculus.specs.Choose.{Demand}
use Rattle.cu_deftree.specs.Inside.Groups.{indices}
use Rattle.cu_deftree.specs.Inside.RowsOf.{demands_choice}
use Rattle.cu_matrix.specs.Meaning.{demand_meaning}
use Rattle.cu_deftree.proofs.GroupSteps.{none_in}
use Rattle.cu_deftree.proofs.groups.Groups.add.Goals as goal

pub returns-in-Some : goal.returns-in-Some
returns-in-Some c one =
    subst (λ (d : Demand). OnOk c.put.result (indices c.put.new.self one ≡ indices c.args.self.now one ++ cond (demands_choice one d) (c.args.index ∷ []) []))
    c.in-Some.ensures (c.put.ensures one)

pub returns-in-None : goal.returns-in-None
returns-in-None c one = none_in one (demand_meaning c.args.demand) c.args.index (indices c.args.self.now one) c.in-None.ensures
