-- The parts are those of the search that runs.
use Rattle.cu_step.proofs.BranchStates.{opened_state}
use Rattle.cu_step.proofs.branch.BranchOver+Focus+S.opened.Goals as goal

pub returns : goal.returns
returns g c =
    let branch = c.args.self in
    opened_state g.S.Store.content (g.S.Store.content branch.focus.store) branch.focus.root branch.goals.items branch.search c.in-Running.call c.in-Running.found c.in-Running.level c.in-Running.is
