-- The search has these parts.
use Rattle.std.proofs.Common.{ap₂, refl, sym, ◌∙◌}
use Rattle.cu_machine.specs.State as state
use Rattle.cu_step.specs.Outcome.{search_of}
use Rattle.cu_step.specs.declared.branch.Search.TheVariants as variant
use Rattle.cu_step.proofs.BranchStates.{opened_state}
use Rattle.cu_step.proofs.branch.Running.going_on.Goals as goal

pub returns : goal.returns
returns g c =
    let running = c.args.self in
    ap₂ (λ graph root. state.Branch graph root running.goals.items (search_of g.S.Store.content (variant.Running running.call running.found running.level))) c.new.ensures.store c.new.ensures.root
    ∙ sym (opened_state g.S.Store.content (g.S.Store.content running.store) running.root running.goals.items (variant.Running running.call running.found running.level)
    running.call running.found running.level refl)
