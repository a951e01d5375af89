-- An operation that is neither a comparison nor an equation nor a conjunction computes.
use Rattle.std.proofs.Common.{◌≡◌, ℕ, List, IfOk, ap, map, subst, sym, ◌∙◌}
use Rattle.cu_machine.specs.Graph.{head_at, node_at}
use Rattle.cu_machine.specs.Rewrite.{Move, literal_step}
use Rattle.cu_step.specs.Inside.Moved.{move_of}
use Rattle.cu_step.proofs.Operands.{other_operations}
use Rattle.cu_step.proofs.redex.Redex.operation_step.Goals as goal

pub returns : goal.returns
returns g c =
    let graph = g.S.Store.content c.args.self.store in
    let special = c.args.special.now in
    subst (λ (what : Move). IfOk c.literal_step.result (λ moved. move_of g.S.Store.content moved ≡ what))
    (ap (λ (args : List ℕ). literal_step special graph c.args.self.id c.args.operation (map (λ arg. (head_at graph arg).kind) args))
    (c.as_slice-in_default.ensures.value ∙ c.in_ok-args.ensures)
    ∙ sym (other_operations special graph c.args.self.id c.args.operation (node_at graph c.args.self.id).args c.in_default.not-Equal c.in_default.not-Unify c.in_default.not-And))
    c.literal_step.ensures
