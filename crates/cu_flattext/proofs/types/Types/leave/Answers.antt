use Rattle.std.proofs.Common.{List, ◌-◌, ap, ◌∙◌, arith, reverse, take}
use Rattle.cu_flattext.specs.Inside.Stands.{lowered_of}
use Rattle.cu_flattext.specs.Inside.TypeTasks.{type_parts}
use Rattle.cu_flattext.specs.declared.type_task.Scope.{Scope}
use Rattle.cu_flattext.proofs.types.Types.leave.Goals as goal

pub returns : goal.returns
returns c =
    let self = c.args.self.now in
    ap (λ (ss : List Scope). type_parts (lowered_of self.wording) ss (reverse self.tasks.items))
    (c.pop.ensures.rest ∙ ap (λ n. take (n - 1) self.scopes.items) (omega (arith, self.scopes.ok.0)))
