use Rattle.std.proofs.Common.{◌++◌, ◌∷◌, [], ap, map, ◌∙◌}
use Rattle.cu_kernel.specs.Heads.{heads_program}
use Rattle.cu_crwl.specs.Meaning.{claim_of, statements_at}
use Rattle.cu_crwl.proofs.FollowForms.{application_form}
use Rattle.cu_crwl.proofs.checker.Checker.application_gives.Goals as goal

pub returns-in_ok-push-in-Part : goal.returns-in_ok-push-in-Part
returns-in_ok-push-in-Part c =
    let e = application_form (heads_program c.args.self.heads.now) (map claim_of c.args.self.claims.now) c.args.function.now c.args.argument.now c.args.value.now
    c.in-Part.head c.in-Part.field-1 c.in_ok-values-in-Part.values.items c.deref.result.now (statements_at c.args.last.now) c.in-Part.ensures
    c.in_ok-values-in-Part.ensures
    (c.deref.ensures.value ∙ c.in_ok-push-in-Part.ensures.items
    ∙ ap (λ v. c.in_ok-values-in-Part.values.items ++ v ∷ []) c.in_ok-clone-in-Part.ensures.cases) in
    rw e c.applied_to.ensures
