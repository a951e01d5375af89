use Rattle.std.proofs.Common.{◌∙◌, ap₂}
use Rattle.cu_translation.specs.Meaning.{binder_meaning}
use Rattle.cu_sites.proofs.dependencies.Dependencies.depends.Goals as goal
use Rattle.cu_sites.specs.Depending.{relates}

pub returns : goal.returns
returns c nodes h =
    c.has.ensures
    ∙ ap₂ (relates c.args.self.now.needs) (c.variable-from.ensures h.binders h.functions h.numbers) (c.variable.ensures h.binders h.functions h.numbers)
    ∙ h.exact (binder_meaning c.args.x) (binder_meaning c.args.y)
