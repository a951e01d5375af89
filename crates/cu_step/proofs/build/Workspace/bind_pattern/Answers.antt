-- A literal binds no variables.
use Rattle.std.proofs.Common.{◌++◌, ap, append-nil, sym, ◌∙◌}
use Rattle.std.proofs.Common.{zip}
use Rattle.cu_calculus.specs.WellFormed.{bound_by}
use Rattle.cu_flat.specs.Meaning.{pattern_meaning}
use Rattle.cu_step.proofs.build.Workspace.bind_pattern.Goals as goal

pub returns-in-Lit : goal.returns-in-Lit
returns-in-Lit c =
    let scope = c.args.self.now.scope.items in
    sym (append-nil scope) ∙ ap (λ p. scope ++ zip (bound_by (pattern_meaning p)) c.args.args.now) (sym c.in-Lit.is)
