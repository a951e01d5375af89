use Rattle.cu_kernel.specs.TermsOf.{patterns_of}
use Rattle.cu_lift.proofs.LiftedCopies.{patterns_put}
use Rattle.cu_lift.proofs.renaming.after_parameters.Goals as goal

pub returns : goal.returns
returns c =
    patterns_put c.args.variables.now c.loop-variable.variable-index c.loop-variable.all.items c.append.new.self.items _ (patterns_of c.args.patterns.now)
    c.loop-variable-test.false c.loop-variable.invariant c.in_ok-append.ensures.items c.in_ok-rest.ensures
