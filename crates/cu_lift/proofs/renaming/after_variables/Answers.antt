use Rattle.cu_lift.proofs.LiftedCopies.{terms_put}
use Rattle.cu_lift.proofs.renaming.after_variables.Goals as goal

pub returns : goal.returns
returns c =
    terms_put c.args.variables.now c.loop-variable.variable-index c.loop-variable.all.items c.append.new.self.items c.args.terms.items
    c.loop-variable-test.false c.loop-variable.invariant c.in_ok-append.ensures.items
