use Rattle.std.proofs.Common.{subst}
use Rattle.cu_fixity.specs.Fixities.{Declares}
use Rattle.cu_fixity.proofs.FixityLemmas.{declares}
use Rattle.cu_fixity.proofs.fixities.Fixities.declare.Goals as goal

pub returns-clause-declared : goal.returns-clause-declared
returns-clause-declared c =
    let before = c.self.inside.declared.entries in
    let after = c.insert.new.self.entries in
    subst (λ table. Declares table c.args.operator c.args.fixity (record { colon = c.self.inside.cons; declared = after })) c.self.view_is
    (declares c.self.inside.cons before after c.args.operator c.args.fixity c.in_ok-insert.ensures.updates.0)
