use Rattle.std.proofs.Common.{ℕ, List, Result, subst}
use Rattle.cu_prooftext.specs.Inside.Gives.{Gives}
use Rattle.cu_prooftext.proofs.ListSteps.{cites_below}
use Rattle.cu_prooftext.proofs.lists.cites_at.Goals as goal

pub returns-then-number-gt0 : goal.returns-then-number-gt0
returns-then-number-gt0 c =
    subst (λ (m : Result (List ℕ × List ℕ) ℕ). Gives (λ x. (x.0.items, x.1.now)) c.cites_up_to.result m)
    (cites_below c.args.number c.if-number-gt0.true c.args.bytes.now) c.cites_up_to.ensures
