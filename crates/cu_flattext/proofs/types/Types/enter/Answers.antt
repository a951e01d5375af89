use Rattle.std.proofs.Common.{arith}
use Rattle.cu_flattext.specs.Inside.Stands.{lowered_of}
use Rattle.cu_flattext.proofs.ScopeLemmas.{entered}
use Rattle.cu_flattext.proofs.types.Types.enter.Goals as goal

pub returns-clause-enters : goal.returns-clause-enters
returns-clause-enters c =
    entered (lowered_of c.args.self.now.wording) c.args.scope c.args.self.now _ c.len-place.result
    (omega (arith, c.len-place.ensures, c.args.self.now.scopes.ok.0)) c.in_ok-push.ensures.items c.in_ok-push-2.ensures.items
