use Rattle.std.proofs.lemmas.Result.{on_ok_weaker}
use Rattle.cu_kernel.specs.KernelOf.{body_meaning}
use Rattle.cu_types.proofs.RuleLemmas.{member_walks}
use Rattle.cu_types.proofs.walk.Walk.member.Goals as goal

pub returns : goal.returns
returns c =
    on_ok_weaker c.body.result
    (λ walks. member_walks c.args.self.now c.signature.new.self c.body.new.self c.args.m.now (body_meaning c.args.body.now)
    c.in_ok-signature.ensures walks)
    c.body.ensures
