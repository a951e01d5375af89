use Rattle.std.proofs.Common.{OnOk, sym, subst}
use Rattle.std.proofs.lemmas.Result.{on_ok_weaker}
use Rattle.cu_kernel.specs.KernelOf.{body_meaning}
use Rattle.cu_kernel.specs.declared.term.Body.{Body}
use Rattle.cu_types.proofs.RuleLemmas.{body_rules}
use Rattle.cu_types.specs.Inside.Members.{body_between}
use Rattle.cu_types.specs.Inside.Walking.{Walks, heads, scope}
use Rattle.cu_types.proofs.walk.Walk.body.Goals as goal

pub returns-in_ok-right-in-Rules : goal.returns-in_ok-right-in-Rules
returns-in_ok-right-in-Rules c =
    on_ok_weaker c.rules.result
    (λ walks. body_rules c.args.self.now c.rules.new.self c.args.self.now.signing.program.now c.args.m.now.first c.args.m.now.arity
    c.in_ok-right-in-Rules.right c.in-Rules.rules c.as_slice.result.now c.args.body.now c.in_ok-right-in-Rules.ensures c.as_slice.ensures.value
    c.in-Rules.is walks)
    c.rules.ensures

pub returns-in-External : goal.returns-in-External
returns-in-External c =
    subst (λ (w : Body). OnOk c.external.result (Walks c.args.self.now c.external.new.self (body_between c.args.self.now.signing.program.now
    (heads c.args.self.now) (scope c.args.self.now) c.args.m.now.first c.args.m.now.arity (body_meaning w)))) (sym c.in-External.is)
    c.external.ensures
