use Rattle.std.proofs.Common.{OnOk, length, refl, subst}
use Rattle.std.proofs.lemmas.Option.{slice_get_read}
use Rattle.std.proofs.lemmas.Result.{on_ok_weaker}
use Rattle.cu_calculus.specs.Program.{Body}
use Rattle.cu_types.proofs.RuleLemmas.{found_body, no_body, no_rules_walk}
use Rattle.cu_types.specs.Equations.{function_body}
use Rattle.cu_types.specs.Inside.Members.{member_asks}
use Rattle.cu_types.specs.Inside.Walking.{Walks, heads, scope}
use Rattle.std.proofs.Common.{slice_get}
use Rattle.cu_types.proofs.walk.Walk.member_at.Goals as goal

pub returns-in-Some : goal.returns-in-Some
returns-in-Some c =
    let found = c.in-Some.ensures.lookup in
    let fs = c.functions.result.now in
    let p = c.args.self.now.signing.program.now in
    subst (λ (w : Body). OnOk c.member.result (Walks c.args.self.now c.member.new.self (member_asks p (heads c.args.self.now)
    (scope c.args.self.now) w c.args.m.now)))
    (found_body fs p.functions c.args.f.0 c.in-Some.function.now c.functions.ensures.functions
    (slice_get_read fs (length fs) c.args.f.0 c.in-Some.function.now refl found.3.0 found.1))
    c.member.ensures

pub returns-in-None : goal.returns-in-None
returns-in-None c =
    let p = c.args.self.now.signing.program.now in
    on_ok_weaker c.signature.result
    (λ walks. no_rules_walk c.args.self.now c.signature.new.self p c.args.m.now (function_body (slice_get p.functions c.args.f.0))
    (no_body c.functions.result.now p.functions c.args.f.0 c.functions.ensures.functions c.in-None.ensures.lookup.3) walks)
    c.signature.ensures
