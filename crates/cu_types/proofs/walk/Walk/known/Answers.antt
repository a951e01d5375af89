use Rattle.std.proofs.Common.{OnOk, Some, slice_get, sym, subst}
use Rattle.cu_types.proofs.RuleLemmas.{walks_none}
use Rattle.cu_types.specs.Equations.{function_body}
use Rattle.cu_types.specs.Inside.Members.{known_asks}
use Rattle.cu_types.specs.Inside.Walking.{Walks, heads, scope}
use Rattle.cu_types.specs.declared.known.Known.{Known}
use Rattle.cu_types.proofs.walk.Walk.known.Goals as goal

pub returns-in-Nothing : goal.returns-in-Nothing
returns-in-Nothing c =
    let p = c.args.self.now.signing.program.now in
    subst (λ (k : Known). Walks c.args.self.now c.args.self.now (known_asks p (heads c.args.self.now) (scope c.args.self.now)
    (function_body (slice_get p.functions c.args.f.0)) (Some k))) (sym c.in-Nothing.is) (walks_none c.args.self.now c.requires)

pub returns-in-Typed : goal.returns-in-Typed
returns-in-Typed c =
    let p = c.args.self.now.signing.program.now in
    subst (λ (k : Known). Walks c.args.self.now c.args.self.now (known_asks p (heads c.args.self.now) (scope c.args.self.now)
    (function_body (slice_get p.functions c.args.f.0)) (Some k))) (sym c.in-Typed.is) (walks_none c.args.self.now c.requires)

pub returns-in-Member : goal.returns-in-Member
returns-in-Member c =
    let p = c.args.self.now.signing.program.now in
    subst (λ (k : Known). OnOk c.member_at.result (Walks c.args.self.now c.member_at.new.self (known_asks p (heads c.args.self.now)
    (scope c.args.self.now) (function_body (slice_get p.functions c.args.f.0)) (Some k)))) (sym c.in-Member.is) c.member_at.ensures
