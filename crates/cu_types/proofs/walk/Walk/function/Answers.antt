use Rattle.std.proofs.Common.{OnOk, Option, length, refl, slice_get, sym, subst}
use Rattle.std.proofs.lemmas.Option.{slice_get_past, slice_get_read}
use Rattle.cu_types.proofs.RuleLemmas.{walks_none}
use Rattle.cu_types.specs.Equations.{function_body}
use Rattle.cu_types.specs.Inside.Members.{known_asks}
use Rattle.cu_types.specs.Inside.Walking.{Walks, heads, scope}
use Rattle.cu_types.specs.declared.known.Known.{Known}
use Rattle.cu_types.proofs.walk.Walk.function.Goals as goal

pub returns-in-Some : goal.returns-in-Some
returns-in-Some c =
    let found = c.in-Some.ensures.lookup in
    let ks = c.args.self.now.signing.known.now in
    let p = c.args.self.now.signing.program.now in
    subst (λ (k : Option Known). OnOk c.known.result (Walks c.args.self.now c.known.new.self (known_asks p (heads c.args.self.now)
    (scope c.args.self.now) (function_body (slice_get p.functions c.args.f.0)) k)))
    (sym (slice_get_read ks (length ks) c.args.f.0 c.in-Some.own.now refl found.3.0 found.1)) c.known.ensures

pub returns-in-None : goal.returns-in-None
returns-in-None c =
    let ks = c.args.self.now.signing.known.now in
    let p = c.args.self.now.signing.program.now in
    subst (λ (k : Option Known). Walks c.args.self.now c.args.self.now (known_asks p (heads c.args.self.now) (scope c.args.self.now)
    (function_body (slice_get p.functions c.args.f.0)) k))
    (sym (slice_get_past ks c.args.f.0 c.in-None.ensures.lookup.3)) (walks_none c.args.self.now c.requires)
