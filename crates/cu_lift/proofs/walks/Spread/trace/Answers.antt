use Rattle.std.proofs.Common.{rules, ◌≡◌, ◌<◌, ◌++◌, ◌∷◌, [], List, Some, length, reverse, slice_get, refl, subst, sym, arith}
use Rattle.cu_calculus.specs.declared.FunId.{FunId}
use Rattle.cu_lift.specs.Inside.Trail.{Steps}
use Rattle.std.proofs.lemmas.Option.{slice_get_read}
use Rattle.cu_lift.proofs.Trails.{one_step}
use Rattle.cu_lift.proofs.walks.Spread.trace.Goals as goal

pub loop-at-preserved : goal.loop-at-preserved
loop-at-preserved c =
    let found = c.args.self.now.found.items in
    let at = c.loop-at.at in
    let f = c.index.result.now in
    let low : at < length found = c.loop-at.invariant.0 in
    let e : slice_get found at ≡ Some f = slice_get_read found (length found) at f refl low c.index.ensures in
    let more : 0 < at = omega arith in
    let earlier : f.from < at = c.requires.falls at f e more in
    let under : f.from < length found = omega arith in
    let source : slice_get found f.from ≡ Some c.index-in-loop-at.result.now =
    slice_get_read found (length found) f.from c.index-in-loop-at.result.now refl under c.index-in-loop-at.ensures in
    let pushed : c.push.new.self.items ≡ c.loop-at.walk.items ++ record { 0 = c.index-in-loop-at.result.now.function } ∷ [] = search rules in (
      under,
      λ g here last trails h l.
          subst (λ (x : List FunId). Steps g here.function (reverse x) last.function) (sym pushed)
          (one_step g c.args.self.now at f c.index-in-loop-at.result.now here last c.loop-at.walk.items trails e more source h
          (c.loop-at.invariant.1 g f last trails e l)),
    )
