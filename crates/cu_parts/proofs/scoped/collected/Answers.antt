use Rattle.std.proofs.Common.{◌<◌, ℕ, List, arith, get_or, length, subst, sym, take}
use Rattle.std.proofs.lemmas.Option.{slice_get-get_or}
use Rattle.cu_parts.proofs.ScopedSteps.{collects_next, take_step}
use Rattle.cu_parts.specs.Inside.Scoping.{Collects}
use Rattle.cu_parts.proofs.scoped.collected.Goals as goal

pub loop-x-preserved : goal.loop-x-preserved
loop-x-preserved c =
    let xs = c.args.variables.now in
    let i = c.loop-x.x-index in
    let low : i < length xs = omega arith in
    let x = get_or xs i 0 in
    subst (λ (ys : List ℕ). Collects ys c.insert.new.self.keys) (sym (take_step xs i x (slice_get-get_or xs i 0 low)))
    (collects_next (take i xs) x c.loop-x.set.keys c.insert.new.self.keys c.in_ok-insert.ensures.updates.0 c.loop-x.invariant)
