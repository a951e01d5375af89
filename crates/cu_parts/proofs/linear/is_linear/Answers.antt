use Rattle.std.proofs.Common.{◌<◌, ◌∙◌, ℕ, List, arith, get_or, length, subst, sym, take}
use Rattle.std.proofs.lemmas.Option.{slice_get-get_or}
use Rattle.cu_parts.proofs.ScopedSteps.{distinct_next, not_distinct, take_step}
use Rattle.cu_parts.specs.Inside.Scoping.{Distinct}
use Rattle.cu_parts.proofs.linear.is_linear.Goals as goal

pub returns-then-not-branch : goal.returns-then-not-branch
returns-then-not-branch c =
    let xs = c.args.variables.now in
    let i = c.loop-x.x-index in
    let low : i < length xs = omega arith in
    not_distinct xs i (get_or xs i 0) c.loop-x.seen.keys (slice_get-get_or xs i 0 low) (sym c.if-not-branch.true ∙ c.in_ok-insert.ensures.added)
    c.loop-x.invariant

pub loop-x-preserved : goal.loop-x-preserved
loop-x-preserved c =
    let xs = c.args.variables.now in
    let i = c.loop-x.x-index in
    let low : i < length xs = omega arith in
    let x = get_or xs i 0 in
    subst (λ (ys : List ℕ). Distinct ys c.insert.new.self.keys) (sym (take_step xs i x (slice_get-get_or xs i 0 low)))
    (distinct_next (take i xs) x c.loop-x.seen.keys c.insert.new.self.keys c.in_ok-insert.ensures.updates.0
    (sym c.if-not-branch.false ∙ c.in_ok-insert.ensures.added) c.loop-x.invariant)
