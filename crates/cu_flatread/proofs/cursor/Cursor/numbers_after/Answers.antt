use Rattle.std.proofs.Common.{◌≡◌, ℕ, true, false, Ok, pred, sym, ap, ◌∙◌, arith}
use Rattle.cu_flatread.proofs.ListLemmas.{more_false, more_true}
use Rattle.cu_flatread.proofs.LoopLemmas.{list_bad, list_stops}
use Rattle.cu_flatread.specs.Inside.Numbers.{number_at}
use Rattle.cu_flatread.specs.Inside.Words.{goes_on, joined, more_elements}
use Rattle.cu_flatread.proofs.cursor.Cursor.numbers_after.Goals as goal

pub returns-in_err-goes_on-clause-gives : goal.returns-in_err-goes_on-clause-gives
returns-in_err-goes_on-clause-gives c =
    let inv = c.loop-numbers.invariant in
    list_stops (λ ns. ns.items) number_at inv.0 c.loop-numbers.self.rest.now
    c.goes_on.new.self.rest.now c.goes_on.new.self.rest.now c.loop-numbers.numbers.items _
    c.from_residual-in_err-goes_on.result c.in_err-goes_on.field-0.0
    c.from_residual-in_err-goes_on.ensures.1 c.in_err-goes_on.ensures.gives inv.1 inv.2

pub returns-in_err-number-clause-gives : goal.returns-in_err-number-clause-gives
returns-in_err-number-clause-gives c =
    let inv = c.loop-numbers.invariant in
    let comma : goes_on c.loop-numbers.self.rest.now ≡ Ok (true, c.goes_on.new.self.rest.now) =
    c.in_ok-goes_on.ensures.gives ∙ ap (λ more. Ok (more, c.goes_on.new.self.rest.now)) c.if-branch.true in
    list_bad (λ ns. ns.items) (λ (n : ℕ). n) number_at inv.0 c.loop-numbers.self.rest.now
    c.goes_on.new.self.rest.now c.number.new.self.rest.now c.number.new.self.rest.now
    c.loop-numbers.numbers.items _ c.from_residual-in_err-number.result
    c.in_err-number.field-0.0 c.from_residual-in_err-number.ensures.1 comma
    c.in_err-number.ensures.gives inv.1 inv.2

pub loop-numbers-preserved : goal.loop-numbers-preserved
loop-numbers-preserved c =
    let inv = c.loop-numbers.invariant in
    let comma : goes_on c.loop-numbers.self.rest.now ≡ Ok (true, c.goes_on.new.self.rest.now) =
    c.in_ok-goes_on.ensures.gives ∙ ap (λ more. Ok (more, c.goes_on.new.self.rest.now)) c.if-branch.true in
    let step =
    more_true number_at inv.0 c.loop-numbers.self.rest.now c.goes_on.new.self.rest.now
    c.number.new.self.rest.now c.in_ok-number.number c.loop-numbers.numbers.items comma
    c.in_ok-number.ensures.gives inv.1 in (
      pred inv.0,
      omega (arith, inv.1, c.in_ok-goes_on.ensures.shorter, c.in_ok-number.ensures.shorter),
      ap (λ items. joined items (more_elements number_at (pred inv.0) c.number.new.self.rest.now)) c.in_ok-push.ensures.items ∙ sym step ∙ inv.2,
      omega (arith, inv.3, c.in_ok-goes_on.ensures.shorter, c.in_ok-number.ensures.shorter),
    )

pub returns-clause-gives : goal.returns-clause-gives
returns-clause-gives c =
    let inv = c.loop-numbers.invariant in
    let end : goes_on c.loop-numbers.self.rest.now ≡ Ok (false, c.goes_on.new.self.rest.now) =
    c.in_ok-goes_on.ensures.gives ∙ ap (λ more. Ok (more, c.goes_on.new.self.rest.now)) c.if-branch.false in
    sym inv.2
    ∙ more_false number_at inv.0 c.loop-numbers.self.rest.now c.goes_on.new.self.rest.now
    c.loop-numbers.numbers.items end inv.1
