use Rattle.std.proofs.Common.{◌≡◌, ◌∙◌, ◌∷◌, ◌++◌, [], List, ap, ap₂, arith, sym, ℕ}
use Rattle.cu_calculus.specs.Match.{bind_all, empty}
use Rattle.cu_calculus.specs.Value.{Value}
use Rattle.cu_verdict.specs.Proved.{values_from}
use Rattle.cu_verdict.proofs.ValueLaws.{and_next}
use Rattle.cu_verdict.proofs.values.values_of.Goals as goal

pub loop-variable-preserved : goal.loop-variable-preserved
loop-variable-preserved c =
    let k = c.loop-variable in
    let env = bind_all empty c.args.env.now in (
      c.in_ok-push.ensures.items
          ∙ ap₂ (λ (vs : List Value) (v : Value). vs ++ v ∷ []) k.invariant.0 c.in_ok-value.ensures
          ∙ sym (and_next env k.variable),
      omega arith,
    )

pub returns : goal.returns
returns c =
    let k = c.loop-variable in
    let all : k.variable ≡ c.args.count = omega (arith, k.invariant.1, c.loop-variable-test.false) in
    k.invariant.0 ∙ ap (λ (n : ℕ). values_from (bind_all empty c.args.env.now) 0 n) all
