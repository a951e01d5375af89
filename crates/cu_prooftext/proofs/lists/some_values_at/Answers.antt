use Rattle.std.proofs.Common.{◌≡◌, ◌∷◌, [], List, ℕ, Result, rules, subst}
use Rattle.cu_calculus.specs.Value.{Value}
use Rattle.cu_prooftext.specs.Inside.Gives.{Gives}
use Rattle.cu_prooftext.specs.Inside.Lines.{always_more, no_state}
use Rattle.cu_prooftext.specs.Inside.Reading.{value_at}
use Rattle.cu_prooftext.proofs.ListSteps.{items_are}
use Rattle.cu_prooftext.proofs.lists.some_values_at.Goals as goal

pub returns : goal.returns
returns c =
    let one : c.in_ok-values.values.items ≡ c.in_ok-first.first ∷ [] = search rules in
    subst (λ (m : Result (List Value × List ℕ) ℕ). Gives (λ x. (x.0.items, x.1.now)) c.further_values.result m)
    (items_are always_more (λ u. value_at) no_state tt c.in_ok-values.values.items c.in_ok-first.first c.args.bytes.now c.in_ok-first.rest.now one c.in_ok-first.ensures)
    c.further_values.ensures
