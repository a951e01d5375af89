use Rattle.std.proofs.Common.{◌≡◌, ◌∷◌, [], List, None, ℕ, Result, rules, subst}
use Rattle.cu_calculus.specs.Value.{Value}
use Rattle.cu_prooftext.specs.Inside.Gives.{Gives}
use Rattle.cu_prooftext.specs.Inside.Lines.{binding_at, last_of, may_rise}
use Rattle.cu_prooftext.proofs.ListSteps.{items_are}
use Rattle.cu_prooftext.proofs.lists.some_bindings_at.Goals as goal

pub returns : goal.returns
returns c =
    let one : c.in_ok-env.env.items ≡ c.in_ok-first.first ∷ [] = search rules in
    subst (λ (m : Result (List (ℕ × Value) × List ℕ) ℕ). Gives (λ x. (x.0.items, x.1.now)) c.further_bindings.result m)
    (items_are may_rise binding_at last_of None c.in_ok-env.env.items c.in_ok-first.first c.args.bytes.now c.in_ok-first.rest.now one c.in_ok-first.ensures)
    c.further_bindings.ensures
