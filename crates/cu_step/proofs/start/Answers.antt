-- What was pushed is the state in which the goal begins.
use Rattle.std.proofs.Common.{◌++◌, ◌∷◌, [], List, ℕ, ap, ap₂, subst, sym, ◌∙◌}
use Rattle.cu_machine.specs.Sets.{IsWithoutSets}
use Rattle.cu_machine.specs.State.{Branch, Idle, State}
use Rattle.cu_machine.specs.Validity.{IsValid}
use Rattle.cu_machine.proofs.Starts.{start_valid, start_without}
use Rattle.cu_step.proofs.StepLemmas.{start_is}
use Rattle.cu_step.proofs.start.Goals as goal

pub returns-clause-next : goal.returns-clause-next
returns-clause-next g c =
    let content = g.S.Store.content in
    let middle = content c.push.new.store in
    ap₂ (λ graph root. Branch graph root c.in_ok-goals.goals.items Idle) c.new.ensures.store c.new.ensures.root
    ∙ start_is c.args.program.now c.args.goal (content c.in_ok-store.store) middle (content c.push-2.new.store) c.in_ok-goals.goals.items
    c.arity-count.result c.in_ok-root.root c.kind_of_call-kind.result c.arity-count.ensures.arity c.in_ok-store.ensures
    c.in_ok-goals.ensures.places c.in_ok-goals.ensures.content c.in_ok-root.ensures.place c.kind_of_call-kind.ensures
    (c.in_ok-root.ensures.content
    ∙ ap (λ (args : List ℕ). middle ++ record { kind = c.kind_of_call-kind.result; args = args } ∷ []) c.as_slice.ensures.value)

pub returns-clause-valid : goal.returns-clause-valid
returns-clause-valid g c =
    subst (λ (s : State). IsValid c.args.program.now s) (sym (returns-clause-next g c))
    (start_valid c.args.program.now c.args.goal c.arity-count.ensures.well_formed c.requires)

pub returns-clause-sets : goal.returns-clause-sets
returns-clause-sets g c =
    subst (λ (s : State). IsWithoutSets s) (sym (returns-clause-next g c)) (start_without c.args.program.now c.args.goal c.requires)
