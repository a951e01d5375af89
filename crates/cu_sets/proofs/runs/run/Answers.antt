-- Where exactly one branch follows the run goes on, and any other outcome is its own.
use Rattle.std.proofs.Common.{◌-◌, arith, ap, refl, subst, sym, ◌∙◌}
use Rattle.std.specs.List.{All}
use Rattle.cu_machine.specs.Run.{only_state, run_on}
use Rattle.cu_machine.specs.Validity.{IsValid}
use Rattle.cu_step.specs.Outcome.{branches_of, is_inner, next_of, state_of}
use Rattle.cu_step.proofs.Builds.{if_ok}
use Rattle.cu_sets.specs.Inside.Onward.{GoesOnward}
use Rattle.cu_sets.proofs.RunLemmas.{one_follows, runs_last, runs_on, runs_out, valid_only}
use Rattle.cu_sets.proofs.runs.run.Goals as goal

pub steps-init : goal.steps-init
steps-init g c = record {
  run = ap (λ n. run_on n c.args.program.now c.args.limits.now (state_of g.S.Store.content c.args.branch)) c.saturating_sub-more.ensures;
  valid = c.requires.valid;
}

pub steps-preserved : goal.steps-preserved
steps-preserved g c =
    let content = g.S.Store.content in
    let program = c.args.program.now in
    let limits = c.args.limits.now in
    let outcome = c.in_ok-outcome.outcome in
    let only = subst (λ r. GoesOnward content outcome r) c.in-Only.is c.only_branch_of.ensures in
    runs_on program limits (state_of content c.args.branch) (c.args.stride - 1) (state_of content c.steps.branch) (state_of content c.in-Only.next) c.steps.more _
    c.steps-test.true refl (sym c.in_ok-outcome.ensures.next ∙ one_follows content outcome c.in-Only.next only)
    (valid_only (λ branch. IsValid program (state_of content branch)) (branches_of outcome) c.in-Only.next only c.in_ok-outcome.ensures.valid) c.steps.invariant

pub returns-in-Other-clause-run : goal.returns-in-Other-clause-run
returns-in-Other-clause-run g c =
    let content = g.S.Store.content in
    let outcome = c.in_ok-outcome.outcome in
    let other = subst (λ r. GoesOnward content outcome r) c.in-Other.is c.only_branch_of.ensures in
    runs_out c.args.program.now c.args.limits.now (state_of content c.args.branch) (c.args.stride - 1) (state_of content c.steps.branch) c.steps.more (next_of content c.in-Other.outcome)
    (ap (next_of content) other.0 ∙ c.in_ok-outcome.ensures.next) (ap (λ o. only_state (next_of content o)) other.0 ∙ other.1) c.steps.invariant

pub returns-in-Other-clause-inner : goal.returns-in-Other-clause-inner
returns-in-Other-clause-inner g c =
    let other = subst (λ r. GoesOnward g.S.Store.content c.in_ok-outcome.outcome r) c.in-Other.is c.only_branch_of.ensures in
    ap is_inner other.0 ∙ c.in_ok-outcome.ensures.inner

pub returns-in-Other-clause-valid : goal.returns-in-Other-clause-valid
returns-in-Other-clause-valid g c =
    let content = g.S.Store.content in
    let other = subst (λ r. GoesOnward content c.in_ok-outcome.outcome r) c.in-Other.is c.only_branch_of.ensures in
    subst (λ o. All (λ branch. IsValid c.args.program.now (state_of content branch)) (branches_of o)) (sym other.0) c.in_ok-outcome.ensures.valid

pub returns-clause-run : goal.returns-clause-run
returns-clause-run g c =
    let content = g.S.Store.content in
    if_ok c.advance_with-2.result _ _
    (λ o is. runs_last c.args.program.now c.args.limits.now (state_of content c.args.branch) (c.args.stride - 1) (state_of content c.steps.branch) c.steps.more (next_of content o) is
    (omega (arith, c.steps-test.false)) c.steps.invariant)
    c.advance_with-2.ensures.next
