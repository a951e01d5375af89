use Rattle.std.proofs.Common.{[]}
use Rattle.cu_syntax.specs.Answer.{goal_meaning}
use Rattle.cu_modules.proofs.ScopingLemmas.{goal_is_right, goal_is_wrong, goal_known}
use Rattle.cu_modules.proofs.scoping.scope_goal.Goals as goal

pub returns-in-Some-clause-wrong : goal.returns-in-Some-clause-wrong
returns-in-Some-clause-wrong c = λ owner owned.
    goal_is_wrong c.args.names.now c.args.modules.now c.args.root c.args.scopes c.index.result.now (goal_meaning c.args.names.now c.args.goal.now) owner c.in-Some.fault c.of_fault.result
    c.requires.scopes c.requires.root c.index.ensures
    (λ bindings tells. c.in-Some.ensures owner c.args.names.now _ (c.in_ok-goal_faults.ensures owner c.args.names.now bindings [] c.count-count.ensures.differ tells owned (c.new-first.ensures owner c.args.names.now)))
    c.of_fault.ensures

pub returns-in-None-clause-right : goal.returns-in-None-clause-right
returns-in-None-clause-right c = λ owner owned.
    goal_is_right c.args.names.now c.args.modules.now c.args.root c.args.scopes c.index.result.now (goal_meaning c.args.names.now c.args.goal.now) owner
    c.requires.scopes c.requires.root c.index.ensures
    (λ bindings tells. c.in-None.ensures owner c.args.names.now _ (c.in_ok-goal_faults.ensures owner c.args.names.now bindings [] c.count-count.ensures.differ tells owned (c.new-first.ensures owner c.args.names.now)))

pub returns-in-Some-clause-known : goal.returns-in-Some-clause-known
returns-in-Some-clause-known c = λ owner known owned.
    goal_known c.args.names.now c.args.modules.now c.args.root c.args.scopes c.index.result.now (goal_meaning c.args.names.now c.args.goal.now) owner c.in-Some.fault c.of_fault.result known
    c.requires.scopes c.requires.root c.index.ensures
    (λ bindings tells. c.in-Some.ensures owner c.args.names.now _ (c.in_ok-goal_faults.ensures owner c.args.names.now bindings [] c.count-count.ensures.differ tells owned (c.new-first.ensures owner c.args.names.now)))
    c.of_fault.ensures
