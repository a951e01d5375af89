use Rattle.std.proofs.Common.{◌∙◌}
use Rattle.cu_modules.specs.Ordering.{module_of, modules_of}
use Rattle.cu_syntax.specs.Answer.{goal_meaning}
use Rattle.cu_declared.specs.Inside.Gathered.{in_expression}
use Rattle.cu_declared.specs.Inside.Told.{World}
use Rattle.cu_declared.specs.Parameters.{all_parameters}
use Rattle.cu_declared.proofs.CallLemmas.{goal_at, goal_done, goal_known, goal_right, goal_uses_are, goal_wrong, uses_whole}
use Rattle.cu_declared.proofs.calls.declared_types_goal.Goals as goal

pub returns-in-Some-clause-wrong : goal.returns-in-Some-clause-wrong
returns-in-Some-clause-wrong c owner of =
    let names = c.args.names.now in
    let ms = c.args.modules.now in
    let goal_is = goal_meaning names c.args.goal.now in
    let at = goal_at names ms c.args.root c.args.scopes.now owner c.count-count.ensures.differ c.requires.scopes c.requires.root in
    let w : World = record { owner = owner; names = names; modules = modules_of names ms; number = c.args.root; m = module_of names at.0 } in
    let uses = uses_whole w (in_expression names c.expression.result) c.new-uses.result.items c.expression-2.new.found.items c.as_slice.result.now c.new-uses.ensures.items
    (c.in_ok-expression.ensures owner names (c.expression.ensures.owned owner names of)) c.as_slice.ensures.value in
    let first = goal_done w goal_is c.as_slice.result.now c.new-first.result c.tell_arities.new.first c.fault.result
    (uses.0 ∙ goal_uses_are names c.expression.result goal_is (c.expression.ensures.meaning names)) (c.new-first.ensures owner names)
    (c.tell_arities.ensures w (all_parameters w.modules) at.2 uses.1 c.in_ok-types.ensures) (c.fault.ensures owner names) in
    goal_wrong w goal_is c.fault.result c.in-Some.fault at.1 c.in-Some.is first

pub returns-in-Some-clause-known : goal.returns-in-Some-clause-known
returns-in-Some-clause-known c owner known of =
    let names = c.args.names.now in
    let ms = c.args.modules.now in
    let goal_is = goal_meaning names c.args.goal.now in
    let at = goal_at names ms c.args.root c.args.scopes.now owner c.count-count.ensures.differ c.requires.scopes c.requires.root in
    let w : World = record { owner = owner; names = names; modules = modules_of names ms; number = c.args.root; m = module_of names at.0 } in
    let uses = uses_whole w (in_expression names c.expression.result) c.new-uses.result.items c.expression-2.new.found.items c.as_slice.result.now c.new-uses.ensures.items
    (c.in_ok-expression.ensures owner names (c.expression.ensures.owned owner names of)) c.as_slice.ensures.value in
    let first = goal_done w goal_is c.as_slice.result.now c.new-first.result c.tell_arities.new.first c.fault.result
    (uses.0 ∙ goal_uses_are names c.expression.result goal_is (c.expression.ensures.meaning names)) (c.new-first.ensures owner names)
    (c.tell_arities.ensures w (all_parameters w.modules) at.2 uses.1 c.in_ok-types.ensures) (c.fault.ensures owner names) in
    goal_known w goal_is c.fault.result c.in-Some.fault known c.in-Some.is first

pub returns-clause-right : goal.returns-clause-right
returns-clause-right c owner of =
    let names = c.args.names.now in
    let ms = c.args.modules.now in
    let goal_is = goal_meaning names c.args.goal.now in
    let at = goal_at names ms c.args.root c.args.scopes.now owner c.count-count.ensures.differ c.requires.scopes c.requires.root in
    let w : World = record { owner = owner; names = names; modules = modules_of names ms; number = c.args.root; m = module_of names at.0 } in
    let uses = uses_whole w (in_expression names c.expression.result) c.new-uses.result.items c.expression-2.new.found.items c.as_slice.result.now c.new-uses.ensures.items
    (c.in_ok-expression.ensures owner names (c.expression.ensures.owned owner names of)) c.as_slice.ensures.value in
    let first = goal_done w goal_is c.as_slice.result.now c.new-first.result c.tell_arities.new.first c.fault.result
    (uses.0 ∙ goal_uses_are names c.expression.result goal_is (c.expression.ensures.meaning names)) (c.new-first.ensures owner names)
    (c.tell_arities.ensures w (all_parameters w.modules) at.2 uses.1 c.in_ok-types.ensures) (c.fault.ensures owner names) in
    goal_right w goal_is c.fault.result at.1 c.in-None.is first
