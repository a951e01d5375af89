use Rattle.std.proofs.Common.{◌<◌, length, arith, subst, sym}
use Rattle.cu_modules.specs.Ordering.{modules_of}
use Rattle.cu_declared.specs.Telling.{FaultIsKnown, TellsFault}
use Rattle.cu_declared.specs.TypeFaults.{IsWrong}
use Rattle.cu_declared.proofs.CallLemmas.{all_right, is_module, right_more, right_none, world, wrong_known, wrong_told}
use Rattle.cu_declared.proofs.calls.declared_types.Goals as goal

pub loop-number-init : goal.loop-number-init
loop-number-init c = right_none (modules_of c.args.names.now c.args.modules.now)

pub module_fault-requires : goal.module_fault-requires
module_fault-requires c =
    let names = c.args.names.now in
    let ms = c.args.modules.now in
    let n = c.loop-number.number in
    let m = c.index-modules-number.result in
    let low : n < length ms = omega (arith, c.loop-number-test.true, c.in-Ok.ensures.1) in
    (world names ms n m, is_module names ms n m c.args.scopes.now c.count-count.ensures.differ c.requires.scopes c.requires.known low c.index-modules-number.is)

pub loop-number-preserved : goal.loop-number-preserved
loop-number-preserved c =
    let names = c.args.names.now in
    let ms = c.args.modules.now in
    let n = c.loop-number.number in
    let m = c.index-modules-number.result in
    let low : n < length ms = omega (arith, c.loop-number-test.true, c.in-Ok.ensures.1) in
    let is = is_module names ms n m c.args.scopes.now c.count-count.ensures.differ c.requires.scopes c.requires.known low c.index-modules-number.is in
    right_more names ms n m c.in_ok-fault.field-0 is.is_at.is_there c.in_default-2.is (c.in_ok-fault.ensures (world names ms n m) is c.in_ok-types.ensures) c.loop-number.invariant

pub returns-in-loop-number-clause-wrong : goal.returns-in-loop-number-clause-wrong
returns-in-loop-number-clause-wrong c =
    let names = c.args.names.now in
    let ms = c.args.modules.now in
    let n = c.loop-number.number in
    let m = c.index-modules-number.result in
    let low : n < length ms = omega (arith, c.loop-number-test.true, c.in-Ok.ensures.1) in
    let is = is_module names ms n m c.args.scopes.now c.count-count.ensures.differ c.requires.scopes c.requires.known low c.index-modules-number.is in
    let first = c.in_ok-fault.ensures (world names ms n m) is c.in_ok-types.ensures in
    subst (TellsFault names (IsWrong (modules_of names ms))) (sym c.of_fault.ensures)
    (wrong_told names ms n m c.in_ok-fault.field-0 c.in-Some.fault is.is_at.is_there c.in-Some.is first c.loop-number.invariant)

pub returns-in-loop-number-clause-known : goal.returns-in-loop-number-clause-known
returns-in-loop-number-clause-known c =
    let names = c.args.names.now in
    let ms = c.args.modules.now in
    let n = c.loop-number.number in
    let m = c.index-modules-number.result in
    let low : n < length ms = omega (arith, c.loop-number-test.true, c.in-Ok.ensures.1) in
    let is = is_module names ms n m c.args.scopes.now c.count-count.ensures.differ c.requires.scopes c.requires.known low c.index-modules-number.is in
    let first = c.in_ok-fault.ensures (world names ms n m) is c.in_ok-types.ensures in
    subst (FaultIsKnown names) (sym c.of_fault.ensures) (wrong_known names ms n m c.in_ok-fault.field-0 c.in-Some.fault is.has c.in-Some.is first)

pub returns-clause-right : goal.returns-clause-right
returns-clause-right c =
    all_right c.args.names.now c.args.modules.now c.loop-number.number (omega (arith, c.loop-number-test.false, c.in-Ok.ensures.1)) c.loop-number.invariant
