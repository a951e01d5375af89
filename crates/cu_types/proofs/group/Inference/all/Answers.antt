use Rattle.std.proofs.Common.{◌<◌, List, length, subst, sym}
use Rattle.cu_calculus.specs.declared.FunId.{FunId}
use Rattle.cu_lift.specs.Groups.{lists_of}
use Rattle.cu_types.proofs.Inferring.{ended, fault_after, group_some, group_within, next_after, row_at}
use Rattle.cu_types.specs.Inside.Grouping.{AreWithin}
use Rattle.cu_types.proofs.group.Inference.all.Goals as goal

pub step-requires-clause-tables : goal.step-requires-clause-tables
step-requires-clause-tables c = c.requires.tables

pub step-requires-clause-within : goal.step-requires-clause-within
step-requires-clause-within c =
    let p = c.args.self.now.program.now in
    let rows = c.args.groups.now in
    let i = c.loop-group.group-index in
    let at = row_at rows i c.group-item.result c.loop-group-test.true c.group-item.is in
    subst (λ (fs : List FunId). AreWithin fs (length c.loop-group.known)) (sym c.as_slice.ensures.value)
    (group_within p c.group-item.result.items (length c.loop-group.known) (c.requires.groups.each i c.group-item.result.items at)
    c.loop-group.invariant.sized)

pub step-requires-clause-some : goal.step-requires-clause-some
step-requires-clause-some c =
    let p = c.args.self.now.program.now in
    let rows = c.args.groups.now in
    let i = c.loop-group.group-index in
    let at = row_at rows i c.group-item.result c.loop-group-test.true c.group-item.is in
    subst (λ (fs : List FunId). 0 < length fs) (sym c.as_slice.ensures.value)
    (group_some p c.group-item.result.items (c.requires.groups.each i c.group-item.result.items at))

pub loop-group-preserved : goal.loop-group-preserved
loop-group-preserved c =
    let p = c.args.self.now.program.now in
    let rows = c.args.groups.now in
    let i = c.loop-group.group-index in
    next_after p (lists_of rows) i c.loop-group.known c.step.new.known c.group-item.result.items c.as_slice.result.now c.in_ok-found.found
    c.requires.groups (row_at rows i c.group-item.result c.loop-group-test.true c.group-item.is) c.as_slice.ensures.value c.in_default.is
    c.loop-group.invariant c.in_ok-found.ensures

pub returns-in-loop-group : goal.returns-in-loop-group
returns-in-loop-group c =
    let p = c.args.self.now.program.now in
    let rows = c.args.groups.now in
    let i = c.loop-group.group-index in
    fault_after p (lists_of rows) i c.loop-group.known c.step.new.known c.group-item.result.items c.as_slice.result.now c.in_ok-found.found
    c.in-Some.fault c.requires.groups (row_at rows i c.group-item.result c.loop-group-test.true c.group-item.is) c.as_slice.ensures.value
    c.in-Some.is c.loop-group.invariant c.in_ok-found.ensures

pub returns : goal.returns
returns c =
    ended c.args.self.now.program.now c.args.groups.now c.loop-group.group-index c.loop-group.known c.loop-group-test.false
    c.loop-group.invariant
