use Rattle.cu_calculus.specs.declared.FunId.{FunId}
use Rattle.cu_types.proofs.RuleLemmas.{group_end, group_step, walking_starts}
use Rattle.cu_types.specs.Inside.Members.{group_asks}
use Rattle.cu_types.specs.Inside.Walking.{heads, scope}
use Rattle.cu_types.proofs.walk.Walk.members.Goals as goal

pub loop-f-init : goal.loop-f-init
loop-f-init c =
    let a = c.args.self.now in
    walking_starts a (group_asks a.signing.program.now (heads a) (scope a) a.signing.known.now c.args.group.now) c.requires

pub function-requires : goal.function-requires
function-requires c = c.loop-f.invariant.reader

pub loop-f-preserved : goal.loop-f-preserved
loop-f-preserved c =
    let a = c.args.self.now in
    let d : FunId = record { 0 = 0 } in
    group_step a c.loop-f.self c.function.new.self
    (group_asks a.signing.program.now (heads a) (scope a) a.signing.known.now c.args.group.now) c.args.group.now c.loop-f.f-index d
    c.loop-f-test.true c.loop-f.invariant c.in_ok-function.ensures

pub returns : goal.returns
returns c =
    let a = c.args.self.now in
    group_end a c.loop-f.self (group_asks a.signing.program.now (heads a) (scope a) a.signing.known.now c.args.group.now) c.args.group.now
    c.loop-f.f-index c.loop-f-test.false c.loop-f.invariant
