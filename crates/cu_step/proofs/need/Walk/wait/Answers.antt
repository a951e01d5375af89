-- The innermost node waits, where there is one.
use Rattle.std.proofs.Common.{true, ap, List}
use Rattle.cu_step.specs.declared.need.Frame.{Frame}
use Rattle.cu_step.specs.Inside.Walk.{Found, found}
use Rattle.cu_step.proofs.Innermost.{empty_waits, innermost_there, innermost_waits}
use Rattle.cu_step.proofs.need.Walk.wait.Goals as goal

pub put_innermost-requires : goal.put_innermost-requires
put_innermost-requires c =
    let waits : Found = record (found c.args.self.now) { waits = true } in
    innermost_there waits c.in-Some.frame c.in-Some.ensures.some

pub returns-in-Some : goal.returns-in-Some
returns-in-Some c =
    let waits : Found = record (found c.args.self.now) { waits = true } in
    innermost_waits waits (found c.put_innermost.new.self) c.in-Some.frame c.in-Some.ensures.some c.put_innermost.ensures

pub returns-in_default : goal.returns-in_default
returns-in_default c =
    let with_frames : List Frame → Found = λ frames. record (found c.args.self.now) { frames = frames; waits = true } in
    ap with_frames (empty_waits c.args.self.now.frames.items c.in_default.ensures.none)
