use Rattle.std.proofs.Common.{arith, refl}
use Rattle.std.proofs.Common.{length}
use Rattle.cu_deftree.proofs.RowSteps.{specialized_here, specialized_past}
use Rattle.cu_deftree.proofs.rows.Row.specialized.Goals as goal

pub returns-then-position-len : goal.returns-then-position-len
returns-then-position-len c =
    rw (← specialized_past c.args.self.now c.args.position c.args.arguments.now (omega (arith, c.len.ensures, c.if-position-len.true))) c.copied.ensures

pub returns : goal.returns
returns c =
    specialized_here c.args.self.now c.args.position (length c.args.arguments.now) c.args.arguments.now c.index.result.now c.as_slice.result.now
    c.in_ok-patterns.patterns.items c.as_slice-2.result.now c.in_ok-own.own.items c.as_slice.ensures.value c.as_slice-2.ensures.value
    (omega (arith, c.len.ensures, c.if-position-len.false)) c.index.ensures refl c.in_ok-patterns.ensures c.in_ok-own.ensures
