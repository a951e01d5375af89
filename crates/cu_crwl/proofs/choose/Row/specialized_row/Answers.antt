use Rattle.std.proofs.Common.{arith}
use Rattle.cu_crwl.proofs.RowLaws.{specialized_here, specialized_past}
use Rattle.cu_crwl.proofs.choose.Row.specialized_row.Goals as goal

pub returns-then-position-len : goal.returns-then-position-len
returns-then-position-len c = rw (← specialized_past c.args.self.now c.args.position c.args.count (omega (arith, c.len.ensures, c.if-position-len.true))) c.copied.ensures

pub returns : goal.returns
returns c =
    specialized_here c.args.self.now c.args.position c.args.count c.as_slice.result.now c.in_ok-patterns.patterns.items
    c.as_slice.ensures.value c.in_ok-patterns.ensures
