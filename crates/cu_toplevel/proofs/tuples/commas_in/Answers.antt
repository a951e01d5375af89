use Rattle.cu_toplevel.proofs.TupleLemmas.{comma_ends, comma_goes_on, no_end}
use Rattle.cu_toplevel.proofs.tuples.commas_in.Goals as goal

pub bytes-preserved : goal.bytes-preserved
bytes-preserved c = comma_goes_on c.args.bytes.now c.bytes.count c.bytes-test.true c.if-byte-eq44.true c.bytes.invariant

pub returns : goal.returns
returns c = no_end c.args.bytes.now c.bytes.count c.bytes-test.false c.bytes.invariant

pub returns-in-bytes : goal.returns-in-bytes
returns-in-bytes c = comma_ends c.args.bytes.now c.bytes.count c.closed.result c.bytes-test.true c.if-byte-eq44.false c.closed.ensures c.bytes.invariant
