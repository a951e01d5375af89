use Rattle.std.proofs.Common.{◌≡◌, ◌++◌, drop}
use Rattle.cu_peg.specs.Inside.CallTables.{called}
use Rattle.cu_peg.proofs.calls.called.Given as goal

abbrev pub invariant-loop-part : goal.invariant-loop-part
invariant-loop-part l = called l.nullable l.parts ≡ l.prefix.items ++ called l.nullable (drop l.part-index l.parts)
