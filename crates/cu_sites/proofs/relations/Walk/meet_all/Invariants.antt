use Rattle.std.proofs.Common.{drop}
use Rattle.cu_sites.specs.Inside.Relating.{Meets}
use Rattle.cu_sites.specs.declared.relations.Walk.{Walk}
use Rattle.cu_sites.proofs.relations.Walk.meet_all.Given as goal

abbrev pub invariant-loop-number : goal.invariant-loop-number
invariant-loop-number l = (end : Walk) → Meets (drop l.number-index l.numbers) l.self end → Meets l.numbers l.fn.self end
