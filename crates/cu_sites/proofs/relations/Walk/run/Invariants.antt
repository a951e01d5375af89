use Rattle.std.proofs.Common.{ℕ, ◌-◌, ◌^◌, List}
use Rattle.cu_sites.specs.Inside.Relating.{IsBegun}
use Rattle.cu_sites.proofs.RelationLemmas.{Walks}
use Rattle.cu_sites.proofs.relations.Walk.run.Given as goal

abbrev pub invariant-loop-next : goal.invariant-loop-next
invariant-loop-next l = (seeds shut : List ℕ) → IsBegun seeds shut l.fn.self → Walks l.relation seeds shut l.next l.self

abbrev pub decreases-loop-next : goal.decreases-loop-next
decreases-loop-next l = 2 ^ 63 - l.next
