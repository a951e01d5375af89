use Rattle.std.proofs.Common.{◌≡◌, ◌-◌, ◌≤◌, length}
use Rattle.cu_sites.proofs.RelationLemmas.{AllEmpty}
use Rattle.cu_sites.proofs.relations.Relation.new.Given as goal

-- the rows so far are empty
abbrev pub invariant-loop-number : goal.invariant-loop-number
invariant-loop-number l = (length l.rows.items ≡ l.number) × (l.number ≤ l.count) × AllEmpty l.rows.items

abbrev pub decreases-loop-number : goal.decreases-loop-number
decreases-loop-number l = l.count - l.number
