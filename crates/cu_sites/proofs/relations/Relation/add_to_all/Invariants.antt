use Rattle.std.proofs.Common.{drop, map}
use Rattle.cu_sites.specs.Inside.Relating.{Gains, pair_to}
use Rattle.cu_sites.specs.declared.relations.Relation.{Relation}
use Rattle.cu_sites.proofs.relations.Relation.add_to_all.Given as goal

abbrev pub invariant-loop-from : goal.invariant-loop-from
invariant-loop-from l =
    (end : Relation) → Gains (map (pair_to l.to) (drop l.from-index l.froms)) l.self end → Gains (map (pair_to l.to) l.froms) l.fn.self end
