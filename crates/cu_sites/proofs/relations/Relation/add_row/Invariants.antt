use Rattle.std.proofs.Common.{drop, map}
use Rattle.cu_sites.specs.Inside.Relating.{Gains, pair}
use Rattle.cu_sites.specs.declared.relations.Relation.{Relation}
use Rattle.cu_sites.proofs.relations.Relation.add_row.Given as goal

abbrev pub invariant-loop-to : goal.invariant-loop-to
invariant-loop-to l =
    (end : Relation) → Gains (map (pair l.from) (drop l.to-index l.row)) l.self end → Gains (map (pair l.from) l.row) l.fn.self end
