use Rattle.std.proofs.Common.{refl, sym, ◌∙◌}
use Rattle.cu_sites.proofs.RelationLemmas.{meets_open, meets_shut}
use Rattle.cu_sites.proofs.relations.Walk.meet.Goals as goal

pub returns-in_ok-insert : goal.returns-in_ok-insert
returns-in_ok-insert c =
    meets_open c.args.number c.args.self.now _ (sym c.contains.ensures ∙ c.if-not-contains.true) refl c.in_ok-insert.ensures.keys

pub returns-else-not-contains : goal.returns-else-not-contains
returns-else-not-contains c = meets_shut c.args.number c.args.self.now (sym c.if-not-contains.ensures)
