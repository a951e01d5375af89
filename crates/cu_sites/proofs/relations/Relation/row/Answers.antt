use Rattle.std.proofs.Common.{Option, ap, length, refl, sym, ◌∙◌}
use Rattle.std.proofs.lemmas.Option.{slice_get_read}
use Rattle.cu_sites.specs.Depending.{keys_in}
use Rattle.cu_sites.proofs.RelationLemmas.{Row}
use Rattle.cu_sites.proofs.relations.Relation.row.Goals as goal

pub returns-in-Some : goal.returns-in-Some
returns-in-Some c =
    let rows = c.args.self.now.rows.items in
    let read = rw c.deref.ensures.value at c.in-Some.ensures.lookup in
    c.as_slice.ensures.keys
    ∙ ap (λ (o : Option Row). keys_in o) (sym (slice_get_read rows (length rows) c.args.from c.in-Some.row.now refl read.3.0 read.1))
