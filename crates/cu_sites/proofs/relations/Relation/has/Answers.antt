use Rattle.std.proofs.Common.{Option, ap, length, refl, sym, ◌∙◌}
use Rattle.std.proofs.lemmas.Bool.{ltb-false}
use Rattle.std.proofs.lemmas.Option.{slice_get_past, slice_get_read}
use Rattle.cu_sites.specs.Depending.{is_in, keys_in}
use Rattle.cu_sites.proofs.RelationLemmas.{Row}
use Rattle.cu_sites.proofs.relations.Relation.has.Goals as goal

pub returns-in-Some : goal.returns-in-Some
returns-in-Some c =
    let rows = c.args.self.now.rows.items in
    let read = rw c.deref.ensures.value at c.in-Some.ensures.lookup in
    c.contains.ensures
    ∙ ap (λ (o : Option Row). is_in (keys_in o) c.args.to) (sym (slice_get_read rows (length rows) c.args.from c.in-Some.row.now refl read.3.0 read.1))

pub returns-in-None : goal.returns-in-None
returns-in-None c =
    let rows = c.args.self.now.rows.items in
    let read = rw c.deref.ensures.value at c.in-None.ensures.lookup in
    ap (λ (o : Option Row). is_in (keys_in o) c.args.to)
    (sym (slice_get_past rows c.args.from (ltb-false c.args.from (length rows) (sym read.0))))
