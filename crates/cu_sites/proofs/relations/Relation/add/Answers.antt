use Rattle.std.proofs.Common.{rules, ◌≡◌, ◌<◌, arith, length, refl}
use Rattle.std.proofs.lemmas.Option.{slice_get_read}
use Rattle.cu_sites.proofs.RelationLemmas.{holds_more}
use Rattle.cu_sites.proofs.relations.Relation.add.Goals as goal

pub returns-in_ok-insert : goal.returns-in_ok-insert
returns-in_ok-insert c n pairs h =
    let rows = c.args.self.now.rows.items in
    let size : Rattle.std.specs.Vec.vec_len c.args.self.now.rows ≡ length rows = search rules in
    let len = c.len.ensures in
    let within = c.if-from-len.true in
    let low : c.args.from < length rows = omega arith in
    let at = slice_get_read rows (length rows) c.args.from c.index_mut.result.now refl low c.index_mut.ensures.value in
    holds_more n pairs c.args.from c.args.to c.args.self.now _ c.index_mut.result.now c.insert.new.self h low at c.in_ok-insert.ensures.keys refl
