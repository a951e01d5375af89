use Rattle.std.proofs.Common.{◌∙◌, length, refl, sym}
use Rattle.std.proofs.lemmas.Option.{slice_get_read}
use Rattle.cu_toplevel.proofs.EntityLemmas.{all_before, start_before}
use Rattle.cu_toplevel.proofs.entities.Entities.counts_before.Goals as goal

pub returns-in-Some : goal.returns-in-Some
returns-in-Some c = λ names modules has.
    let found = rw c.deref.ensures.value at c.in-Some.ensures.lookup in
    let starts = c.args.self.now.starts.items in
    let there = slice_get_read starts (length starts) c.args.module c.in-Some.start.now refl found.3.0 found.1 in
    start_before modules starts c.args.module c.in-Some.start.now has.counted has.starts there

pub returns-in-None : goal.returns-in-None
returns-in-None c = λ names modules has.
    let found = rw c.deref.ensures.value at c.in-None.ensures.lookup in
    c.counts.ensures names modules has ∙ all_before modules c.args.self.now.starts.items c.args.module has.counted (sym found.0)
