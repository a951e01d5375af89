use Rattle.std.proofs.Common.{length, option_map, refl, sym, ap, ◌∙◌}
use Rattle.std.proofs.lemmas.Option.{slice_get-map, slice_get_past, slice_get_read}
use Rattle.cu_kernel.specs.Heads.{heads_program, shape_meaning}
use Rattle.cu_kernel.proofs.heads.Heads.constructor.Goals as goal

pub returns-in-Some : goal.returns-in-Some
unfolding heads_program
returns-in-Some c =
    let found = rw c.deref.ensures.value at c.in-Some.ensures.lookup in
    let cs = c.args.self.now.constructors.items in
    sym (slice_get-map shape_meaning cs c.args.c.0
    ∙ ap (option_map shape_meaning) (slice_get_read cs (length cs) c.args.c.0 c.in-Some.shape.now refl found.3.0 found.1))

pub returns-in-None : goal.returns-in-None
unfolding heads_program
returns-in-None c =
    let missing = rw c.deref.ensures.value at c.in-None.ensures.lookup in
    let cs = c.args.self.now.constructors.items in
    sym (slice_get-map shape_meaning cs c.args.c.0 ∙ ap (option_map shape_meaning) (slice_get_past cs c.args.c.0 missing.3))
