use Rattle.std.proofs.Common.{◌∙◌, ◌++◌, ap}
use Rattle.cu_uses.specs.Gathered.{names_meaning}
use Rattle.cu_forms.specs.Forms.{free_form}
use Rattle.cu_forms.proofs.BlockLemmas.{free_all, free_end, free_more, frees_of}
use Rattle.cu_forms.proofs.entries.free_names.Goals as goal

pub loop-d-init : goal.loop-d-init
loop-d-init c names = ap (λ xs. names_meaning names xs ++ frees_of names c.args.ds.now) c.new-free.ensures.items ∙ free_all names c.args.ds.now

pub loop-d-preserved : goal.loop-d-preserved
loop-d-preserved c names =
    free_more names c.args.ds.now c.loop-d.d-index c.d-item.result c.loop-d.free.items c.add_free.new.free.items (free_form names c.args.ds.now) c.loop-d-test.true c.d-item.is
    (c.in_ok-add_free.ensures names) (c.loop-d.invariant names)

pub returns : goal.returns
returns c names = free_end names c.args.ds.now c.loop-d.d-index c.loop-d.free.items (free_form names c.args.ds.now) c.loop-d-test.false (c.loop-d.invariant names)
