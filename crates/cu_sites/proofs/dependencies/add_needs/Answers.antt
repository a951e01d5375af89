use Rattle.std.proofs.Common.{ap, arith, get_or, List}
use Rattle.cu_translation.specs.declared.local_names.Binder.TheVariants as binder
use Rattle.cu_translation.specs.declared.local_names.Local.{Local}
use Rattle.cu_translation.specs.declared.local_names.Local.TheVariants as local
use Rattle.cu_translation.specs.Meaning.{binder_meaning}
use Rattle.cu_sites.proofs.DefinedLemmas.{needs_end, needs_next}
use Rattle.cu_sites.proofs.dependencies.add_needs.Goals as goal

pub loop-used-preserved : goal.loop-used-preserved
loop-used-preserved c binders functions end h rest =
    let items = c.deref-used-items.result.now in
    let i = c.loop-used.used-index in
    let d : Local = local.Variable (binder.At (record { line = 0; column = 0 })) in
    c.loop-used.invariant binders functions end h
    (needs_next binders functions c.args.captured.now (binder_meaning c.args.definition.now.variable) c.args.definition.now.used.items i (get_or items i d) d
    c.loop-used.needs c.add_need.new.needs end (ap (λ (ls : List Local). get_or ls i d) c.deref-used-items.ensures.value) (omega arith)
    (c.in_ok-add_need.ensures binders functions h) rest)

pub returns : goal.returns
returns c binders functions h =
    c.loop-used.invariant binders functions c.loop-used.needs h
    (needs_end binders functions c.args.captured.now (binder_meaning c.args.definition.now.variable) c.args.definition.now.used.items c.loop-used.used-index
    c.loop-used.needs (omega arith))
