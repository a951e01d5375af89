use Rattle.std.proofs.Common.{◌∙◌, ◌++◌, ap, append-nil, map, sym, take_all}
use Rattle.cu_kernel.specs.KernelOf.{type_meaning}
use Rattle.cu_translation.specs.ModuleTypes.{tuple_type}
use Rattle.cu_toplevel.proofs.TypeLemmas.{pushed_more}
use Rattle.cu_toplevel.proofs.first_types.add_tuples.Goals as goal

pub sizes-init : goal.sizes-init
sizes-init c = λ names r has. sym (append-nil (map type_meaning c.args.types.now.items))

pub sizes-preserved : goal.sizes-preserved
sizes-preserved c = λ names r has.
    pushed_more type_meaning (tuple_type r) (map type_meaning c.args.types.now.items) c.args.sizes.now c.sizes.components-index 0 c.sizes.types.items c.push.new.self.items c.in_ok-made.made c.sizes-test.true
    c.in_ok-push.ensures.items (c.in_ok-made.ensures names r has) (c.sizes.invariant names r has)

pub returns : goal.returns
returns c = λ names r has.
    c.sizes.invariant names r has ∙ ap (λ xs. map type_meaning c.args.types.now.items ++ map (tuple_type r) xs) (take_all c.sizes.components-index c.args.sizes.now c.sizes-test.false)
