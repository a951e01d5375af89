use Rattle.std.proofs.Common.{◌∙◌, ◌∷◌, [], ap, map}
use Rattle.cu_kernel.specs.Kernel as kernel
use Rattle.cu_kernel.specs.KernelOf.{constructor_meaning}
use Rattle.cu_translation.specs.Around.{tuple_name}
use Rattle.cu_translation.specs.ModuleTypes.{constructor, data_type}
use Rattle.cu_toplevel.proofs.first_types.tuple_type.Goals as goal

pub returns : goal.returns
returns c = λ names r has.
    let n = c.args.components in
    let text = tuple_name n in
    let named = c.type_number-name.ensures names r.names has.top in
    c.data_type.ensures names r text has named
    ∙ ap (data_type r text n) (ap (map constructor_meaning) c.in_ok-constructors.ensures.items
    ∙ ap (λ (t : kernel.Constructor). t ∷ []) (c.constructor.ensures names r text has named ∙ ap (constructor r text) c.in_ok-fields.ensures))
