use Rattle.std.proofs.Common.{◌∙◌, ap, map}
use Rattle.cu_kernel.specs.KernelOf.{constructor_meaning}
use Rattle.cu_toplevel.specs.Surrounding.{type_text}
use Rattle.cu_translation.specs.ModuleTypes.{data_type}
use Rattle.cu_toplevel.proofs.first_types.literal_type.Goals as goal

pub returns : goal.returns
returns c = λ names r has.
    let text = type_text c.args.what in
    c.data_type.ensures names r text has (c.type_number-name.ensures names r.names has.top)
    ∙ ap (λ cs. data_type r text 0 (map constructor_meaning cs)) c.new.ensures.items
