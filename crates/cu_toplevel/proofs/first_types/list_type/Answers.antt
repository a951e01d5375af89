use Rattle.std.proofs.Common.{◌∙◌, ◌∷◌, [], ap, map, codes}
use Rattle.cu_kernel.specs.KernelOf.{constructor_meaning}
use Rattle.cu_kernel.specs.TypesOf.{type_of}
use Rattle.cu_translation.specs.ModuleTypes.{constructor, data_type}
use Rattle.cu_toplevel.proofs.first_types.list_type.Goals as goal

pub returns : goal.returns
returns c = λ names r has.
    let text = codes "[]" in
    let named = c.type_number-name.ensures names r.names has.top in
    let empty = c.constructor-empty.ensures names r text has named ∙ ap (λ ts. constructor r text (map type_of ts)) c.new.ensures.items in
    c.data_type.ensures names r text has named
    ∙ ap (data_type r text 1) (ap (map constructor_meaning) c.in_ok-constructors.ensures.items ∙ λ j. empty j ∷ c.in_ok-longer.ensures names r has j ∷ [])
