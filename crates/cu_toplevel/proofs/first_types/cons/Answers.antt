use Rattle.std.proofs.Common.{◌∙◌, ◌∷◌, [], ap, map, codes}
use Rattle.cu_kernel.specs.TypesOf.{type_of, type_of-Var}
use Rattle.cu_translation.specs.ModuleTypes.{constructor, list_of}
use Rattle.cu_toplevel.proofs.first_types.cons.Goals as goal

pub returns : goal.returns
returns c = λ names r has.
    let others = c.in_ok-others.ensures names r.names has.top ∙ ap (list_of r.names) (type_of-Var 0) in
    c.constructor.ensures names r (codes ":") has (c.value_number-name.ensures names r.names has.top)
    ∙ ap (constructor r (codes ":")) (ap (map type_of) c.in_ok-fields.ensures.items ∙ λ j. type_of-Var 0 j ∷ others j ∷ [])
