use Rattle.std.proofs.Common.{◌∙◌, [], ap, arith}
use Rattle.std.specs.Prelude.{codes}
use Rattle.cu_modules.specs.BuiltInEntities.{prelude_name, set_functions_name}
use Rattle.cu_names.proofs.Growth.{known_at, text_of-at}
use Rattle.cu_names.specs.Texts.{text_of}
use Rattle.cu_translation.specs.ModuleNames.{value_of}
use Rattle.cu_translation.specs.Parts.{constructor_alone}
use Rattle.cu_toplevel.proofs.SpecialLemmas.{one_of_prelude}
use Rattle.cu_toplevel.proofs.entities.Entities.special.Goals as goal

pub found-set_functions-requires : goal.found-set_functions-requires
found-set_functions-requires c = c.requires.built_in.modules 1 [] (omega arith)

pub returns : goal.returns
returns c = λ modules has.
    let names = c.args.names.now in
    let own = text_of names c.args.self.now.prelude in
    let known = has.prelude.known in
    let sets = c.found-set_functions in
    let falsity = one_of_prelude modules own (codes "False") prelude_name c.constructor_in.result c.or_first.result has.prelude.is c.or_first.ensures (c.constructor_in.ensures modules known has) in
    let truth = one_of_prelude modules own (codes "True") prelude_name c.constructor_in-2.result c.or_first-2.result has.prelude.is c.or_first-2.ensures (c.constructor_in-2.ensures modules known has) in
    let nil = one_of_prelude modules own (codes "[]") prelude_name c.constructor_in-3.result c.or_first-3.result has.prelude.is c.or_first-3.ensures (c.constructor_in-3.ensures modules known has) in
    let cons = one_of_prelude modules own (codes ":") prelude_name c.constructor_in-4.result c.or_first-4.result has.prelude.is c.or_first-4.ensures (c.constructor_in-4.ensures modules known has) in
    let both = c.prelude_function.ensures modules has in
    let values = c.constructor_in-5.ensures modules (known_at names sets.result set_functions_name sets.ensures) has
    ∙ ap (λ o. constructor_alone (value_of modules o (codes "Values"))) (text_of-at names sets.result set_functions_name sets.ensures) in
    λ j. record { falsity = falsity j; truth = truth j; nil = nil j; cons = cons j; both = both j; values = values j }
