use Rattle.cu_entities.specs.Entities.{Types}
use Rattle.cu_syntax.specs.Names.{name_meaning}
use Rattle.cu_modules.specs.Scopes.{meant, scope}
use Rattle.cu_modules.proofs.ExportLemmas.{of_type, of_variable}
use Rattle.cu_modules.proofs.listing.entity_export.Goals as goal

pub returns-in-Variable : goal.returns-in-Variable
returns-in-Variable c = λ owner names before m differ is own.
    of_variable owner names before m c.args.entity.now c.in-Variable.field-0 c.in-Variable.name c.meant.result c.in-Variable.is own
    (λ owned. c.meant.ensures owner names (scope before m) differ owned is)

pub returns-in_ok-types-in-Type : goal.returns-in_ok-types-in-Type
returns-in_ok-types-in-Type c = λ owner names before m differ is own.
    of_type owner names before m c.args.entity.now c.in-Type.field-0 c.in-Type.name c.in-Type.constructors c.type_exports.result c.in-Type.is own
    (λ owned which. c.type_exports.ensures owner names (scope before m) (meant (scope before m) Types (name_meaning names c.in-Type.name)) differ is
    (c.in_ok-types-in-Type.ensures owner names (scope before m) differ owned is) which)
