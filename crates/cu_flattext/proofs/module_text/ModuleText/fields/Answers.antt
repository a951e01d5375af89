use Rattle.std.proofs.Common.{◌∙◌}
use Rattle.cu_flattext.specs.Inside.Stands.{lowered_of}
use Rattle.cu_flattext.proofs.FieldLemmas.{fields_listed}
use Rattle.cu_flattext.proofs.module_text.ModuleText.fields.Goals as goal

pub returns : goal.returns
returns c =
    c.in_ok-types.ensures
    ∙ fields_listed (lowered_of c.args.self.now.wording) c.args.arity c.synonyms.result.now c.as_slice.result.now c.args.c.now.fields.items
    c.synonyms.ensures.synonyms c.as_slice.ensures.value
