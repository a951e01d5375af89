use Rattle.cu_translation.specs.Meaning.{built_in_text}
use Rattle.cu_forms.proofs.ListLemmas.{constant_is}
use Rattle.cu_forms.proofs.lists.constant.Goals as goal

pub returns : goal.returns
returns g c w tells =
    constant_is w.around.names (built_in_text c.args.what) c.prelude.result c.constructor_of.result c.new.result c.constructor_of.ensures (c.prelude.ensures w tells) c.new.ensures.items
