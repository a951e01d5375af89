use Rattle.std.proofs.Common.{◌∙◌, ap, length, sym}
use Rattle.std.proofs.lemmas.List.{length-map}
use Rattle.cu_translation.specs.Meaning.{binder_meaning}
use Rattle.cu_sites.proofs.numbers.Numbers.variable_count.Goals as goal

pub returns : goal.returns
returns c binders functions has = has.variables_counted.counted ∙ sym (length-map has.binder_keys binder_meaning) ∙ ap length has.variables_are
