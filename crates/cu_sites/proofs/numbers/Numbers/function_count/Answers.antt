use Rattle.std.proofs.Common.{◌∙◌, ap, length, sym}
use Rattle.std.proofs.lemmas.List.{length-map}
use Rattle.cu_translation.specs.Meaning.{position_meaning}
use Rattle.cu_sites.proofs.numbers.Numbers.function_count.Goals as goal

pub returns : goal.returns
returns c binders functions has = has.functions_counted.counted ∙ sym (length-map has.place_keys position_meaning) ∙ ap length has.functions_are
