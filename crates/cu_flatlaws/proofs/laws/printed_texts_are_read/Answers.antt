use Rattle.cu_flatlaws.proofs.ReadLemmas.{is_faultless, is_one, is_text}
use Rattle.cu_flatlaws.proofs.laws.printed_texts_are_read.Goals as goal

pub returns : goal.returns
returns c = record {
  text = is_text;
  one = is_one c.texts_are_of_one_module.ensures;
  faultless = is_faultless;
}
