use Rattle.cu_deftree.proofs.Sound.{concludes_converse}
use Rattle.cu_deftree.proofs.laws.lowering_is_sound.Goals as goal

pub returns : goal.returns
returns c = λ program flat claims f vs v valid flattens some given. concludes_converse program flat claims flattens valid f vs v some given
