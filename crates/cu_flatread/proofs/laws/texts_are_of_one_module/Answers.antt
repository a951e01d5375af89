use Rattle.cu_flatread.proofs.WholeLaws.{one_text}
use Rattle.cu_flatread.proofs.laws.texts_are_of_one_module.Goals as goal

pub returns : goal.returns
returns c = λ bytes flat other t u. one_text bytes flat other t u
