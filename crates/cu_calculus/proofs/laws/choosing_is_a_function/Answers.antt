use Rattle.cu_calculus.proofs.Choosing.{again_takes_fewer, chooses_chosen, chooses_one, chosen_chooses, chosen_looks, specialize_takes_fewer}
use Rattle.cu_calculus.proofs.laws.choosing_is_a_function.Goals as goal

pub returns : goal.returns
returns c = record {
  same = λ program rows values choice. (chooses_chosen program rows values choice, chosen_chooses program rows values choice);
  one = chooses_one;
  looks = chosen_looks;
  again = again_takes_fewer;
  specialize = specialize_takes_fewer;
}
