use Rattle.cu_calculus.proofs.Comparing.{all_compare_compared, all_compared_compare, compared_compares, compares_compared}
use Rattle.cu_calculus.proofs.laws.comparing_is_a_function.Goals as goal

pub returns : goal.returns
returns c = record {
  one = λ u v answer. (compares_compared u v answer, compared_compares u v answer);
  all = λ us vs answer. (all_compare_compared us vs answer, all_compared_compare us vs answer);
}
