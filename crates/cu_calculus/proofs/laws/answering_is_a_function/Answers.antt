use Rattle.cu_calculus.proofs.Answering.{answered_answers, answers_answered, same_value_from, value_is}
use Rattle.cu_calculus.proofs.laws.answering_is_a_function.Goals as goal

pub returns : goal.returns
returns c = record {
  same = λ program operation us v. (answers_answered program operation us v, answered_answers program operation us v);
  values = λ u v. (value_is u v, same_value_from u v);
}
