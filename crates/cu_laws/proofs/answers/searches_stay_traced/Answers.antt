use Rattle.cu_laws.proofs.TracedStates.{next_traced}
use Rattle.cu_laws.proofs.answers.searches_stay_traced.Goals as goal

pub returns : goal.returns
returns c = record { start = λ program limits goal. tt; next = next_traced }
