use Rattle.cu_verdict.proofs.AnswerLaws.{one_answer}
use Rattle.cu_verdict.proofs.laws.proofs_prove_one_answer.Goals as goal

pub returns-clause-bindings : goal.returns-clause-bindings
returns-clause-bindings c = λ program goal claims steps bindings others v w a b. (one_answer program goal claims steps bindings others v w a b).0

pub returns-clause-value : goal.returns-clause-value
returns-clause-value c = λ program goal claims steps bindings others v w a b. (one_answer program goal claims steps bindings others v w a b).1
