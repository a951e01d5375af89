use Rattle.cu_machine.proofs.Strides.{answer_depth, answer_listed}
use Rattle.cu_machine.proofs.laws.answers_are_listed.Goals as goal

pub returns : goal.returns
returns c = record {
  depth = λ code limits start state steps reading. answer_depth code limits start steps state reading;
  place = λ code limits start state round before reading. answer_listed code limits start round before state reading;
}
