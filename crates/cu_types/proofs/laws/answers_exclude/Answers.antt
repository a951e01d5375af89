use Rattle.cu_types.proofs.Exclusions.{broken_refutes, data_or_functional, no_fault, unsolved_or_broken, unsolved_refutes}
use Rattle.cu_types.proofs.laws.answers_exclude.Goals as goal

pub returns : goal.returns
returns c = record {
  solutions = λ kernel i f typed is. unsolved_refutes kernel i f typed is;
  signatures = λ kernel i f typed is. broken_refutes kernel i f typed is;
  goal = λ kernel i is functional. data_or_functional kernel i is functional;
  group = λ kernel f g one two. unsolved_or_broken kernel f g one two;
  faults = λ kernel i a is told. no_fault kernel i a is told;
}
