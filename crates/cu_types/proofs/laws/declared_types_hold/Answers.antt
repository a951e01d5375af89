use Rattle.cu_types.proofs.DeclaredLemmas.{declared_alone, declared_type}
use Rattle.cu_types.proofs.laws.declared_types_hold.Goals as goal

pub returns : goal.returns
returns c = record {
  functions = λ kernel interface f t is typed none. declared_alone kernel interface f t is typed none;
  local = λ kernel interface f t is typed. declared_type kernel interface f t is typed;
}
