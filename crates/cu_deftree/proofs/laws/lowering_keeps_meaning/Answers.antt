use Rattle.cu_deftree.proofs.FlatIsValid.{flat_valid}
use Rattle.cu_deftree.proofs.Meaning.{proved_converse, proved_too}
use Rattle.cu_deftree.proofs.laws.lowering_keeps_meaning.Goals as goal

pub returns : goal.returns
returns c = λ program flat claims f vs v valid flattens. (
  proved_too program flat claims flattens valid (flat_valid program flat valid flattens) f vs v,
  proved_converse program flat claims flattens valid f vs v,
)
