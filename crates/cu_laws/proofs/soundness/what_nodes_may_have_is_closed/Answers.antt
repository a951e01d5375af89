use Rattle.cu_laws.specs.Good.{AnyValue, NoValue}
use Rattle.cu_laws.proofs.Falling.{may_fall, may_fall_as}
use Rattle.cu_laws.proofs.Rising.{may_rise}
use Rattle.cu_laws.proofs.soundness.what_nodes_may_have_is_closed.Goals as goal

pub returns : goal.returns
returns c = record {
  upward = may_rise NoValue;
  downward = may_fall;
  loosely_upward = may_rise AnyValue;
  loosely_downward = may_fall_as AnyValue (λ v w any low. tt);
}
