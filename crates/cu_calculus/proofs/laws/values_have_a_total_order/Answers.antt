use Rattle.cu_calculus.proofs.ValueOrder.{order_from_same, order_same, order_total}
use Rattle.cu_calculus.proofs.laws.values_have_a_total_order.Goals as goal

pub returns : goal.returns
returns c = record { total = order_total; same = λ u v. (order_same u v, order_from_same u v) }
