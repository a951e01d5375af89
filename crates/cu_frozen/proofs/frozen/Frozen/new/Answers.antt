use Rattle.std.proofs.Common.{map, sym, subst}
use Rattle.std.specs.Arc.{arc_value}
use Rattle.cu_frozen.specs.Layers.{AreFrozen}
use Rattle.cu_frozen.proofs.Stacks.{none_are_frozen}
use Rattle.cu_frozen.proofs.frozen.Frozen.new.Goals as goal

pub invariant_of-result : goal.invariant_of-result
invariant_of-result c = subst (λ items. AreFrozen (map arc_value items)) (sym c.new.ensures.items) none_are_frozen
