use Rattle.std.proofs.Common.{◌≡◌, [], map, reverse, vec_len}
use Rattle.cu_translation.specs.Meaning.{Setting}
use Rattle.cu_forms.specs.Operands.{item_meaning, operand_meaning, operated_on}
use Rattle.cu_forms.proofs.operators.grouped.Given as goal

abbrev pub invariant-loop-item : goal.invariant-loop-item
invariant-loop-item g l = (w : Setting) → g.A.Surroundings.tells l.around w
    → operated_on w.around.names (map item_meaning l.left.items) (map operand_meaning (reverse l.stack.items)) ≡ operated_on w.around.names (map item_meaning l.fn.items.items) []

abbrev pub decreases-loop-item : goal.decreases-loop-item
decreases-loop-item g l = vec_len l.left
