use Rattle.std.proofs.Common.{◌≡◌, map, reverse, subst, sym}
use Rattle.std.specs.Prelude.{OnOk}
use Rattle.cu_forms.specs.Operands.{item_meaning, operand_meaning, operated}
use Rattle.cu_forms.specs.declared.operators.OperandItem.{OperandItem}
use Rattle.cu_forms.proofs.operators.place.Goals as goal

pub returns-in-Operator : goal.returns-in-Operator
returns-in-Operator g c w tells =
    subst
    (λ (i : OperandItem). OnOk c.operate.result (map operand_meaning (reverse c.operate.new.stack.items) ≡ operated w.around.names (item_meaning i) (map operand_meaning (reverse c.args.stack.now.items))))
    (sym c.in-Operator.is) (c.operate.ensures w.around.names)
