use Rattle.cu_declared.specs.Inside.Gathered.{use_meaning}
use Rattle.cu_declared.proofs.ArityLemmas.{right_told, wrong_told}
use Rattle.cu_declared.proofs.arities.tell_arity.Goals as goal

pub returns-then-is_wrong : goal.returns-then-is_wrong
returns-then-is_wrong c w numbers at of have =
    wrong_told w numbers (use_meaning w.names c.args.used) c.is_wrong.result c.args.first.now c.tell.new.self (c.is_wrong.ensures w numbers at of have) c.if-is_wrong.true
    (λ faults told. c.tell.ensures w.owner w.names faults (record { place = of.place; name = tt }) told)

pub returns-else-is_wrong : goal.returns-else-is_wrong
returns-else-is_wrong c w numbers at of have =
    right_told w numbers (use_meaning w.names c.args.used) c.is_wrong.result c.args.first.now (c.is_wrong.ensures w numbers at of have) c.if-is_wrong.false
