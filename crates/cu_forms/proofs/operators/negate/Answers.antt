use Rattle.std.proofs.Common.{◌≡◌, arith, length}
use Rattle.cu_forms.proofs.OperatorLemmas.{operated_none, operated_one}
use Rattle.cu_forms.proofs.operators.negate.Goals as goal

pub returns-in_ok-push : goal.returns-in_ok-push
returns-in_ok-push g c w tells =
    operated_one w.around.names c.in_ok-term.term c.args.stack.now.items c.pop.new.self.items c.push.new.self.items c.in-Some.operand c.plain.result
    (c.in_ok-term.ensures w tells) c.plain.ensures c.in-Some.ensures.items c.in_ok-push.ensures.items

pub returns-in_default : goal.returns-in_default
returns-in_default g c w tells =
    let none : length c.args.stack.now.items ≡ 0 = omega (arith, c.in_default.ensures.cases.0) in
    operated_none w.around.names c.args.stack.now.items c.pop.new.self.items none c.in_default.ensures.items
