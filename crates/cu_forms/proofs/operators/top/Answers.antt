use Rattle.std.proofs.Common.{◌≡◌, ◌∙◌, ap, arith, length, sym}
use Rattle.cu_forms.specs.Operands.{first_term, operand_meaning}
use Rattle.cu_forms.proofs.CallLemmas.{if_ok}
use Rattle.cu_forms.proofs.OperatorLemmas.{nothing_on_stack}
use Rattle.cu_forms.proofs.PatternLemmas.{top_of}
use Rattle.cu_forms.proofs.operators.top.Goals as goal

pub returns-in-Some : goal.returns-in-Some
returns-in-Some c = ap first_term (sym (top_of operand_meaning c.pop.new.self.items c.args.stack.items c.in-Some.whole c.in-Some.ensures.items))

pub returns : goal.returns
returns c =
    let empty : length c.args.stack.items ≡ 0 = omega (arith, c.in-None.ensures.cases.0) in
    if_ok c.no_term.result (λ t e. e ∙ nothing_on_stack c.args.stack.items empty) c.no_term.ensures
