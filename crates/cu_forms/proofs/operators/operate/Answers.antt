use Rattle.cu_forms.proofs.OperatorLemmas.{operated_two}
use Rattle.cu_forms.proofs.operators.operate.Goals as goal

pub returns : goal.returns
returns c names =
    operated_two names c.args.referent c.in_ok-term.term c.in_ok-arguments.arguments.items c.args.stack.now.items c.pop.new.self.items c.pop-2.new.self.items c.push-2.new.self.items c.in-Some.first c.in-Some-pop.second c.plain.result
    c.in_ok-term.ensures c.in_ok-arguments.ensures.items c.plain.ensures c.in-Some.ensures.items c.in-Some-pop.ensures.items c.in_ok-push-2.ensures.items
