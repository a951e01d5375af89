use Rattle.cu_locals.proofs.PatternLemmas.{finds_variable}
use Rattle.cu_locals.proofs.declared.Declared.variable.Goals as goal

pub returns : goal.returns
returns c t of =
    finds_variable t c.args.self.now (record { names = c.push.new.self; places = c.push-2.new.self }) c.args.name c.of.result of c.in_ok-push.ensures.items c.in_ok-push-2.ensures.items c.of.ensures
