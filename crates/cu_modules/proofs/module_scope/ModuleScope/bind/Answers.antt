use Rattle.cu_modules.proofs.BindingLemmas.{one_bound}
use Rattle.cu_modules.proofs.module_scope.ModuleScope.bind.Goals as goal

pub returns : goal.returns
returns c = λ names bindings differ known_qualifier known before.
    one_bound names bindings c.args.self.now (record { table = c.bind.new.self; bound = c.push.new.self }) c.args.qualifier c.args.entity
    (c.in_ok-bind.ensures names bindings differ known_qualifier known before.tells) c.in_ok-push.ensures.items known_qualifier known before
