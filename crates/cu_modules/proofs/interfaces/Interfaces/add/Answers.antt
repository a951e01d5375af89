use Rattle.cu_modules.proofs.BindingLemmas.{one_interface}
use Rattle.cu_modules.proofs.interfaces.Interfaces.add.Goals as goal

pub returns : goal.returns
returns c = λ names before entities differ known fresh are is.
    one_interface names before c.args.self.now (record { exports = c.insert.new.self }) c.args.name c.args.exports entities differ known fresh are is
    (λ id. c.in_ok-insert.ensures.updates.0 id)
