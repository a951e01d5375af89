use Rattle.std.proofs.Common.{nat_eq}
use Rattle.indexmap.specs.IndexMap.{get}
use Rattle.cu_types.proofs.Environments.{bound_in}
use Rattle.cu_types.proofs.variables.Variables.bind.Goals as goal

pub returns-clause-bound : goal.returns-clause-bound
returns-clause-bound c =
    bound_in (get nat_eq c.args.self.now.numbers) (get nat_eq c.insert.new.self) c.args.x c.args.number c.in_ok-insert.ensures.updates.0
