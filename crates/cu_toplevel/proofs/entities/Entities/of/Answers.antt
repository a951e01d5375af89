use Rattle.std.proofs.Common.{[]}
use Rattle.cu_toplevel.proofs.entities.Entities.of.Goals as goal

pub returns : goal.returns
returns c = c.in_ok-add_modules.ensures [] c.in_ok-entities.ensures
