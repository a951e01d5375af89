use Rattle.std.proofs.Common.{[]}
use Rattle.cu_sites.proofs.numbers.BinderTable.of.Goals as goal

pub returns : goal.returns
returns c = c.in_ok-add_all.ensures [] c.new-table.ensures
