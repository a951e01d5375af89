use Rattle.std.proofs.Common.{refl, rules}
use Rattle.cu_sites.proofs.numbers.BinderTable.new.Goals as goal

pub returns : goal.returns
returns c = record { counted = refl; found = λ key. search (rules, c.new.ensures.empty) }
