use Rattle.std.proofs.Common.{refl}
use Rattle.cu_sites.proofs.grouping.Grouping.begin.Goals as goal

pub returns-clause-last : goal.returns-clause-last
returns-clause-last c = record { group = record { first = c.args.rule; others = c.new.result }; is = refl; first = refl; others = c.new.ensures.items }
