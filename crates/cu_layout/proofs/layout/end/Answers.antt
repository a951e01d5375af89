use Rattle.std.proofs.Common.{sym}
use Rattle.cu_layout.proofs.PartnerLemmas.{lays-nothing}
use Rattle.cu_layout.proofs.layout.end.Goals as goal

pub returns-then-not-goes_on-clause-ok : goal.returns-then-not-goes_on-clause-ok
returns-then-not-goes_on-clause-ok c = lays-nothing c.args.sight.form c.args.sight.place c.args.laid.now.items c.args.stack.now.items (sym c.if-not-goes_on.ensures)
