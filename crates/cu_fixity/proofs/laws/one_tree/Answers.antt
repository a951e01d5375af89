use Rattle.std.proofs.Common.{sym, ◌∙◌}
use Rattle.cu_fixity.proofs.OneTree as one
use Rattle.cu_fixity.proofs.laws.one_tree.Goals as goal

pub returns : goal.returns
returns g c = λ fixity items tree another g h. one.one_tree fixity tree another g.fits h.fits (g.flattens ∙ sym h.flattens)
