use Rattle.std.proofs.Common.{subst}
use Rattle.cu_names.specs.Texts.{AllDiffer}
use Rattle.cu_names.proofs.TextLemmas.{texts_differ}
use Rattle.cu_names.proofs.names.Names.count.Goals as goal

pub returns-clause-differ : goal.returns-clause-differ
returns-clause-differ c = subst AllDiffer c.self.view_is (texts_differ c.self.inside.texts.keys c.self.invariant)
