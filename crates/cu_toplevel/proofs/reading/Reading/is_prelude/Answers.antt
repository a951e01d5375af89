use Rattle.std.proofs.Common.{◌∙◌}
use Rattle.cu_toplevel.proofs.ReadingLemmas.{prelude_is}
use Rattle.cu_toplevel.proofs.reading.Reading.is_prelude.Goals as goal

pub returns : goal.returns
returns c = λ names r has. c.eq.ensures ∙ prelude_is names r c.args.self.now c.name.result has c.name.ensures
