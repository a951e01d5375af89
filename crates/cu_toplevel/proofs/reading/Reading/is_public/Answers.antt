use Rattle.std.proofs.Common.{◌∙◌}
use Rattle.cu_toplevel.proofs.ReadingLemmas.{public_is}
use Rattle.cu_toplevel.proofs.reading.Reading.is_public.Goals as goal

pub returns : goal.returns
returns c = λ names r text has is. c.has_own.ensures ∙ public_is names r c.args.self.now c.name.result c.args.space c.args.name text has c.name.ensures is
