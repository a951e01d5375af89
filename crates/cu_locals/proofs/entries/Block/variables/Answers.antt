use Rattle.std.proofs.Common.{None, refl}
use Rattle.cu_locals.proofs.EntryLemmas.{brings_variables}
use Rattle.cu_locals.proofs.entries.Block.variables.Goals as goal

pub returns : goal.returns
returns c t all =
    brings_variables t c.args.self.now (record { entries = c.extend_from_slice.new.self; begun = None }) c.args.names.now c.in_ok-found.found.items c.as_slice.result.now (c.in_ok-found.ensures t all)
    c.as_slice.ensures.value c.in_ok-extend_from_slice.ensures.items refl
