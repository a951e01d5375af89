use Rattle.std.proofs.Common.{map}
use Rattle.cu_kernel.specs.TypesOf.{type_of}
use Rattle.cu_toplevel.proofs.ReadingLemmas.{constructor_is}
use Rattle.cu_toplevel.proofs.reading.Reading.constructor.Goals as goal

pub returns : goal.returns
returns c = λ names r text has is.
    constructor_is names r c.args.name text c.is_public.result (map type_of c.args.fields.items) has.table is (c.is_public.ensures names r text has is)
