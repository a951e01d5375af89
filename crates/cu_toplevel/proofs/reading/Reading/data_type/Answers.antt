use Rattle.std.proofs.Common.{map}
use Rattle.cu_kernel.specs.KernelOf.{constructor_meaning}
use Rattle.cu_toplevel.proofs.ReadingLemmas.{data_type_is}
use Rattle.cu_toplevel.proofs.reading.Reading.data_type.Goals as goal

pub returns : goal.returns
returns c = λ names r text has is.
    data_type_is names r c.args.self.now.number c.args.name text c.args.arity c.is_public.result (map constructor_meaning c.args.constructors.items) has.table has.number is (c.is_public.ensures names r text has is)
