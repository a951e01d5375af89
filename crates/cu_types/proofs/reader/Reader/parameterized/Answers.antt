use Rattle.std.proofs.Common.{List}
use Rattle.cu_kernel.specs.TypeExpr.{TypeExpr}
use Rattle.cu_types.proofs.BuiltInLemmas.{data_read}
use Rattle.cu_types.proofs.reader.Reader.parameterized.Goals as goal
use Rattle.cu_types.specs.BuiltInTypes.{data_type, variables_from}
use Rattle.cu_types.specs.Inside.Reading.{shapes}

pub apply-requires-clause-within : goal.apply-requires-clause-within
apply-requires-clause-within c = c.in_ok-places.ensures.read.within

pub returns-clause-read : goal.returns-clause-read
returns-clause-read c =
    data_read (shapes c.args.self.now) (shapes c.variables_below.new.self) (shapes c.apply.new.self) c.in_ok-place.place
    (variables_from 0 c.args.arity) c.in_ok-places.places.items (λ (ts : List TypeExpr). data_type c.args.of_type.0 ts)
    c.in_ok-places.ensures.read c.in_ok-place.ensures.read
