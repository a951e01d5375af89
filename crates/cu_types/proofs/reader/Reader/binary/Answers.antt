use Rattle.cu_kernel.specs.TypeExpr as type
use Rattle.cu_types.proofs.BuiltInLemmas.{read_within, reads_arrow}
use Rattle.cu_types.proofs.reader.Reader.binary.Goals as goal
use Rattle.cu_types.specs.Inside.Building.{simple_type}
use Rattle.cu_types.specs.Inside.Reading.{shapes}

pub arrow-requires-clause-left : goal.arrow-requires-clause-left
arrow-requires-clause-left c = c.in_ok-left.ensures.read.within

pub arrow-requires-clause-right : goal.arrow-requires-clause-right
arrow-requires-clause-right c =
    read_within (shapes c.args.self.now) (shapes c.unary.new.self) (shapes c.simple.new.self)
    (type.Arrow (simple_type c.args.argument) (simple_type c.args.value)) (simple_type c.args.argument) c.in_ok-right.right
    c.in_ok-left.left c.in_ok-right.ensures.read c.in_ok-left.ensures.read

pub returns-clause-read : goal.returns-clause-read
returns-clause-read c =
    reads_arrow (shapes c.args.self.now) (shapes c.unary.new.self) (shapes c.simple.new.self) (shapes c.arrow.new.self)
    (simple_type c.args.argument) (type.Arrow (simple_type c.args.argument) (simple_type c.args.value)) c.in_ok-right.right
    c.in_ok-left.left c.in_ok-place.place c.in_ok-right.ensures.read c.in_ok-left.ensures.read c.in_ok-place.ensures.read
