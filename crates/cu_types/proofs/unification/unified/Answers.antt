use Rattle.std.proofs.Common.{map}
use Rattle.cu_types.proofs.unification.unified.Goals as goal
use Rattle.cu_types.specs.Meaning.{equation_of}

pub solved-requires-clause-reader : goal.solved-requires-clause-reader
solved-requires-clause-reader c = c.in_ok-pairs.ensures.reader

pub solved-requires-clause-stand : goal.solved-requires-clause-stand
solved-requires-clause-stand c = (map equation_of c.args.equations.now, c.in_ok-pairs.ensures.read)

pub returns : goal.returns
returns c = c.in_ok-outcome.ensures (map equation_of c.args.equations.now) c.in_ok-pairs.ensures.read
