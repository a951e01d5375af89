use Rattle.std.proofs.Common.{map, subst, arith}
use Rattle.cu_kernel.specs.TypeExpr as type
use Rattle.cu_kernel.specs.TypeExpr.{TypeExpr}
use Rattle.cu_types.proofs.reader.Reader.expand_synonym.Goals as goal
use Rattle.cu_types.specs.Inside.Reading.{Reads, shapes}
use Rattle.cu_types.specs.Synonyms.{for_parameters}
use Rattle.cu_types.specs.Table.{at, trees}
use Rattle.cu_types.specs.Types.{apply}

pub returns-in_ok-place-in-Some-clause-read : goal.returns-in_ok-place-in-Some-clause-read
returns-in_ok-place-in-Some-clause-read c =
    subst (λ (t : TypeExpr). Reads (shapes c.args.self.now) (shapes c.add.new.self)
    (apply (for_parameters (map (at (trees (shapes c.args.self.now))) c.args.arguments.now)) t) c.in_ok-place-in-Some.place)
    (c.in-Some.ensures.lookup.4 (omega arith) (type.Variable 0)) c.in_ok-place-in-Some.ensures.read

pub returns-in_ok-place-in-None-clause-read : goal.returns-in_ok-place-in-None-clause-read
returns-in_ok-place-in-None-clause-read c =
    subst (λ (t : TypeExpr). Reads (shapes c.args.self.now) (shapes c.parameter.new.self)
    (apply (for_parameters (map (at (trees (shapes c.args.self.now))) c.args.arguments.now)) t) c.in_ok-place-in-None.place)
    (c.in-None.ensures.lookup.4 (omega arith) (type.Variable 0)) c.in_ok-place-in-None.ensures.read
