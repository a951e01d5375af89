use Rattle.std.proofs.Common.{map, subst}
use Rattle.cu_kernel.specs.TypeExpr.{TypeExpr}
use Rattle.cu_types.proofs.SynonymLemmas.{arrow_expanded, named_expanded}
use Rattle.cu_types.proofs.reader.Reader.expand_head.Goals as goal
use Rattle.cu_types.specs.Inside.Reading.{Reads, shapes}
use Rattle.cu_types.specs.Table.{at, trees}

pub returns-in_ok-place-in-Arrow-clause-read : goal.returns-in_ok-place-in-Arrow-clause-read
returns-in_ok-place-in-Arrow-clause-read c =
    subst (λ (t : TypeExpr). Reads (shapes c.args.self.now) (shapes c.apply.new.self) t c.in_ok-place-in-Arrow.place)
    (arrow_expanded (at c.args.synonyms.now) c.args.head (map (at (trees (shapes c.args.self.now))) c.args.arguments.items) c.in-Arrow.is)
    c.in_ok-place-in-Arrow.ensures.read

pub returns-in_ok-place-in-Named-clause-read : goal.returns-in_ok-place-in-Named-clause-read
returns-in_ok-place-in-Named-clause-read c =
    subst (λ (t : TypeExpr). Reads (shapes c.args.self.now) (shapes c.expand_name.new.self) t c.in_ok-place-in-Named.place)
    (named_expanded (at c.args.synonyms.now) c.args.head c.in-Named.name (map (at (trees (shapes c.args.self.now))) c.args.arguments.items)
    c.in-Named.is)
    c.in_ok-place-in-Named.ensures.read
