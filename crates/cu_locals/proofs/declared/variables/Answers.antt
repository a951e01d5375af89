use Rattle.cu_uses.specs.Gathered.{patterns_bind}
use Rattle.cu_locals.specs.Places.{patterns_place}
use Rattle.cu_locals.proofs.PatternLemmas.{names_found}
use Rattle.cu_locals.proofs.declared.variables.Goals as goal

pub returns : goal.returns
returns c t of =
    names_found t c.new-found.result c.patterns.new.found (patterns_bind t.names c.args.ps.now) (patterns_place t.names c.args.ps.now) c.new-found.ensures.names (c.in_ok-patterns.ensures t of)
