use Rattle.cu_uses.specs.Gathered.{pattern_binds}
use Rattle.cu_locals.specs.Places.{pattern_places}
use Rattle.cu_locals.proofs.PatternLemmas.{names_found}
use Rattle.cu_locals.proofs.declared.pattern_variables.Goals as goal

pub returns : goal.returns
returns c t of =
    names_found t c.new-found.result c.pattern.new.found (pattern_binds t.names c.args.p) (pattern_places t.names c.args.p) c.new-found.ensures.names (c.in_ok-pattern.ensures t of)
