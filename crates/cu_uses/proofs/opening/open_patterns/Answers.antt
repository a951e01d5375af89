use Rattle.std.proofs.Common.{[], List, subst}
use Rattle.cu_entities.specs.Entities.{Values}
use Rattle.cu_syntax.specs.declared.name.Name.{Name}
use Rattle.cu_uses.specs.Gathered.{Adds, patterns_bind, patterns_build}
use Rattle.cu_uses.proofs.BlockLemmas.{found_owned}
use Rattle.cu_uses.proofs.ListLemmas.{used_found}
use Rattle.cu_uses.proofs.opening.open_patterns.Goals as goal

pub returns : goal.returns
returns c w local sees is =
    let finds = c.in_ok-patterns.ensures w.owner w.names is in
    record {
      variables = subst (λ xs. Adds w.owner w.names xs (patterns_bind w.names c.args.ps.now) c.patterns.new.found.variables.items) c.new-found.ensures.variables finds.variables;
      told = used_found w Values c.new-found.result.constructors.items c.patterns.new.found.constructors.items c.as_slice.result.now (patterns_build w.names c.args.ps.now) c.args.first.now c.use_entities.new.first
          c.new-found.ensures.constructors c.as_slice.ensures.value finds.constructors
          (c.use_entities.ensures w local sees
          (found_owned w.owner w.names c.new-found.result.constructors.items c.patterns.new.found.constructors.items c.as_slice.result.now (patterns_build w.names c.args.ps.now) c.new-found.ensures.constructors c.as_slice.ensures.value finds.constructors));
    }
