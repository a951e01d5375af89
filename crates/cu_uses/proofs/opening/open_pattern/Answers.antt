use Rattle.std.proofs.Common.{[], List, subst}
use Rattle.cu_entities.specs.Entities.{Values}
use Rattle.cu_syntax.specs.declared.name.Name.{Name}
use Rattle.cu_uses.specs.Gathered.{Adds, pattern_binds, pattern_builds}
use Rattle.cu_uses.proofs.BlockLemmas.{found_owned}
use Rattle.cu_uses.proofs.ListLemmas.{used_found}
use Rattle.cu_uses.proofs.opening.open_pattern.Goals as goal

pub returns : goal.returns
returns c w local sees is =
    let finds = c.in_ok-pattern.ensures w.owner w.names is in
    record {
      variables = subst (λ xs. Adds w.owner w.names xs (pattern_binds w.names c.args.p) c.pattern.new.found.variables.items) c.new-found.ensures.variables finds.variables;
      told = used_found w Values c.new-found.result.constructors.items c.pattern.new.found.constructors.items c.as_slice.result.now (pattern_builds w.names c.args.p) c.args.first.now c.use_entities.new.first
          c.new-found.ensures.constructors c.as_slice.ensures.value finds.constructors
          (c.use_entities.ensures w local sees
          (found_owned w.owner w.names c.new-found.result.constructors.items c.pattern.new.found.constructors.items c.as_slice.result.now (pattern_builds w.names c.args.p) c.new-found.ensures.constructors c.as_slice.ensures.value finds.constructors));
    }
