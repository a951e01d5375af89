use Rattle.cu_entities.specs.Entities.{Types}
use Rattle.cu_uses.specs.Gathered.{type_builds}
use Rattle.cu_uses.proofs.BlockLemmas.{found_owned}
use Rattle.cu_uses.proofs.ListLemmas.{used_found}
use Rattle.cu_uses.proofs.opening.use_type.Goals as goal

pub returns : goal.returns
returns c w local sees is =
    let finds = c.in_ok-type_term.ensures w.owner w.names is in
    used_found w Types c.new-found.result.constructors.items c.type_term.new.found.constructors.items c.as_slice.result.now (type_builds w.names c.args.t) c.args.first.now c.use_entities.new.first
    c.new-found.ensures.constructors c.as_slice.ensures.value finds.constructors
    (c.use_entities.ensures w local sees
    (found_owned w.owner w.names c.new-found.result.constructors.items c.type_term.new.found.constructors.items c.as_slice.result.now (type_builds w.names c.args.t) c.new-found.ensures.constructors c.as_slice.ensures.value finds.constructors))
