use Rattle.cu_entities.specs.Entities.{Types}
use Rattle.cu_uses.specs.Binders.{texts}
use Rattle.cu_uses.specs.Demands.{used}
use Rattle.cu_uses.specs.Gathered.{types_bind, types_build}
use Rattle.cu_uses.proofs.TopLemmas.{from_empty, lacks, told_added, types_told}
use Rattle.cu_uses.proofs.item_uses.types_uses.Goals as goal

pub returns : goal.returns
returns c w local names sees has all =
    let finds = c.in_ok-types.ensures w.owner w.names all in
    types_told w names c.args.ts.now c.args.first.now c.use_entities.new.first c.tell_missing.new.first
    (told_added (used Types) w (types_build w.names c.args.ts.now) c.types.new.found.constructors.items c.as_slice.result.now c.args.first.now c.use_entities.new.first c.as_slice.ensures.value
    (from_empty w.owner w.names c.new-found.result.constructors.items c.types.new.found.constructors.items (types_build w.names c.args.ts.now) c.new-found.ensures.constructors finds.constructors)
    (c.use_entities.ensures w local sees))
    (told_added (lacks (texts names)) w (types_bind w.names c.args.ts.now) c.types.new.found.variables.items c.as_slice-2.result.now c.use_entities.new.first c.tell_missing.new.first c.as_slice-2.ensures.value
    (from_empty w.owner w.names c.new-found.result.variables.items c.types.new.found.variables.items (types_bind w.names c.args.ts.now) c.new-found.ensures.variables finds.variables)
    (c.tell_missing.ensures w (texts names) has))
