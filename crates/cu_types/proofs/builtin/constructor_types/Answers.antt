use Rattle.cu_types.proofs.BuiltInLemmas.{constructors_meant}
use Rattle.cu_types.proofs.builtin.constructor_types.Goals as goal

pub returns : goal.returns
returns c =
    constructors_meant c.args.program.now c.args.synonyms.now c.types.result.now c.in_ok-types.types.items c.requires c.types.ensures.types
    c.in_ok-types.ensures
