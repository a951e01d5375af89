use Rattle.std.proofs.Common.{◌++◌}
use Rattle.std.specs.List.{flat_map}
use Rattle.cu_modules.specs.BuiltInEntities.{list_type, single_names, single_type}
use Rattle.cu_modules.proofs.EntityLemmas.{first_added}
use Rattle.cu_modules.proofs.built_in.add_first.Goals as goal

pub add_single_types-requires-clause-there : goal.add_single_types-requires-clause-there
add_single_types-requires-clause-there c = c.requires.built_in.singles

pub add_named-requires-clause-there : goal.add_named-requires-clause-there
add_named-requires-clause-there c = c.requires.built_in.literals

pub returns : goal.returns
returns c = λ before has.
    first_added c.args.names.now before c.args.owner c.add_named-2.result c.add_named.new.entities.items c.add_named-2.new.entities.items c.requires.prelude
    (c.in_ok-add_named.ensures (before ++ list_type ++ flat_map single_type single_names) (c.in_ok-add_single_types.ensures (before ++ list_type) (c.in_ok-add_list.ensures before has)))
    (λ all has. c.add_named-2.ensures all has)
