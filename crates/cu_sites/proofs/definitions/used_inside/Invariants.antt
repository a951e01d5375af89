use Rattle.std.proofs.Common.{List, [], drop}
use Rattle.std.specs.List.{flat_map}
use Rattle.cu_translation.specs.declared.local_names.Local.{Local}
use Rattle.cu_translation.specs.Dependencies.{is_bound_outside}
use Rattle.cu_sites.specs.Inside.Defining.{declared_in}
use Rattle.cu_sites.specs.Inside.Using.{Finds, usages_meaning}
use Rattle.cu_sites.proofs.InsideLemmas.{deep_left}
use Rattle.cu_sites.proofs.definitions.used_inside.Given as goal

abbrev pub invariant-loop-usage : goal.invariant-loop-usage
invariant-loop-usage l =
    (end : List Local)
    → Finds l.found.items (deep_left (is_bound_outside (flat_map declared_in (usages_meaning l.inside))) l.depth (drop l.usage-index l.inside)) end
    → Finds [] (deep_left (is_bound_outside (flat_map declared_in (usages_meaning l.inside))) l.depth l.inside) end
