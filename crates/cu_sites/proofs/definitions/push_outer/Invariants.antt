use Rattle.std.proofs.Common.{List, drop}
use Rattle.cu_translation.specs.declared.local_names.Binder as code
use Rattle.cu_translation.specs.declared.local_names.Local.{Local}
use Rattle.cu_translation.specs.Dependencies.{is_bound_outside}
use Rattle.cu_sites.specs.Numbered.{IsBinderTable, binders_meaning}
use Rattle.cu_sites.specs.Inside.Using.{Finds}
use Rattle.cu_sites.proofs.InsideLemmas.{outer_left}
use Rattle.cu_sites.proofs.definitions.push_outer.Given as goal

abbrev pub invariant-loop-local : goal.invariant-loop-local
invariant-loop-local l =
    (keys : List code.Binder) (end : List Local) → IsBinderTable keys l.inner
    → Finds l.found.items (outer_left (is_bound_outside (binders_meaning keys)) (drop l.local-index l.used)) end
    → Finds l.fn.found.items (outer_left (is_bound_outside (binders_meaning keys)) l.used) end
