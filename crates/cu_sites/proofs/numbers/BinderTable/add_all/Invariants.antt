use Rattle.std.proofs.Common.{◌++◌, List, take}
use Rattle.cu_translation.specs.declared.local_names.Binder as code
use Rattle.cu_sites.proofs.numbers.BinderTable.add_all.Given as goal
use Rattle.cu_sites.specs.Numbered.{IsBinderTable}

abbrev pub invariant-loop-binder : goal.invariant-loop-binder
invariant-loop-binder l = (before : List code.Binder) → IsBinderTable before l.fn.self → IsBinderTable (before ++ take l.binder-index l.binders) l.self
