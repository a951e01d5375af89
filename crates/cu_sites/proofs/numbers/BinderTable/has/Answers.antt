use Rattle.std.proofs.Common.{◌∙◌, ap, is_some}
use Rattle.cu_sites.proofs.InsideLemmas.{some_found}
use Rattle.cu_sites.proofs.numbers.BinderTable.has.Goals as goal
use Rattle.cu_sites.specs.Numbered.{same_binder}

pub returns : goal.returns
returns c binders is =
    c.is_some.ensures
    ∙ some_found (same_binder c.args.binder) binders c.get.result _ c.get.ensures.value (ap is_some (is.found c.args.binder))
