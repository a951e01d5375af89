use Rattle.cu_forms.proofs.BlockLemmas.{freed, none_freed}
use Rattle.cu_forms.proofs.CallLemmas.{on_ok}
use Rattle.cu_forms.proofs.entries.add_free.Goals as goal

pub returns-in-FreeVariables : goal.returns-in-FreeVariables
returns-in-FreeVariables c names =
    on_ok c.add_names.result
    (λ added. freed names c.args.d c.args.free.now.items c.add_names.new.found.items c.as_slice.result.now c.in_ok-names.field-0 c.in-FreeVariables.field-0 c.in-FreeVariables.names (c.in_ok-names.ensures.meaning names)
    c.in-FreeVariables.is c.as_slice.ensures.value added)
    c.add_names.ensures

pub returns : goal.returns
returns c names = none_freed names c.args.d c.args.free.now.items c.in_ok-names.field-0 (c.in_ok-names.ensures.meaning names) c.in_default.not-FreeVariables
