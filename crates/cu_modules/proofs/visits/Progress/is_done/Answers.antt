use Rattle.std.proofs.Common.{◌∙◌, rules, tests}
use Rattle.std.proofs.lemmas.Iterator.{YieldsList-from_slice}
use Rattle.std.proofs.lemmas.Iterator.Search.{any_from_yields_List}
use Rattle.cu_modules.proofs.PathLemmas.{done_same, is_module}
use Rattle.cu_modules.proofs.visits.Progress.is_done.Goals as goal

pub returns : goal.returns
returns c = λ names differ has known.
    let ms = c.args.self.now.done.items in
    any_from_yields_List (is_module c.args.name) _ _ c.any.result c.any.ensures.ran (YieldsList-from_slice ms cc) (λ x b q k. search (rules, tests))
    ∙ done_same names ms c.args.name differ has known
