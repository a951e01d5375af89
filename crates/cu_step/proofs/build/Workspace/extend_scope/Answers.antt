-- What is added are the pairs of what stands at the same places.
use Rattle.std.proofs.lemmas.Iterator.{YieldsList-from_slice, YieldsList-from_zip}
use Rattle.std.proofs.lemmas.Iterator.Consumers.{YieldsList-at, YieldsList-from_copied}
use Rattle.std.proofs.lemmas.Iterator.Adapters.{items_from_extend}
use Rattle.cu_step.proofs.Builds.{on_ok}
use Rattle.cu_step.proofs.build.Workspace.extend_scope.Goals as goal

pub returns : goal.returns
returns c =
    let variables = YieldsList-from_copied (YieldsList-at c.copied.ensures.source (YieldsList-from_slice c.args.variables.now c.iter.ensures.rest)) in
    let places = YieldsList-from_copied (YieldsList-at c.copied-2.ensures.source (YieldsList-from_slice c.args.places.now c.iter-2.ensures.rest)) in
    let bindings = YieldsList-from_zip (YieldsList-at c.zip-bindings.ensures.first variables) (YieldsList-at c.zip-bindings.ensures.second places) in
    on_ok c.extend.result _ _ (λ h. h.0) (items_from_extend c.extend.result c.extend.ensures.ran bindings)
