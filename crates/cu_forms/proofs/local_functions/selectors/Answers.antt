use Rattle.std.proofs.Common.{◌∙◌, ◌++◌, ap, map}
use Rattle.cu_kernel.specs.LocalKernelOf.{local_function_meaning}
use Rattle.cu_locals.specs.Text.{text}
use Rattle.cu_forms.specs.Functions.{selectors_of}
use Rattle.cu_forms.specs.Inside.Functions.{selector_of}
use Rattle.cu_forms.proofs.BlockLemmas.{default_name}
use Rattle.cu_forms.proofs.CallLemmas.{pushed_all, pushed_one}
use Rattle.cu_forms.proofs.FunctionLemmas.{selectors_are}
use Rattle.cu_forms.proofs.local_functions.selectors.Goals as goal

pub loop-name-init : goal.loop-name-init
loop-name-init g c w tells differ of =
    let got = c.in_ok-names.ensures (text w.owner w.names differ) of in
    let f = selector_of w c.args.p in
    ap (λ fs. map local_function_meaning fs ++ map f c.deref-name-items.result.now) c.new-found.ensures.items ∙ ap (map f) c.deref-name-items.ensures.value
    ∙ selectors_are w c.args.p c.in_ok-names.names.items got.adds

pub loop-name-preserved : goal.loop-name-preserved
loop-name-preserved g c w tells differ of =
    pushed_one local_function_meaning (selector_of w c.args.p) c.deref-name-items.result.now c.loop-name.name-index default_name c.loop-name.found.items c.push.new.self.items c.in_ok-selector.field-0 (selectors_of w c.args.p)
    c.loop-name-test.true c.in_ok-push.ensures.items (c.in_ok-selector.ensures w tells of) (c.loop-name.invariant w tells differ of)

pub returns : goal.returns
returns g c w tells differ of =
    pushed_all local_function_meaning (selector_of w c.args.p) c.deref-name-items.result.now c.loop-name.name-index c.loop-name.found.items (selectors_of w c.args.p) c.loop-name-test.false (c.loop-name.invariant w tells differ of)
