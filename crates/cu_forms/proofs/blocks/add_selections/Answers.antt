use Rattle.std.proofs.Common.{◌∙◌, ◌++◌, ap, map}
use Rattle.cu_locals.specs.Text.{text}
use Rattle.cu_forms.specs.Forms.{selections_form}
use Rattle.cu_forms.specs.Inside.Blocks.{bound_meaning, bounds_meaning}
use Rattle.cu_syntax.specs.Patterns.{pattern_meaning}
use Rattle.cu_forms.proofs.BlockLemmas.{default_name, selection_of, selections_are}
use Rattle.cu_forms.proofs.CallLemmas.{pushed_all, pushed_one}
use Rattle.cu_forms.proofs.blocks.add_selections.Goals as goal

pub loop-name-init : goal.loop-name-init
loop-name-init g c w tells differ of =
    let got = c.in_ok-names.ensures (text w.owner w.names differ) of in
    ap (λ xs. bounds_meaning c.args.found.now.items ++ xs)
    (ap (map (selection_of w c.args.p)) c.deref-name-items.ensures.value ∙ selections_are w c.args.p c.in_ok-names.names.items got.adds)

pub loop-name-preserved : goal.loop-name-preserved
loop-name-preserved g c w tells differ of =
    let f = selection_of w c.args.p in
    pushed_one bound_meaning f c.deref-name-items.result.now c.loop-name.name-index default_name c.loop-name.found.items c.push.new.self.items c.in_ok-selection.field-0
    (bounds_meaning c.args.found.now.items ++ selections_form w c.args.p) c.loop-name-test.true c.in_ok-push.ensures.items
    (c.in_ok-selection.ensures w (pattern_meaning w.names c.args.p) tells (c.place.ensures.position w.names)) (c.loop-name.invariant w tells differ of)

pub returns : goal.returns
returns g c w tells differ of =
    pushed_all bound_meaning (selection_of w c.args.p) c.deref-name-items.result.now c.loop-name.name-index c.loop-name.found.items
    (bounds_meaning c.args.found.now.items ++ selections_form w c.args.p) c.loop-name-test.false (c.loop-name.invariant w tells differ of)
