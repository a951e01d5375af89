use Rattle.std.proofs.Common.{◌≡◌, ◌<◌, arith, length, sym, ◌∙◌}
use Rattle.std.proofs.lemmas.List.{length-map}
use Rattle.std.proofs.lemmas.Result.{on_ok_weaker}
use Rattle.cu_names.specs.Texts.{text_of}
use Rattle.cu_search.specs.Stands.{notation_of}
use Rattle.cu_search.proofs.LineLemmas.{all-counted, first_binding, last_binding, one_more_binding}
use Rattle.cu_search.proofs.lines.push_bindings.Goals as goal

pub loop-place-init : goal.loop-place-init
loop-place-init c =
    let notation = notation_of c.args.wording.now in
    let wording = c.args.wording.now in
    let in_names : 0 < length notation.variables =
    omega (arith, length-map wording.goal.now.names.items (text_of wording.names.now), wording.goal.now.names.ok.0, c.len.ensures, c.lesser-count.ensures.within.0, c.if-count-eq0.false) in
    let in_values : 0 < length c.args.values.now = omega (arith, c.lesser-count.ensures.within.1, c.if-count-eq0.false) in
    first_binding notation.labels notation.variables c.args.values.now c.index-values-0.result _ _ _ in_names in_values c.index-values-0.is
    c.in_ok-push_str.ensures c.in_ok-push_binding.ensures

pub loop-place-preserved : goal.loop-place-preserved
loop-place-preserved c =
    let notation = notation_of c.args.wording.now in
    let wording = c.args.wording.now in
    let in_names : c.loop-place.place < length notation.variables =
    omega (arith, length-map wording.goal.now.names.items (text_of wording.names.now), wording.goal.now.names.ok.0, c.len.ensures, c.lesser-count.ensures.within.0, c.loop-place-test.true) in
    let in_values : c.loop-place.place < length c.args.values.now = omega (arith, c.lesser-count.ensures.within.1, c.loop-place-test.true) in
    one_more_binding notation.labels notation.variables c.args.values.now c.loop-place.place c.index-values-place.result _ _ _ in_names in_values c.index-values-place.is
    c.in_ok-push_str-2.ensures c.in_ok-push_binding-2.ensures
    ∙ c.loop-place.invariant

pub returns : goal.returns
returns c =
    let notation = notation_of c.args.wording.now in
    let wording = c.args.wording.now in
    let all : c.len.result ≡ length notation.variables =
    c.len.ensures ∙ wording.goal.now.names.ok.0 ∙ sym (length-map wording.goal.now.names.items (text_of wording.names.now)) in
    let past = all-counted c.len.result c.lesser-count.result c.loop-place.place notation.variables c.args.values.now all c.loop-place-test.false c.lesser-count.ensures.all in
    on_ok_weaker c.push_str-2.result
    (last_binding notation.labels notation.variables c.args.values.now c.loop-place.place _ _ _ past c.loop-place.invariant) c.push_str-2.ensures
