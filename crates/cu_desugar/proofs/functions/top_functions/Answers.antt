use Rattle.std.proofs.Common.{◌∙◌, ◌++◌, ap, map, subst, sym}
use Rattle.std.proofs.lemmas.List.Elements.{All-get_or}
use Rattle.cu_forms.proofs.CallLemmas.{pushed_all, pushed_one}
use Rattle.cu_kernel.specs.LocalKernel.{TopFunction}
use Rattle.cu_kernel.specs.LocalKernelOf.{top_function_meaning}
use Rattle.cu_toplevel.proofs.NameLemmas.{map_twice}
use Rattle.cu_translation.specs.Functions.{top_function}
use Rattle.cu_desugar.specs.declared.texts.FunctionText.{FunctionText}
use Rattle.cu_desugar.specs.Inside.Texts.{IsText, function_in}
use Rattle.cu_desugar.proofs.functions.top_functions.Goals as goal

pub loop-text-init : goal.loop-text-init
loop-text-init c t names whole top are =
    let f : FunctionText → TopFunction = λ x. top_function t.names names (function_in t x) in
    ap (λ fs. map top_function_meaning fs ++ map f c.args.texts.now) c.new-functions.ensures.items
    ∙ sym (map_twice (top_function t.names names) (function_in t) c.args.texts.now) ∙ ap (map (top_function t.names names)) are.are

pub loop-text-preserved : goal.loop-text-preserved
loop-text-preserved c t names whole top are =
    let f : FunctionText → TopFunction = λ x. top_function t.names names (function_in t x) in
    let xs = c.args.texts.now in
    let i = c.loop-text.text-index in
    let x = c.text-item.result in
    let is = subst (IsText t) (sym c.text-item.is) (All-get_or (IsText t) xs i x c.loop-text-test.true are.known) in
    pushed_one top_function_meaning f xs i x c.loop-text.functions.items c.push.new.self.items c.in_ok-function.function (map (top_function t.names names) whole) c.loop-text-test.true
    c.in_ok-push.ensures.items (c.in_ok-function.ensures t names top is ∙ ap f c.text-item.is) (c.loop-text.invariant t names whole top are)

pub returns : goal.returns
returns c t names whole top are =
    let f : FunctionText → TopFunction = λ x. top_function t.names names (function_in t x) in
    pushed_all top_function_meaning f c.args.texts.now c.loop-text.text-index c.loop-text.functions.items (map (top_function t.names names) whole) c.loop-text-test.false
    (c.loop-text.invariant t names whole top are)
