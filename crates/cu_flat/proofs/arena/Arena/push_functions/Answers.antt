use Rattle.std.proofs.Common.{ap, drop, map, ◌+◌, ◌∙◌}
use Rattle.std.proofs.lemmas.List.{map_push}
use Rattle.cu_kernel.proofs.Loops.{left}
use Rattle.cu_kernel.specs.Kernel.{plain_function}
use Rattle.cu_kernel.specs.KernelOf as kernel
use Rattle.cu_flat.specs.Meaning.{body_meaning, entry_meaning, function_meaning}
use Rattle.cu_flat.proofs.Constructing.{FunctionsLeft-flat, FunctionsLeft-more}
use Rattle.cu_flat.proofs.arena.Arena.push_functions.Goals as goal

pub push_body-requires : goal.push_body-requires
push_body-requires c =
    let functions = c.args.functions.now in
    let i = c.loop-function.function-index in
    let f = c.function-item.result in
    FunctionsLeft-flat _ _ (plain_function (kernel.function_meaning f)) (map plain_function (map kernel.function_meaning (drop (i + 1) functions))) _ _ _
    (ap (λ gs. map plain_function (map kernel.function_meaning gs)) (left functions i f c.loop-function-test.true c.function-item.is)) c.loop-function.invariant

pub loop-function-preserved : goal.loop-function-preserved
loop-function-preserved c =
    let functions = c.args.functions.now in
    let i = c.loop-function.function-index in
    let f = c.function-item.result in
    FunctionsLeft-more (map plain_function (map kernel.function_meaning functions)) _ (plain_function (kernel.function_meaning f))
    (map plain_function (map kernel.function_meaning (drop (i + 1) functions))) (map entry_meaning c.args.self.now.entries.items)
    (map entry_meaning c.loop-function.self.entries.items) (map entry_meaning c.push_body.new.self.entries.items)
    (map function_meaning c.loop-function.made.items) (map function_meaning c.push.new.self.items) (body_meaning c.in_ok-body.body)
    (ap (λ gs. map plain_function (map kernel.function_meaning gs)) (left functions i f c.loop-function-test.true c.function-item.is)) c.loop-function.invariant
    c.in_ok-body.ensures
    (ap (map function_meaning) c.in_ok-push.ensures.items ∙ map_push function_meaning c.loop-function.made.items _)
