use Rattle.std.proofs.Common.{append-nil, map, sym}
use Rattle.cu_kernel.specs.Kernel.{Mark}
use Rattle.cu_kernel.specs.KernelOf.{mark_meaning}
use Rattle.cu_toplevel.specs.declared.function_heads.FunctionHead.{FunctionHead}
use Rattle.cu_toplevel.specs.Heads.{head_meaning}
use Rattle.cu_toplevel.specs.Inside.Marks.{head_mark}
use Rattle.cu_toplevel.proofs.PushLemmas.{all_pushed, pushed}
use Rattle.cu_toplevel.proofs.function_marks.add_marks.Goals as goal

pub functions-init : goal.functions-init
functions-init c = λ names r is all signed. sym (append-nil (map mark_meaning c.args.marks.now.items))

pub functions-preserved : goal.functions-preserved
functions-preserved c = λ names r is all signed.
    let f : FunctionHead → Mark = λ h. head_mark r (head_meaning names h) in
    let d : FunctionHead = record { name = record { 0 = 0 }; arity = 0; place = record { «module» = record { 0 = 0 }; line = 0; column = 0 } } in
    let i = c.functions.head-index in
    pushed mark_meaning f (map mark_meaning c.args.marks.now.items) c.functions.marks.items c.push.new.self.items c.in_ok-function_mark.field-0 c.args.functions.now i d c.functions-test.true
    (c.in_ok-function_mark.ensures names r is (all i d c.functions-test.true) signed) c.in_ok-push.ensures.items (c.functions.invariant names r is all signed)

pub returns : goal.returns
returns c = λ names r is all signed.
    let f : FunctionHead → Mark = λ h. head_mark r (head_meaning names h) in
    all_pushed mark_meaning f (map mark_meaning c.args.marks.now.items) c.functions.marks.items c.args.functions.now c.functions.head-index c.functions-test.false
    (c.functions.invariant names r is all signed)
