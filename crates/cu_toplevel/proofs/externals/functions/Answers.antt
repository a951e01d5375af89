use Rattle.std.proofs.Common.{◌∙◌, ℕ, List, [], ap, map, sym}
use Rattle.std.specs.Borrow.{Bor}
use Rattle.cu_calculus.specs.declared.builtin.Primitive.{Primitive}
use Rattle.cu_calculus.specs.declared.builtin.Primitive.TheVariants as prim
use Rattle.cu_kernel.specs.LocalKernel.{TopFunction}
use Rattle.cu_kernel.specs.LocalKernelOf.{top_function_meaning}
use Rattle.cu_toplevel.specs.Inside.Given.{external_meaning}
use Rattle.cu_translation.specs.Functions.{external_function}
use Rattle.cu_toplevel.proofs.NameLemmas.{map_twice}
use Rattle.cu_toplevel.proofs.PushLemmas.{all_pushed, pushed}
use Rattle.cu_toplevel.proofs.externals.functions.Goals as goal

pub externals-init : goal.externals-init
externals-init c = ap (map top_function_meaning) c.new-functions.ensures.items

pub externals-preserved : goal.externals-preserved
externals-preserved c =
    let f : Bor (List ℕ) × Primitive → TopFunction = λ g. external_function c.args.names.now (external_meaning g) in
    let d : Bor (List ℕ) × Primitive = (record { ref_ptr = (0, 0); now = [] }, prim.Add) in
    pushed top_function_meaning f [] c.externals.functions.items c.push.new.self.items c.function.result c.args.externals.now c.externals.text-index d
    c.externals-test.true c.function.ensures c.in_ok-push.ensures.items c.externals.invariant

pub returns : goal.returns
returns c =
    let f : Bor (List ℕ) × Primitive → TopFunction = λ g. external_function c.args.names.now (external_meaning g) in
    all_pushed top_function_meaning f [] c.externals.functions.items c.args.externals.now c.externals.text-index c.externals-test.false c.externals.invariant
    ∙ sym (map_twice (external_function c.args.names.now) external_meaning c.args.externals.now)
