use Rattle.std.proofs.Common.{◌∙◌, ℕ, List, [], ap, map, sym}
use Rattle.std.specs.Borrow.{Bor}
use Rattle.cu_calculus.specs.declared.builtin.Primitive.{Primitive}
use Rattle.cu_calculus.specs.declared.builtin.Primitive.TheVariants as prim
use Rattle.cu_kernel.specs.Kernel.{Mark}
use Rattle.cu_kernel.specs.KernelOf.{mark_meaning}
use Rattle.cu_toplevel.specs.Inside.Given.{external_meaning}
use Rattle.cu_translation.specs.Parts.{external_mark}
use Rattle.cu_toplevel.proofs.NameLemmas.{map_twice}
use Rattle.cu_toplevel.proofs.PushLemmas.{all_pushed, pushed}
use Rattle.cu_toplevel.proofs.externals.marks.Goals as goal

pub externals-init : goal.externals-init
externals-init c = λ names r is. ap (map mark_meaning) c.new-marks.ensures.items

pub externals-preserved : goal.externals-preserved
externals-preserved c = λ names r is.
    let f : Bor (List ℕ) × Primitive → Mark = λ g. external_mark r (external_meaning g) in
    let d : Bor (List ℕ) × Primitive = (record { ref_ptr = (0, 0); now = [] }, prim.Add) in
    pushed mark_meaning f [] c.externals.marks.items c.push.new.self.items c.in_ok-mark.field-0 c.args.externals.now c.externals.text-index d
    c.externals-test.true (c.in_ok-mark.ensures names r is) c.in_ok-push.ensures.items (c.externals.invariant names r is)

pub returns : goal.returns
returns c = λ names r is.
    let f : Bor (List ℕ) × Primitive → Mark = λ g. external_mark r (external_meaning g) in
    all_pushed mark_meaning f [] c.externals.marks.items c.args.externals.now c.externals.text-index c.externals-test.false (c.externals.invariant names r is)
    ∙ sym (map_twice (external_mark r) external_meaning c.args.externals.now)
