use Rattle.std.proofs.Common.{◌≡◌, ◌∙◌, List, ap, map, subst, sym}
use Rattle.std.specs.Prelude.{IfOk}
use Rattle.cu_kernel.specs.Kernel.{Mark}
use Rattle.cu_kernel.specs.KernelOf.{mark_meaning}
use Rattle.cu_translation.specs.Externals.{externals}
use Rattle.cu_translation.specs.Parts.{external_mark}
use Rattle.cu_toplevel.proofs.PreludeLemmas.{elsewhere, in_prelude}
use Rattle.cu_toplevel.proofs.externals.external_marks.Goals as goal

pub returns-then-is_prelude : goal.returns-then-is_prelude
returns-then-is_prelude c = λ names r is.
    let prelude = sym (c.is_prelude.ensures names r is) ∙ c.if-is_prelude.true in
    subst (λ (all : List Mark). IfOk c.marks.result (λ made. map mark_meaning made.items ≡ all))
    (in_prelude r.m.name (map (external_mark r) externals) prelude) (c.marks.ensures names r is)

pub returns-else-is_prelude : goal.returns-else-is_prelude
returns-else-is_prelude c = λ names r is.
    ap (map mark_meaning) c.new.ensures.items ∙ elsewhere r.m.name (map (external_mark r) externals) (sym (c.is_prelude.ensures names r is) ∙ c.if-is_prelude.false)
