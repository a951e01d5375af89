use Rattle.std.proofs.Common.{◌≡◌, ◌∙◌, ◌++◌, List, ap, map, subst, sym}
use Rattle.std.specs.List.{All}
use Rattle.std.specs.Prelude.{OnOk}
use Rattle.cu_kernel.specs.Kernel.{Mark}
use Rattle.cu_kernel.specs.KernelOf.{mark_meaning}
use Rattle.cu_modules.specs.Ordering.{module_of}
use Rattle.cu_modules.specs.Scopes.{Named}
use Rattle.cu_toplevel.specs.declared.function_heads.FunctionHead.{FunctionHead}
use Rattle.cu_toplevel.specs.Heads.{HeadIsOf, head_meaning}
use Rattle.cu_toplevel.specs.Inside.Marks.{head_mark}
use Rattle.cu_toplevel.specs.Inside.SignatureTables.{AreSignatures}
use Rattle.cu_translation.specs.Numbered.{groups_in}
use Rattle.cu_translation.specs.Parts.{function_mark, signature_of}
use Rattle.cu_toplevel.proofs.MarkLemmas.{marks_of}
use Rattle.cu_toplevel.proofs.function_marks.add_functions.Goals as goal

pub returns : goal.returns
returns c = λ names r is.
    let f : FunctionHead → Mark = λ h. head_mark r (head_meaning names h) in
    let owner = c.args.reading.now.module.now.name in
    let differ = is.top.entities.differ in
    let are = c.in_ok-functions.ensures names differ is.has in
    let all = subst (All (HeadIsOf owner names)) (sym c.as_slice.ensures.value) are.owned in
    let signed = subst (λ (n : Named). AreSignatures owner names (λ text. signature_of text n.syntax.items) c.in_ok-signatures.signatures) (sym is.is)
    (c.in_ok-signatures.ensures names differ is.has) in
    let same : map f c.as_slice.result.now ≡ map (function_mark r) (groups_in r.m) =
    ap (map f) c.as_slice.ensures.value ∙ marks_of names r c.in_ok-functions.functions.items (groups_in (module_of names c.args.reading.now.module.now)) are.are
    ∙ ap (λ (n : Named). map (function_mark r) (groups_in n)) (sym is.is) in
    subst (λ (ms : List Mark). OnOk c.add_marks.result (map mark_meaning c.add_marks.new.marks.items ≡ map mark_meaning c.args.marks.now.items ++ ms)) same
    (c.add_marks.ensures names r is all signed)
