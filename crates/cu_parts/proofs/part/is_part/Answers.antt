use Rattle.std.proofs.Common.{◌≡◌, ◌↔◌, ◌∙◌, IfOk, IsTrue, List, ap, length, map, subst, sym}
use Rattle.std.proofs.lemmas.List.{length-map}
use Rattle.std.specs.List.{list_all}
use Rattle.cu_kernel.specs.KernelOf.{mark_meaning, synonym_meaning, type_meaning}
use Rattle.cu_kernel.specs.LocalKernelOf.{local_kernel_of, top_function_meaning}
use Rattle.cu_kernel.specs.LocalValid.{captures_nothing, is_data_type, is_synonym}
use Rattle.cu_kernel.specs.declared.declarations.DataType.{DataType}
use Rattle.cu_kernel.specs.declared.declarations.Mark.{Mark}
use Rattle.cu_kernel.specs.declared.declarations.Synonym.{Synonym}
use Rattle.cu_kernel.specs.declared.local.TopFunction.{TopFunction}
use Rattle.cu_parts.proofs.PartLemmas.{part_decided}
use Rattle.cu_parts.specs.Inside.Scoping.{AreScoped}
use Rattle.cu_parts.proofs.part.is_part.Goals as goal

pub returns : goal.returns
returns c =
    let parts = c.args.parts.now in
    let types = ap (λ (ts : List DataType). list_all is_data_type (map type_meaning ts)) c.as_slice.ensures.value in
    let synonyms = ap (λ (ss : List Synonym). list_all is_synonym (map synonym_meaning ss)) c.as_slice-else-not-are_data_types.ensures.value in
    let marks = ap (λ (ms : List Mark). list_all captures_nothing (map mark_meaning ms)) c.as_slice-else-len.ensures.value in
    let same : length (map mark_meaning parts.marks.items) ≡ length (map top_function_meaning parts.functions.items) =
    length-map parts.marks.items mark_meaning ∙ sym (c.len.ensures ∙ parts.marks.ok.0) ∙ c.if-len.false ∙ c.len-2.ensures ∙ parts.functions.ok.0
    ∙ sym (length-map parts.functions.items top_function_meaning) in
    record {
      decides = part_decided (local_kernel_of parts) c.are_scoped.result (sym types ∙ sym c.if-not-are_data_types.ensures)
          (sym synonyms ∙ sym c.if-not-are_synonyms.ensures) same (sym marks ∙ sym c.if-not-capture_nothing.ensures)
          (subst (λ (fs : List TopFunction). IfOk c.are_scoped.result (λ fit. IsTrue fit ↔ AreScoped (map top_function_meaning fs))) c.as_slice-2.ensures.value
          c.are_scoped.ensures);
    }
