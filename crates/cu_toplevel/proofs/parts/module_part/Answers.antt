use Rattle.std.proofs.Common.{◌∙◌, ◌++◌, ◌∷◌, [], ℕ, List, None, ap, ap₂, map, subst, sym, take}
use Rattle.std.proofs.lemmas.List.{map-append}
use Rattle.cu_kernel.specs.Kernel.{Module}
use Rattle.cu_kernel.specs.KernelOf.{module_meaning}
use Rattle.cu_kernel.specs.LocalKernel.{TopFunction}
use Rattle.cu_kernel.specs.LocalKernelOf.{top_function_meaning}
use Rattle.cu_toplevel.specs.EntityTables.{AreEntities}
use Rattle.cu_translation.specs.Parts.{counts}
use Rattle.cu_toplevel.proofs.parts.module_part.Goals as goal

pub returns : goal.returns
returns c = λ names modules r is has are.
    let entities = c.args.reading.now.top.entities.now in
    let start = c.counts_before.ensures names modules has ∙ ap (λ n. counts (take n modules)) (sym is.number) in
    let types = c.in_ok-types.ensures names r is in
    let functions = ap (map top_function_meaning) c.in_ok-append.ensures.items ∙ map-append top_function_meaning c.in_ok-all.all.items c.args.functions.items
    ∙ ap₂ (λ (fs gs : List TopFunction). fs ++ gs) (c.in_ok-all.ensures names r is) are in
    let synonyms = c.in_ok-synonyms.ensures names r is in
    let infos = ap (map module_meaning) c.in_ok-modules.ensures.items ∙ ap (λ (m : Module). m ∷ []) (c.in_ok-info.ensures names r is) in
    let marks = c.in_ok-marks.ensures names r is in
    let special = c.special.ensures modules (subst (λ (ns : List (List ℕ)). AreEntities ns modules entities) (sym is.top.table) has) in
    λ j. record {
      start = start j;
      types = types j;
      functions = functions j;
      synonyms = synonyms j;
      modules = infos j;
      marks = marks j;
      goal = None;
      special = special j;
    }
