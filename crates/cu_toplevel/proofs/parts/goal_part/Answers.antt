use Rattle.std.proofs.Common.{◌∙◌, ◌∷◌, [], ℕ, List, Some, ap, map, subst, sym}
use Rattle.cu_kernel.specs.Kernel.{Mark}
use Rattle.cu_kernel.specs.KernelOf.{mark_meaning, module_meaning, synonym_meaning, type_meaning}
use Rattle.cu_kernel.specs.LocalKernel.{TopFunction}
use Rattle.cu_kernel.specs.LocalKernelOf.{top_function_meaning}
use Rattle.cu_toplevel.specs.EntityTables.{AreEntities}
use Rattle.cu_translation.specs.Parts.{goal_names}
use Rattle.cu_toplevel.proofs.parts.goal_part.Goals as goal

pub returns : goal.returns
returns c = λ owner names modules tells has owned is.
    let entities = c.args.top.now.entities.now in
    let start = c.counts.ensures names modules has in
    let types = ap (map type_meaning) c.new.ensures.items in
    let functions = ap (map top_function_meaning) c.in_ok-functions.ensures.items ∙ ap (λ (f : TopFunction). f ∷ []) is in
    let synonyms = ap (map synonym_meaning) c.new-2.ensures.items in
    let infos = ap (map module_meaning) c.new-3.ensures.items in
    let marks = ap (map mark_meaning) c.in_ok-marks.ensures.items
    ∙ ap (λ (m : Mark). m ∷ []) (c.goal_mark.ensures names (goal_names names modules c.args.root) tells) in
    let found = ap Some (c.in_ok-goal.ensures owner names modules has owned) in
    let special = c.special.ensures modules (subst (λ (ns : List (List ℕ)). AreEntities ns modules entities) (sym tells.table) has) in
    λ j. record {
      start = start j;
      types = types j;
      functions = functions j;
      synonyms = synonyms j;
      modules = infos j;
      marks = marks j;
      goal = found j;
      special = special j;
    }
