use Rattle.std.proofs.Common.{◌-◌, List, ◌++◌, ap, drop, eq-eqb, length, map, reverse, take, ◌∙◌}
use Rattle.cu_kernel.specs.KernelOf.{synonym_meaning}
use Rattle.cu_kernel.specs.declared.declarations.Synonym.{Synonym}
use Rattle.cu_flattext.specs.Inside.LineTasks.{line_parts, lines_left, work_left}
use Rattle.cu_flattext.specs.Inside.Stands.{lowered_of}
use Rattle.cu_flattext.specs.Text.{on_a_line, synonym_texts}
use Rattle.cu_flattext.specs.TypeTexts.{synonym_text}
use Rattle.cu_flattext.proofs.ElementLemmas.{all_others, element_read, line_pushed, synonym_more}
use Rattle.cu_flattext.proofs.module_text.ModuleText.synonyms.Goals as goal

pub returns-in_ok-work-in-len1-up : goal.returns-in_ok-work-in-len1-up
returns-in_ok-work-in-len1-up c =
    let self = c.args.self.now in
    let program = lowered_of self.wording in
    let m = self.module in
    let xs = c.args.synonyms.now in
    let first = synonym_meaning c.first-item.result in
    let others = map synonym_meaning (take (length xs - 1) (drop 1 xs)) in
    element_read (c.synonym.new.page.text.items ++ (work_left c.in_ok-work-in-len1-up.work ++ lines_left c.synonym.new.self))
    c.args.page.now.text.items c.args.follows (on_a_line (synonym_text program first)) (map on_a_line (synonym_texts program m others))
    (map on_a_line (synonym_texts program m (map synonym_meaning xs))) (lines_left self) (line_parts program m (reverse c.push.new.self.items))
    (ap (λ (zs : List Synonym). map on_a_line (synonym_texts program m (map synonym_meaning zs)))
    (all_others xs c.first-item.result c.in-len1-up.len_at_least c.first-item.is)
    ∙ synonym_more program m first others (eq-eqb c.first-item.result.module m c.if-first-self.true))
    (line_pushed program m self.lines.items c.push.new.self.items _ c.in_ok-push-in-len1-up.ensures.items)
    c.in_ok-work-in-len1-up.ensures
