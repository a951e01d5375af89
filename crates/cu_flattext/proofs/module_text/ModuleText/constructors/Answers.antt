use Rattle.std.proofs.Common.{◌-◌, List, ◌++◌, ap, drop, length, map, reverse, take}
use Rattle.cu_kernel.specs.KernelOf.{constructor_meaning}
use Rattle.cu_kernel.specs.declared.declarations.Constructor.{Constructor}
use Rattle.cu_flattext.specs.Inside.LineTasks.{line_parts, lines_left, work_left}
use Rattle.cu_flattext.specs.Inside.Stands.{lowered_of}
use Rattle.cu_flattext.specs.TypeTexts.{constructor_text}
use Rattle.cu_flattext.proofs.ElementLemmas.{all_others, element_read, line_pushed}
use Rattle.cu_flattext.proofs.module_text.ModuleText.constructors.Goals as goal

pub returns-in_ok-work-in-len1-up : goal.returns-in_ok-work-in-len1-up
returns-in_ok-work-in-len1-up c =
    let self = c.args.self.now in
    let program = lowered_of self.wording in
    let xs = c.args.constructors.now in
    let text = constructor_text program self.module c.args.arity in
    element_read (c.constructor.new.page.text.items ++ (work_left c.in_ok-work-in-len1-up.work ++ lines_left c.constructor.new.self))
    c.args.page.now.text.items c.args.follows (text (constructor_meaning c.first-item.result))
    (map text (map constructor_meaning (take (length xs - 1) (drop 1 xs)))) (map text (map constructor_meaning xs)) (lines_left self)
    (line_parts program self.module (reverse c.push.new.self.items))
    (ap (λ (zs : List Constructor). map text (map constructor_meaning zs)) (all_others xs c.first-item.result c.in-len1-up.len_at_least c.first-item.is))
    (line_pushed program self.module self.lines.items c.push.new.self.items _ c.in_ok-push-in-len1-up.ensures.items)
    c.in_ok-work-in-len1-up.ensures
