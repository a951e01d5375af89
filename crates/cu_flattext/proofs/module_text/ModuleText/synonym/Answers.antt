use Rattle.std.proofs.Common.{codes, ap, reverse}
use Rattle.cu_kernel.specs.TypesOf.{type_of}
use Rattle.cu_flattext.specs.Inside.LineTasks.{line_parts, lines_left, work_left}
use Rattle.cu_flattext.specs.Inside.Stands.{entity_meaning, lowered_of}
use Rattle.cu_flattext.specs.Naming as naming
use Rattle.cu_flattext.specs.Naming.{comma_text, entity_of, entity_text, function_entity, separated}
use Rattle.cu_flattext.specs.TypeTexts.{as_written, parameters_text, type_text, type_variables, visibility_text}
use Rattle.cu_flattext.proofs.ElementLemmas.{head_written, line_pushed}
use Rattle.cu_flattext.proofs.module_text.ModuleText.synonym.Goals as goal

pub returns : goal.returns
returns c =
    let self = c.args.self.now in
    let program = lowered_of self.wording in
    let s = c.args.s.now in
    let name = entity_text (entity_meaning c.entity-entity.result) in
    head_written c.args.page.now.text.items c.push_comma.new.self.text.items c.push_type_head.new.page.text.items c.push_str.new.self.text.items
    (comma_text c.args.follows) (codes "\nTypeSyn ") name (entity_text (entity_of program s.module s.name))
    (visibility_text s.public) (parameters_text s.arity) (type_text program (as_written program) (type_variables s.arity) (type_of s.body))
    (work_left c.in_ok-work.work) (codes " (") (codes ")") (lines_left self) (line_parts program self.module (reverse c.push.new.self.items))
    (ap (λ (e : naming.Entity). entity_text e) c.entity-entity.ensures) c.in_ok-push_comma.ensures c.in_ok-push_type_head.ensures
    c.in_ok-push_str.ensures c.in_ok-work.ensures
    (line_pushed program self.module self.lines.items c.push.new.self.items _ c.in_ok-push.ensures.items)
