use Rattle.std.proofs.Common.{◌≡◌, ◌++◌, arith, codes, ap, length, map, reverse, ◌∙◌}
use Rattle.std.specs.Fmt.{decimal}
use Rattle.cu_kernel.specs.TypesOf.{type_of}
use Rattle.cu_flattext.specs.Inside.LineTasks.{line_parts, lines_left, work_left}
use Rattle.cu_flattext.specs.Inside.Stands.{entity_meaning, lowered_of}
use Rattle.cu_flattext.specs.Naming as naming
use Rattle.cu_flattext.specs.Naming.{comma_text, entity_of, entity_text, function_entity, separated}
use Rattle.cu_flattext.specs.TypeTexts.{expanded, type_text, type_variables, visibility_text}
use Rattle.cu_flattext.proofs.CircleLemmas.{mapped_length}
use Rattle.cu_flattext.proofs.ElementLemmas.{head_written, line_pushed}
use Rattle.cu_flattext.proofs.module_text.ModuleText.constructor.Goals as goal

pub returns : goal.returns
returns c =
    let self = c.args.self.now in
    let program = lowered_of self.wording in
    let x = c.args.c.now in
    let name = entity_text (entity_meaning c.entity-entity.result) in
    let comma = c.push_comma.new.self.text.items in
    let many = mapped_length type_of x.fields.items in
    let count : c.len.result ≡ length (map type_of x.fields.items) = omega (arith, c.len.ensures, x.fields.ok.0, many) in
    head_written c.args.page.now.text.items comma c.push_counted.new.page.text.items c.push_str.new.self.text.items
    (comma_text c.args.follows) (codes "Cons ") name (entity_text (entity_of program self.module x.name))
    (decimal (length (map type_of x.fields.items))) (visibility_text x.public)
    (separated (map (type_text program (expanded program) (type_variables c.args.arity)) (map type_of x.fields.items)))
    (work_left c.in_ok-work.work) (codes " [") (codes "]") (lines_left self) (line_parts program self.module (reverse c.push.new.self.items))
    (ap (λ (e : naming.Entity). entity_text e) c.entity-entity.ensures) c.in_ok-push_comma.ensures
    (c.in_ok-push_counted.ensures
    ∙ ap (λ n. comma ++ (codes "Cons " ++ (name ++ (codes " " ++ (decimal n ++ (codes " " ++ visibility_text x.public)))))) count)
    c.in_ok-push_str.ensures c.in_ok-work.ensures
    (line_pushed program self.module self.lines.items c.push.new.self.items _ c.in_ok-push.ensures.items)
