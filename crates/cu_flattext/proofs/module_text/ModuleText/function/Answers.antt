use Rattle.std.proofs.Common.{ℕ, List, ◌++◌, codes, ap, refl, reverse, ◌∙◌}
use Rattle.std.specs.Fmt.{decimal}
use Rattle.cu_calculus.specs.declared.Head.TheVariants as head
use Rattle.cu_types.specs.Inference.{type_in}
use Rattle.cu_flattext.specs.ExpressionTexts.{arity}
use Rattle.cu_flattext.specs.Inside.InferredTasks.{inferred_left}
use Rattle.cu_flattext.specs.Inside.LineTasks.{body_text, line_parts, lines_left}
use Rattle.cu_flattext.specs.Inside.Stands.{entity_meaning, lowered_of}
use Rattle.cu_flattext.specs.Naming as naming
use Rattle.cu_flattext.specs.Naming.{comma_text, entity_text, function_entity}
use Rattle.cu_flattext.specs.TypeTexts.{inferred_type_text, visibility_text}
use Rattle.cu_flattext.proofs.ElementLemmas.{head_written}
use Rattle.cu_flattext.proofs.FunctionLemmas.{line_read, lines_after_type}
use Rattle.cu_flattext.proofs.module_text.ModuleText.function.Goals as goal

pub returns : goal.returns
returns c =
    let self = c.args.self.now in
    let program = lowered_of self.wording in
    let f = c.args.f in
    let page = c.args.page.now.text.items in
    let name = entity_text (entity_meaning c.function.result) in
    let comma = c.push_comma.new.self.text.items in
    head_written page comma c.push_counted.new.page.text.items c.push_str.new.self.text.items
    (comma_text c.args.follows) (codes "\nFunc ") name (entity_text (function_entity program f))
    (decimal (arity program (head.Fun f))) (visibility_text c.args.public) (inferred_type_text program (type_in program.interface f))
    (inferred_left c.in_ok-inferred.inferred) (codes " (") (codes ") (" ++ (body_text program f ++ codes ")")) (lines_left self)
    (line_parts program self.module (reverse c.push-3.new.self.items))
    (ap (λ (e : naming.Entity). entity_text e) c.function.ensures) c.in_ok-push_comma.ensures
    (c.in_ok-push_counted.ensures
    ∙ ap (λ n. comma ++ (codes "\nFunc " ++ (name ++ (codes " " ++ (decimal n ++ (codes " " ++ visibility_text c.args.public)))))) c.arity-arity.ensures)
    c.in_ok-push_str.ensures c.in_ok-inferred.ensures
    (lines_after_type program self.module self.lines.items c.push.new.self.items c.push-2.new.self.items c.push-3.new.self.items _ _ f refl refl
    c.in_ok-push.ensures.items c.in_ok-push-2.ensures.items c.in_ok-push-3.ensures.items)
    ∙ ap (λ (line : List ℕ). page ++ ((comma_text c.args.follows ++ line) ++ lines_left self)) (line_read program f c.args.public)
