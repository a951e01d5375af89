use Rattle.std.proofs.Common.{ℕ, List, ◌++◌, IfOk, ap, subst, sym}
use Rattle.cu_calculus.specs.Program as calculus
use Rattle.cu_flat.specs.Meaning.{body_meaning}
use Rattle.cu_flattext.specs.Inside.LineTasks.{left_after, lines_left, lines_left_after}
use Rattle.cu_flattext.specs.Inside.Stands.{lowered_of}
use Rattle.cu_flattext.specs.Inside.Tasks.{Writes}
use Rattle.cu_flattext.specs.Naming.{function_entity}
use Rattle.cu_flattext.specs.Text.{rule_text}
use Rattle.cu_flattext.proofs.FunctionLemmas.{body_there, no_body}
use Rattle.cu_flattext.proofs.module_text.ModuleText.function_body.Goals as goal

pub returns-in-Some : goal.returns-in-Some
returns-in-Some c =
    let self = c.args.self.now in
    let program = lowered_of self.wording in
    subst (λ (b : calculus.Body). IfOk c.body-in-Some.result (λ work. Writes c.args.page.now.text.items
    (lines_left_after (rule_text program (function_entity program c.args.f) b) self)
    c.body-in-Some.new.page.text.items (left_after work c.body-in-Some.new.self)))
    (body_there self.wording.flat.now c.args.f.0 (body_meaning c.in-Some.body.now) c.in-Some.ensures)
    c.body-in-Some.ensures

pub returns-in-None : goal.returns-in-None
returns-in-None c =
    let self = c.args.self.now in
    let program = lowered_of self.wording in
    ap (λ (text : List ℕ). c.args.page.now.text.items ++ (text ++ lines_left self))
    (sym (no_body self.wording.flat.now program (function_entity program c.args.f) c.args.f.0 c.in-None.ensures))
