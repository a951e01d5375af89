use Rattle.std.proofs.Common.{ℕ, List, [], ◌++◌, ap, append_assoc, get_or, sym, take, ◌∙◌}
use Rattle.std.proofs.lemmas.Result.{on_ok_weaker}
use Rattle.cu_flattext.specs.Inside.Stands.{lowered_of}
use Rattle.cu_flattext.specs.Inside.TypeTasks.{settings_of, types_left, variables_in}
use Rattle.cu_flattext.specs.TypeTexts.{type_variables}
use Rattle.cu_flattext.specs.declared.type_task.Variables.{Variables}
use Rattle.cu_flattext.proofs.types.Types.variable_of.Goals as goal

pub argument-requires : goal.argument-requires
argument-requires c = c.requires

pub returns-in-Parameters : goal.returns-in-Parameters
returns-in-Parameters c =
    let self = c.args.self.now in
    let program = lowered_of self.wording in
    let page = c.args.page.now.text.items in
    let settings = take c.args.place (settings_of program self.scopes.items) in
    on_ok_weaker c.push_parameter.result
    (λ e. ap (λ (t : List ℕ). t ++ types_left self) e
    ∙ append_assoc page (get_or (type_variables c.in-Parameters.count) c.args.x []) (types_left self)
    ∙ ap (λ (v : Variables). page ++ (get_or (variables_in program settings v) c.args.x [] ++ types_left self)) (sym c.in-Parameters.is))
    c.push_parameter.ensures

pub returns-in-Arguments : goal.returns-in-Arguments
returns-in-Arguments c =
    let self = c.args.self.now in
    let program = lowered_of self.wording in
    let page = c.args.page.now.text.items in
    let settings = take c.args.place (settings_of program self.scopes.items) in
    on_ok_weaker c.argument.result
    (λ e. ap (λ (t : List ℕ). page ++ t) e
    ∙ ap (λ (v : Variables). page ++ (get_or (variables_in program settings v) c.args.x [] ++ types_left self)) (sym c.in-Arguments.is))
    c.argument.ensures
