use Rattle.std.proofs.Common.{◌∙◌, ◌++◌, ◌∷◌, [], None, ap, get_or, map, sym, take_all}
use Rattle.std.proofs.lemmas.List.{map_more}
use Rattle.cu_kernel.specs.declared.local_program.Counts.{Counts}
use Rattle.cu_names.specs.declared.names.NameId.{NameId}
use Rattle.cu_syntax.specs.declared.name.Name.{Name}
use Rattle.cu_uses.specs.Binders.{texts}
use Rattle.cu_translation.specs.ModuleNames.{id_of}
use Rattle.cu_toplevel.proofs.GoalLemmas.{numbers_are}
use Rattle.cu_toplevel.proofs.goals.goal_in.Goals as goal

pub variables-init : goal.variables-init
variables-init c = c.new-names.ensures.items

pub variables-preserved : goal.variables-preserved
variables-preserved c =
    let d : Name = record { text = record { 0 = 0 }; qualifier = None; base = record { 0 = 0 }; place = record { «module» = record { 0 = 0 }; line = 0; column = 0 } } in
    let i = c.variables.variable-index in
    let xs = c.as_slice-variable-items.result.now in
    let number : Name → NameId = λ x. x.text in
    c.in_ok-push.ensures.items ∙ ap (λ ids. ids ++ (get_or xs i d).text ∷ []) c.variables.invariant ∙ sym (map_more number xs i d c.variables-test.true)

pub returns : goal.returns
returns c = λ owner names modules has owned.
    let number : Name → NameId = λ x. x.text in
    let function = ap (λ (n : Counts). n.functions) (c.counts.ensures names modules has) in
    let numbers = c.variables.invariant
    ∙ ap (map number) (take_all c.variables.variable-index c.as_slice-variable-items.result.now c.variables-test.false ∙ c.as_slice-variable-items.ensures.value)
    ∙ numbers_are owner names c.in_ok-variables.variables.items has.differ (c.in_ok-variables.ensures.owned owner names owned)
    ∙ ap (λ ns. map (id_of names) (texts ns)) (c.in_ok-variables.ensures.meaning names) in
    λ j. record { function = record { 0 = function j }; names = numbers j }
