use Rattle.std.proofs.Common.{◌≡◌, ◌∙◌, ◌∷◌, [], ap, length, map, subst, sym}
use Rattle.std.proofs.lemmas.List.{length-map}
use Rattle.std.specs.List.{All}
use Rattle.cu_faults.specs.Telling.{setting}
use Rattle.cu_kernel.specs.LocalKernel.{LocalRule, Rules}
use Rattle.cu_kernel.specs.LocalKernelOf.{local_rule_meaning}
use Rattle.cu_syntax.specs.Answer.{goal_meaning}
use Rattle.cu_syntax.specs.Names.{name_meaning}
use Rattle.cu_syntax.specs.Owners.{NameIsOf}
use Rattle.cu_translation.specs.Functions.{around_goal, goal_nodes}
use Rattle.cu_uses.specs.Gathered.{names_meaning}
use Rattle.cu_desugar.proofs.FunctionLemmas.{goal_rule_is}
use Rattle.cu_desugar.proofs.goals.GoalParts.function.Goals as goal

pub returns : goal.returns
returns c t names top owned is named =
    let whole = goal_meaning t.names c.args.goal.now in
    let a = around_goal names whole in
    let free = c.args.self.now.free.items in
    let around = c.around-around.ensures t names whole top is in
    let name = c.owner.ensures t.names names top ∙ named in
    let size : c.len.result ≡ length free = c.len.ensures ∙ c.args.self.now.free.ok.0 in
    let many = c.in_ok-arity.ensures ∙ size ∙ sym (length-map free (name_meaning t.names)) ∙ ap length is.free in
    let rule = c.in_ok-rule.ensures (setting t a) around t.differ (subst (All (NameIsOf t.owner t.names)) (sym c.as_slice-free.ensures.value) is.owned) (c.expression.ensures.owned t.owner t.names owned)
    ∙ goal_rule_is t names whole c.as_slice-free.result.now c.expression.result (ap (names_meaning t.names) c.as_slice-free.ensures.value ∙ is.free) (c.expression.ensures.meaning t.names) in
    let ruled = ap Rules (ap (map local_rule_meaning) c.in_ok-rules.ensures.items ∙ ap (λ (r : LocalRule). r ∷ []) rule) in
    let locals = c.in_ok-locals.ensures t a (goal_nodes whole) around is.stands in
    λ j. record { name = name j; arity = many j; body = ruled j; locals = locals j }
