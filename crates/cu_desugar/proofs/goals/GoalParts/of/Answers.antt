use Rattle.std.proofs.Common.{◌∙◌, ◌++◌, List, ap, map, subst}
use Rattle.cu_sites.specs.Numbered.{HasNumbers}
use Rattle.cu_syntax.specs.Answer.{goal_meaning}
use Rattle.cu_translation.specs.Functions.{goal_nodes}
use Rattle.cu_translation.specs.LocalNames.{Binder}
use Rattle.cu_translation.specs.Meaning.{binder_meaning}
use Rattle.cu_translation.specs.Numbering.{all_binders, all_functions, at_name}
use Rattle.cu_uses.specs.Gathered.{names_meaning}
use Rattle.cu_desugar.proofs.goals.GoalParts.of.Goals as goal

pub returns : goal.returns
returns c t owned =
    let whole = goal_meaning t.names c.args.goal.now in
    let nodes = goal_nodes whole in
    let stands = c.in_ok-sites.ensures t.owner t.names t.differ owned in
    let last = ap (map binder_meaning) c.as_slice-last.ensures.value ∙ c.in_ok-last.ensures t.names
    ∙ ap (λ xs. map at_name (names_meaning t.names xs)) c.as_slice-names.ensures.value ∙ ap (map at_name) (c.in_ok-free.ensures.meaning t.names) in
    record {
      free = c.in_ok-free.ensures.meaning t.names;
      owned = c.in_ok-free.ensures.owned t.owner t.names owned;
      stands = stands;
      numbered = subst (λ (bs : List Binder). HasNumbers (all_binders nodes ++ bs) (all_functions nodes) c.in_ok-numbers.numbers) last (c.in_ok-numbers.ensures t nodes stands);
      dependent = c.in_ok-dependencies.ensures t nodes stands;
    }
