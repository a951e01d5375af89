-- The variables stand after the expression.
use Rattle.std.proofs.Common.{ap, map, refl, ◌∙◌}
use Rattle.cu_syntax.specs.declared.symbol.Symbol.TheVariants as symbol
use Rattle.cu_syntax.specs.Names.{name_meaning}
use Rattle.cu_syntax.specs.Reading.{Tree, goal_of, goal_variables}
use Rattle.cu_syntax.specs.SubtreeMeaning.{tree_of}
use Rattle.cu_syntax.proofs.DeclarationLemmas.{has_part}
use Rattle.cu_syntax.proofs.ItemLemmas.{goal_free}
use Rattle.cu_syntax.proofs.ViewLemmas.{ok_as}
use Rattle.cu_syntax.proofs.text.GoalText.free_variables.Goals as goal

pub part-requires : goal.part-requires
part-requires c = has_part c.root.result.symbol symbol.Goal 1 symbol.OptionalGoalWhere (c.root.ensures.symbol ∙ c.args.self.now.symbol) refl

pub returns-clause-meaning : goal.returns-clause-meaning
returns-clause-meaning c = λ names.
    ok_as (λ found. map (name_meaning names) found.items) c.goal_variables.result (goal_variables (tree_of names c.part.result)) _ (c.goal_variables.ensures.meaning names)
    (goal_free c.root.result.symbol (tree_of names c.root.result) (tree_of names c.part.result) (c.root.ensures.symbol ∙ c.args.self.now.symbol) (c.root.result.fits names)
    (c.part.ensures.tree names)
    ∙ ap (λ (t : Tree). (goal_of t).free) (c.root.ensures.tree names))

pub returns-clause-owned : goal.returns-clause-owned
returns-clause-owned c = λ owner names whole. c.goal_variables.ensures.owned owner names (c.part.ensures.owned owner names (c.root.ensures.owned owner names whole))
