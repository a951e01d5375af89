-- The expression stands first.
use Rattle.std.proofs.Common.{ap, refl, ◌∙◌}
use Rattle.cu_syntax.specs.declared.symbol.Symbol.TheVariants as symbol
use Rattle.cu_syntax.specs.Reading.{Tree, goal_of}
use Rattle.cu_syntax.specs.SubtreeMeaning.{tree_of}
use Rattle.cu_syntax.specs.Subtrees.{part_of}
use Rattle.cu_syntax.proofs.DeclarationLemmas.{has_part}
use Rattle.cu_syntax.proofs.ExpressionForms.{expression_is}
use Rattle.cu_syntax.proofs.ItemLemmas.{goal_expression}
use Rattle.cu_syntax.proofs.OwnerLemmas.{same_part}
use Rattle.cu_syntax.proofs.text.GoalText.expression.Goals as goal

pub part-requires : goal.part-requires
part-requires c = has_part c.root.result.symbol symbol.Goal 0 symbol.Exp (c.root.ensures.symbol ∙ c.args.self.now.symbol) refl

pub returns-clause-meaning : goal.returns-clause-meaning
returns-clause-meaning c = λ names.
    let root = tree_of names c.root.result in
    expression_is names c.new.result c.part.result symbol.Exp (part_of root 0) c.new.ensures c.part.ensures.symbol (c.part.ensures.tree names)
    ∙ goal_expression c.root.result.symbol root (c.root.ensures.symbol ∙ c.args.self.now.symbol) (c.root.result.fits names)
    ∙ ap (λ (t : Tree). (goal_of t).expression) (c.root.ensures.tree names)

pub returns-clause-owned : goal.returns-clause-owned
returns-clause-owned c = λ owner names whole. same_part owner names c.part.result c.new.result.tree c.new.ensures (c.part.ensures.owned owner names (c.root.ensures.owned owner names whole))
