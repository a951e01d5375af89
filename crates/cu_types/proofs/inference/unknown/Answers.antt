use Rattle.std.proofs.Common.{List, [], ◌∷◌, ◌++◌, ap, ◌∙◌}
use Rattle.cu_types.proofs.InterfaceLemmas.{one_table, one_type, one_within}
use Rattle.cu_types.proofs.inference.unknown.Goals as goal
use Rattle.cu_types.specs.declared.node.Node.{Node}
use Rattle.cu_types.specs.declared.node.Node.TheVariants as node

pub new-requires-clause-table : goal.new-requires-clause-table
new-requires-clause-table c = one_table c.push.new.self.items
    (c.in_ok-push.ensures.items ∙ ap (λ (ns : List Node). ns ++ node.Variable 0 ∷ []) c.new-types.ensures.items)

pub new-requires-clause-within : goal.new-requires-clause-within
new-requires-clause-within c = one_within c.push.new.self.items
    (c.in_ok-push.ensures.items ∙ ap (λ (ns : List Node). ns ++ node.Variable 0 ∷ []) c.new-types.ensures.items)

pub returns : goal.returns
returns c = c.new.ensures ∙ one_type c.push.new.self.items
    (c.in_ok-push.ensures.items ∙ ap (λ (ns : List Node). ns ++ node.Variable 0 ∷ []) c.new-types.ensures.items)
