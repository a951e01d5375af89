-- All trees have become expressions.
use Rattle.std.specs.Vec.Iter.{into_iter_items, into_iter_len}
use Rattle.cu_syntax.specs.SubtreeMeaning.{tree_of}
use Rattle.cu_syntax.proofs.ExpressionForms.{subtree}
use Rattle.cu_syntax.proofs.ViewLemmas.{all_done, nothing_left, view_symbols, view_trees}
use Rattle.cu_syntax.proofs.OwnerLemmas.{views_are}
use Rattle.cu_syntax.proofs.expression_forms.all.Goals as goal

pub returns-clause-symbols : goal.returns-clause-symbols
returns-clause-symbols c =
    let at = c.loop-tree in
    let none = nothing_left (into_iter_items at.tree-iterator) (into_iter_len at.tree-iterator) c.in-None.ensures.steps.0 at.invariant.counted in
    let done = all_done subtree at.expressions.items (into_iter_items at.tree-iterator) _ c.in_ok-tree-items.tree-items.items at.invariant.all none c.into_iter-tree-iterator.ensures.into_iter_gives.0 in
    view_symbols subtree c.args.part at.expressions.items c.in_ok-tree-items.tree-items.items done c.in_ok-tree-items.ensures.symbol

pub returns-clause-trees : goal.returns-clause-trees
returns-clause-trees c = λ names.
    let at = c.loop-tree in
    let none = nothing_left (into_iter_items at.tree-iterator) (into_iter_len at.tree-iterator) c.in-None.ensures.steps.0 at.invariant.counted in
    let done = all_done subtree at.expressions.items (into_iter_items at.tree-iterator) _ c.in_ok-tree-items.tree-items.items at.invariant.all none c.into_iter-tree-iterator.ensures.into_iter_gives.0 in
    view_trees subtree names at.expressions.items c.in_ok-tree-items.tree-items.items (tree_of names c.args.tree) done (c.in_ok-tree-items.ensures.trees names)

pub returns-clause-owned : goal.returns-clause-owned
returns-clause-owned c = λ owner names whole.
    let at = c.loop-tree in
    let none = nothing_left (into_iter_items at.tree-iterator) (into_iter_len at.tree-iterator) c.in-None.ensures.steps.0 at.invariant.counted in
    let done = all_done subtree at.expressions.items (into_iter_items at.tree-iterator) _ c.in_ok-tree-items.tree-items.items at.invariant.all none c.into_iter-tree-iterator.ensures.into_iter_gives.0 in
    views_are subtree owner names at.expressions.items c.in_ok-tree-items.tree-items.items done (c.in_ok-tree-items.ensures.owned owner names whole)
