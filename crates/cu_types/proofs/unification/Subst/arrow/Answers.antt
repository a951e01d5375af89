use Rattle.std.proofs.Common.{ℕ, List, [], ◌∷◌, ◌++◌, length, ap, ◌∙◌}
use Rattle.cu_kernel.specs.TypeExpr as type
use Rattle.cu_types.proofs.GrowingLemmas.{arrow_may, arrow_tree, grows_as}
use Rattle.cu_types.proofs.unification.Subst.arrow.Goals as goal
use Rattle.cu_types.specs.Meaning.{types_of_subst}
use Rattle.cu_types.specs.Table as shape
use Rattle.cu_types.specs.Table.{at, tree_over, trees}
use Rattle.cu_types.specs.declared.node.TypeHead.TheVariants as head

pub add-requires-clause-table : goal.add-requires-clause-table
add-requires-clause-table c = c.requires.table

pub add-requires-clause-places : goal.add-requires-clause-places
add-requires-clause-places c = c.requires.places

pub add-requires-clause-may : goal.add-requires-clause-may
add-requires-clause-may c =
    arrow_may (length (types_of_subst c.args.self.now)) c.args.left c.args.right c.push-2.new.self.items
    (c.in_ok-push-2.ensures.items ∙ ap (λ (xs : List ℕ). xs ++ c.args.right ∷ [])
    (c.in_ok-push.ensures.items ∙ ap (λ (xs : List ℕ). xs ++ c.args.left ∷ []) c.new-arguments.ensures.items))
    c.requires.left c.requires.right

pub returns : goal.returns
returns c =
    let f = at (trees (types_of_subst c.args.self.now)) in
    grows_as c.args.self.now c.add.new.self (tree_over f (shape.Applied head.Arrow c.push-2.new.self.items))
    (type.Arrow (f c.args.left) (f c.args.right)) c.in_ok-place.place
    (arrow_tree f c.args.left c.args.right c.push-2.new.self.items
    (c.in_ok-push-2.ensures.items ∙ ap (λ (xs : List ℕ). xs ++ c.args.right ∷ [])
    (c.in_ok-push.ensures.items ∙ ap (λ (xs : List ℕ). xs ++ c.args.left ∷ []) c.new-arguments.ensures.items)))
    c.in_ok-place.ensures
