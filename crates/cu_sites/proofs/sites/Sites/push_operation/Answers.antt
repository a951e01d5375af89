use Rattle.std.proofs.Common.{subst, sym, List}
use Rattle.std.specs.List.{All}
use Rattle.cu_syntax.specs.ExpressionMeaning.{expression_meaning}
use Rattle.cu_syntax.specs.Owners.{ExpressionNodeIsOf, OperatorItemIsOf}
use Rattle.cu_syntax.specs.declared.expressions.ExpressionNode.{ExpressionNode}
use Rattle.cu_syntax.specs.declared.expressions.OperatorItem.{OperatorItem}
use Rattle.cu_sites.specs.Inside.Using.{Finds, operators_mean}
use Rattle.cu_uses.proofs.FoundLemmas.{on_ok}
use Rattle.cu_sites.proofs.UseLemmas.{operation_found, operation_none}
use Rattle.cu_sites.proofs.sites.Sites.push_operation.Goals as goal

pub returns-in-Operators : goal.returns-in-Operators
returns-in-Operators c t names at of =
    let owned = subst (λ (v : ExpressionNode). ExpressionNodeIsOf t.owner t.names v) c.in-Operators.is (c.in_ok-items.ensures.owned t.owner t.names of) in
    on_ok c.push_operators.result
    (λ found.
    operation_found t.names names (expression_meaning t.names c.args.e) c.in_ok-items.field-0 c.in-Operators.items c.args.found.now.items
    c.push_operators.new.found.items (c.in_ok-items.ensures.meaning t.names) c.in-Operators.is
    (subst (λ (items : List OperatorItem). Finds c.args.found.now.items (operators_mean t.names names items) c.push_operators.new.found.items)
    c.as_slice.ensures.value found))
    (c.push_operators.ensures t names at (subst (All (OperatorItemIsOf t.owner t.names)) (sym c.as_slice.ensures.value) owned.3))

pub returns : goal.returns
returns c t names at of =
    operation_none t.names names (expression_meaning t.names c.args.e) c.in_ok-items.field-0 c.args.found.now.items (c.in_ok-items.ensures.meaning t.names)
    c.in_default.not-Operators
