use Rattle.std.proofs.Common.{ap, not, subst, sym, ◌∙◌}
use Rattle.cu_syntax.specs.Owners.{ExpressionNodeIsOf}
use Rattle.cu_faults.specs.Inside.Uses.{operation_clash}
use Rattle.cu_faults.specs.Telling.{Told}
use Rattle.cu_faults.proofs.ToldLemmas.{told_as, told_none}
use Rattle.cu_faults.proofs.UseLemmas.{clash_without_tree, no_clash, no_clash_in_tree}
use Rattle.cu_faults.proofs.operations.clash.Goals.{then-is_none, else-is_none}
use Rattle.cu_faults.proofs.operations.clash.Goals as goal

pub returns : goal.returns
returns g c w local tells sees of =
    let e = c.args.e in
    let items = c.in-Operators.items in
    let meaning = c.in_ok-items.ensures.meaning w.names in
    let owned = subst (ExpressionNodeIsOf w.owner w.names) c.in-Operators.is (c.in_ok-items.ensures.owned w.owner w.names of) in
    elim c.if-is_none.branch [
      | then-is_none s ↦
          subst (λ f. Told w.owner c.args.first.now (operation_clash w local e) f) (sym s.first-is)
          (told_as
          (sym (clash_without_tree w local e c.in_ok-items.field-0 items c.in_ok-tree_of.field-0 meaning c.in-Operators.is (c.in_ok-tree_of.ensures.none w local tells sees owned)
          (c.is_none.ensures ∙ ap not s.if-is_none.true)))
          (s.tell.ensures w.owner owned.0))
      | else-is_none s ↦
          subst (λ f. Told w.owner c.args.first.now (operation_clash w local e) f) (sym s.first-is)
          (told_as
          (sym (no_clash_in_tree w local e c.in_ok-items.field-0 items c.in_ok-tree_of.field-0 meaning c.in-Operators.is (c.in_ok-tree_of.ensures.some w local tells sees owned)
          (c.is_none.ensures ∙ ap not s.if-is_none.false)))
          (told_none w.owner c.args.first.now))
    ]

pub returns-in_default : goal.returns-in_default
returns-in_default g c w local tells sees of =
    told_as (sym (no_clash w local c.args.e c.in_ok-items.field-0 (c.in_ok-items.ensures.meaning w.names) c.in_default.not-Operators)) (told_none w.owner c.args.first.now)
