use Rattle.std.proofs.Common.{ap, not, subst, sym, ◌∙◌}
use Rattle.cu_faults.specs.Inside.Patterns.{operators_clash}
use Rattle.cu_faults.specs.Telling.{Told}
use Rattle.cu_faults.proofs.ClashLemmas.{clash_found, tree_found}
use Rattle.cu_faults.proofs.ToldLemmas.{told_as, told_none}
use Rattle.cu_faults.proofs.clashes.tell_clash.Goals.{then-is_none, else-is_none}
use Rattle.cu_faults.proofs.clashes.tell_clash.Goals as goal

pub returns : goal.returns
returns g c w tells of =
    let items = c.args.items.now in
    let seen = c.as_slice.ensures.value ∙ c.in_ok-pieces.ensures w tells of in
    elim c.if-is_none.branch [
      | then-is_none s ↦
          subst (λ f. Told w.owner c.args.first.now (operators_clash w items) f) (sym s.first-is)
          (told_as (sym (clash_found w items c.as_slice.result.now c.in_ok-group.field-0 seen c.in_ok-group.ensures.none (c.is_none.ensures ∙ ap not s.if-is_none.true)))
          (s.tell.ensures w.owner of.0))
      | else-is_none s ↦
          subst (λ f. Told w.owner c.args.first.now (operators_clash w items) f) (sym s.first-is)
          (told_as (sym (tree_found w items c.as_slice.result.now c.in_ok-group.field-0 seen c.in_ok-group.ensures.tree (c.is_none.ensures ∙ ap not s.if-is_none.false)))
          (told_none w.owner c.args.first.now))
    ]
