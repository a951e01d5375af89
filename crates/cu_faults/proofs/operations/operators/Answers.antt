use Rattle.std.proofs.Common.{◌+◌, IfSome, drop, subst, sym}
use Rattle.std.proofs.lemmas.List.Elements.{All-get_or}
use Rattle.cu_fixity.specs.Owners.{PartIsOf}
use Rattle.cu_syntax.specs.Owners.{ExpressionIsOf, NameIsOf}
use Rattle.cu_faults.specs.Inside.Uses.{parts_faults}
use Rattle.cu_faults.specs.Telling.{Told}
use Rattle.cu_faults.proofs.UseLemmas.{operator_owned, part_end, part_prefix}
use Rattle.cu_faults.proofs.operations.operators.Goals as goal

pub loop-part-preserved : goal.loop-part-preserved
loop-part-preserved g c w local tells sees all =
    let P = PartIsOf ExpressionIsOf w.owner w.names in
    let parts = c.args.parts.now in
    let i = c.loop-part.part-index in
    let x = c.part-item.result in
    let of = subst P (sym c.part-item.is) (All-get_or P parts i x c.loop-part-test.true all) in
    let before = c.loop-part.invariant w local tells sees all in (
      subst (λ o. IfSome o (NameIsOf w.owner w.names)) (sym c.operator_in-before.ensures) (operator_owned w.owner w.names x of),
      λ after rest.
          before.1 after
          (part_prefix w local c.loop-part.before parts i x c.loop-part.first c.operator.new.first after c.part-item.is c.loop-part-test.true (c.in_ok-operator.ensures w local tells sees before.0 of)
          (subst (λ o. Told w.owner c.operator.new.first (parts_faults w local o (drop (i + 1) parts)) after) c.operator_in-before.ensures rest)),
    )

pub returns : goal.returns
returns g c w local tells sees all =
    (c.loop-part.invariant w local tells sees all).1 c.loop-part.first
    (part_end w local c.loop-part.before c.args.parts.now c.loop-part.part-index c.loop-part.first c.loop-part-test.false)
