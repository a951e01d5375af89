use Rattle.std.proofs.Common.{◌≡◌, length, refl, sym, ◌∙◌, arith}
use Rattle.cu_kernel.specs.TypeExpr.{TypeExpr}
use Rattle.cu_types.proofs.SynonymLemmas.{mapped_itself, same_all, same_more}
use Rattle.cu_types.proofs.synonyms.are_same.Goals as goal

pub loop-index-preserved : goal.loop-index-preserved
loop-index-preserved c =
    let long : length c.args.left.now ≡ length c.args.right.now = omega arith in
    same_more (λ (t : TypeExpr). t) c.args.left.now c.args.right.now c.loop-index.index c.index-left-index.result
    c.index-right-index.result long c.loop-index-test.true c.index-left-index.is c.index-right-index.is
    (c.if-not-is_same.ensures refl) c.loop-index.invariant

pub returns : goal.returns
returns c = λ yes.
    let long : length c.args.left.now ≡ length c.args.right.now = omega arith in
    sym (mapped_itself c.args.left.now)
    ∙ same_all (λ (t : TypeExpr). t) c.args.left.now c.args.right.now c.loop-index.index long c.loop-index-test.false c.loop-index.invariant
    ∙ mapped_itself c.args.right.now
