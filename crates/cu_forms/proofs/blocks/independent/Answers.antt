use Rattle.std.proofs.Common.{◌∙◌, ap, sym}
use Rattle.std.specs.List.{find}
use Rattle.cu_translation.specs.Blocks.{depends_on_none}
use Rattle.cu_forms.specs.Inside.Blocks.{bound_meaning, bounds_meaning}
use Rattle.cu_forms.proofs.BlockLemmas.{find_here, find_later, find_nowhere}
use Rattle.cu_forms.proofs.blocks.independent.Goals as goal

pub returns-then-depends_on_none-clause-first : goal.returns-then-depends_on_none-clause-first
returns-then-depends_on_none-clause-first g c w tells =
    let bounds = bounds_meaning c.args.left.now in
    let p = depends_on_none w.around.numbers.depends bounds in
    find_here p c.args.left.now c.loop-index.index c.index-left-index.result (find p bounds) c.loop-index-test.true c.index-left-index.is
    (ap (λ b. p (bound_meaning b)) c.index-left-index.is ∙ sym (c.depends_on_none.ensures w tells) ∙ c.if-depends_on_none.true) (c.loop-index.invariant w tells)

pub loop-index-preserved : goal.loop-index-preserved
loop-index-preserved g c w tells =
    let bounds = bounds_meaning c.args.left.now in
    let p = depends_on_none w.around.numbers.depends bounds in
    find_later p c.args.left.now c.loop-index.index c.index-left-index.result (find p bounds) c.loop-index-test.true c.index-left-index.is
    (ap (λ b. p (bound_meaning b)) c.index-left-index.is ∙ sym (c.depends_on_none.ensures w tells) ∙ c.if-depends_on_none.false) (c.loop-index.invariant w tells)

pub returns : goal.returns
returns g c = record {
  within = tt;
  first = λ w tells.
      (let bounds = bounds_meaning c.args.left.now in
      let p = depends_on_none w.around.numbers.depends bounds in
      find_nowhere p c.args.left.now c.loop-index.index (find p bounds) c.loop-index-test.false (c.loop-index.invariant w tells));
}
