use Rattle.std.proofs.Common.{ℕ, ◌<◌, sym, subst, ◌∙◌}
use Rattle.std.proofs.Math.ListN.{length-set}
use Rattle.cu_types.proofs.ForestLemmas.{IsHalving, halved_forest, halved_represents, halved_roots, halving_class, halving_nearer, halving_read, halving_within}
use Rattle.cu_types.proofs.classes.Classes.find.Goals as goal

pub loop-at-smaller : goal.loop-at-smaller
loop-at-smaller c =
    let ps = c.loop-at.self.parents.items in
    let rs = c.loop-at.self.ranks.items in
    let h : IsHalving ps rs c.loop-at.at c.index-beyond.result.now =
    halving_read ps rs c.loop-at.at c.index.result.now c.index-parent.result.now c.index-beyond.result.now
    c.loop-at.invariant.forest c.loop-at.invariant.within c.index.ensures c.loop-at-test.true c.index-parent.ensures c.index-beyond.ensures in
    halving_nearer ps rs c.loop-at.at c.index-beyond.result.now h

pub loop-at-preserved : goal.loop-at-preserved
loop-at-preserved c =
    let ps = c.loop-at.self.parents.items in
    let rs = c.loop-at.self.ranks.items in
    let h : IsHalving ps rs c.loop-at.at c.index-beyond.result.now =
    halving_read ps rs c.loop-at.at c.index.result.now c.index-parent.result.now c.index-beyond.result.now
    c.loop-at.invariant.forest c.loop-at.invariant.within c.index.ensures c.loop-at-test.true c.index-parent.ensures c.index-beyond.ensures in
    record {
      sized = length-set ps c.loop-at.at c.index-beyond.result.now ∙ c.loop-at.invariant.sized;
      within = subst (λ (n : ℕ). c.index-beyond.result.now < n) (sym (length-set ps c.loop-at.at c.index-beyond.result.now)) (halving_within ps rs c.loop-at.at c.index-beyond.result.now h);
      forest = halved_forest ps rs c.loop-at.at c.index-beyond.result.now h;
      roots = λ k. halved_roots ps rs c.loop-at.at c.index-beyond.result.now h k ∙ c.loop-at.invariant.roots k;
      class = λ class r.
          let before = c.loop-at.invariant.class class r in (
            halved_represents ps rs c.loop-at.at c.index-beyond.result.now class h before.0,
            halving_class ps rs c.loop-at.at c.index-beyond.result.now class h before.0 ∙ before.1,
          );
    }
