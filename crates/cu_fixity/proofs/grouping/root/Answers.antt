-- Each piece raises what was found before it, or leaves it.
use Rattle.std.proofs.Common.{arith, ap, sym, ◌∙◌, ◌+◌}
use Rattle.cu_fixity.specs.Pieces.{fixity_at, items_of}
use Rattle.cu_fixity.specs.Ranges.{between, candidate, root}
use Rattle.cu_fixity.proofs.RangeLemmas.{one_more, raised_within}
use Rattle.cu_fixity.proofs.grouping.root.Goals as goal

pub loop-n-preserved : goal.loop-n-preserved
loop-n-preserved c =
    let pieces = c.args.pieces.now in
    let n = c.loop-n.n in
    record {
      rises = omega (arith, c.loop-n.invariant.rises);
      ends = omega (arith, c.loop-n-test.true);
      within =
          raised_within pieces c.args.from c.loop-n.best c.better-best.result n c.better-best.ensures c.loop-n.invariant.rises c.loop-n.invariant.within;
      same =
          ap (λ best. root (fixity_at pieces) (n + 1) (candidate best) (between (n + 1) c.args.to (items_of pieces))) c.better-best.ensures
          ∙ sym (one_more pieces n c.args.to c.loop-n.best c.loop-n-test.true c.requires.ends) ∙ c.loop-n.invariant.same;
    }
