use Rattle.std.proofs.Common.{◌≡◌, ℕ, List, true, subst}
use Rattle.std.specs.Prelude.{All}
use Rattle.std.proofs.lemmas.List.{take_all}
use Rattle.cu_peg.specs.Inside.Closure.{marked}
use Rattle.cu_peg.proofs.ReachLemmas.{parts-more, spreads-then}
use Rattle.cu_peg.proofs.reached.reach_all.Goals as goal

pub loop-part-preserved : goal.loop-part-preserved
loop-part-preserved c =
    let s = c.in_ok-reach.ensures.spreads in
    let k = c.loop-part.invariant in
    record {
      spreads = spreads-then c.args.marks.now.items c.loop-part.marks.items c.reach.new.marks.items c.args.pending.now.items c.loop-part.pending.items c.reach.new.pending.items k.spreads s;
      reached = parts-more c.args.parts.now c.loop-part.marks.items c.reach.new.marks.items c.loop-part.pending.items c.reach.new.pending.items c.loop-part.part-index 0 c.loop-part-test.true k.reached s c.in_ok-reach.ensures.reached;
    }

pub returns-clause-reached : goal.returns-clause-reached
returns-clause-reached c =
    subst (λ (ps : List ℕ). All (λ p. marked c.loop-part.marks.items p ≡ true) ps) (take_all c.loop-part.part-index c.args.parts.now c.loop-part-test.false) c.loop-part.invariant.reached
