use Rattle.std.proofs.Common.{refl}
use Rattle.cu_peg.proofs.PlaceLemmas.{kept-all, kept-more}
use Rattle.cu_peg.proofs.places.keep.Goals as goal

pub loop-row-preserved : goal.loop-row-preserved
loop-row-preserved c =
    kept-more c.args.certain.now c.args.ends.now c.args.left c.loop-row.row _ c.args.entries.now.items c.loop-row.entries.items c.keep_one.new.entries.items c.loop-row.invariant refl c.in_ok-keep_one.ensures.kept

pub returns-clause-kept : goal.returns-clause-kept
returns-clause-kept c =
    kept-all c.args.certain.now c.args.ends.now c.args.left c.loop-row.row c.args.entries.now.items c.loop-row.entries.items c.loop-row.invariant c.loop-row-test.false c.requires
