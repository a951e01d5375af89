use Rattle.std.proofs.Common.{◌<◌, ◌≤◌, false, get_or, length, arith}
use Rattle.std.proofs.lemmas.Option.{slice_get-get_or}
use Rattle.cu_lift.proofs.Demands.{collects_next, collects_none}
use Rattle.cu_lift.specs.declared.mentions.Mention.{Mention}
use Rattle.cu_lift.proofs.set_levels.collected_in.Goals as goal

abbrev none : Mention
none = record { function = record { 0 = 0 }; collected = false }

pub loop-mention-preserved : goal.loop-mention-preserved
loop-mention-preserved c =
    let i = c.loop-mention.mention-index in
    let row = c.args.row.now in
    let low : i < length row = omega arith in
    collects_next c.args.ranks.now row c.args.rank i (get_or row i none) (slice_get-get_or row i none low) c.loop-mention.invariant
    (c.collects.ensures.fails c.if-collects.false)

pub returns-clause-none : goal.returns-clause-none
returns-clause-none c =
    let end : length c.args.row.now ≤ c.loop-mention.mention-index = omega arith in
    collects_none c.args.ranks.now c.args.row.now c.args.rank c.loop-mention.mention-index end c.loop-mention.invariant
