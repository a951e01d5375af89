use Rattle.std.proofs.Common.{◌∙◌}
use Rattle.cu_search.specs.Stands.{notation_of}
use Rattle.cu_search.proofs.LineLemmas.{first_wait, one_more_wait}
use Rattle.cu_search.proofs.lines.push_waits_on.Goals as goal

pub loop-other-init : goal.loop-other-init
loop-other-init c =
    first_wait (notation_of c.args.wording.now).variables c.args.first c.args.others.now _ _ _ c.in_ok-push_str.ensures c.in_ok-push_waited.ensures

pub loop-other-preserved : goal.loop-other-preserved
loop-other-preserved c =
    one_more_wait (notation_of c.args.wording.now).variables c.args.others.now c.loop-other.other-index _ _ _ _ c.loop-other-test.true
    c.in_ok-push_str-2.ensures c.in_ok-push_waited-2.ensures ∙ c.loop-other.invariant
