use Rattle.cu_flattext.specs.Inside.Circles.{is_known}
use Rattle.cu_flattext.specs.TypeTexts.{is_or_passes}
use Rattle.cu_flattext.proofs.CircleLemmas.{one_more_synonym}
use Rattle.cu_flattext.proofs.circles.one_step_more.Goals as goal

pub loop-synonym-preserved : goal.loop-synonym-preserved
loop-synonym-preserved c =
    one_more_synonym (is_or_passes c.args.goal (is_known c.args.known.now)) c.args.synonyms.now c.loop-synonym.synonym-index c.synonym-item.result
    c.loop-synonym.more.items c.push.new.self.items c.in_ok-leads.leads c.loop-synonym-test.true c.synonym-item.is c.in_ok-push.ensures.items
    c.in_ok-leads.ensures c.loop-synonym.invariant
