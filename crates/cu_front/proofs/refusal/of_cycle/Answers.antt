use Rattle.std.proofs.Common.{◌∙◌}
use Rattle.cu_front.proofs.CycleLemmas.{no_more, one_more}
use Rattle.cu_front.proofs.refusal.of_cycle.Goals as goal

pub ids-preserved : goal.ids-preserved
ids-preserved c =
    one_more c.args.names.now c.args.ids.now c.ids.id-index (record { 0 = 0 }) _ _ _ _
    c.ids-test.true c.in_ok-push_str.ensures.bytes c.text.ensures
    c.in_ok-push_str-2.ensures.bytes ∙ c.ids.invariant

pub text-requires : goal.text-requires
text-requires c = c.requires c.ids.id-index (record { 0 = 0 }) c.ids-test.true

pub returns : goal.returns
returns c =
    no_more c.args.names.now c.args.ids.now c.ids.id-index _ _ _ c.ids-test.false
    c.in_ok-push_str-3.ensures.bytes c.ids.invariant
