use Rattle.cu_uses.specs.Binders.{missing}
use Rattle.cu_uses.specs.Demands.{Lacks}
use Rattle.cu_uses.proofs.TopLemmas.{lacks, mapped_both, signed_added, told_added}
use Rattle.cu_uses.proofs.top_level.TopLevel.tell_lacking.Goals as goal

pub returns : goal.returns
returns c w t texts is has =
    mapped_both Lacks w (missing texts t.signs) (missing texts t.fixes) c.args.first.now c.tell_missing.new.first c.tell_missing-2.new.first
    (told_added (lacks texts) w t.signs c.args.self.now.values.signed.items c.as_slice.result.now c.args.first.now c.tell_missing.new.first c.as_slice.ensures.value
    (signed_added w.owner w.names t.declared t.signs c.args.self.now.values is.values) (c.tell_missing.ensures w texts has))
    (told_added (lacks texts) w t.fixes c.args.self.now.fixed.items c.as_slice-2.result.now c.tell_missing.new.first c.tell_missing-2.new.first c.as_slice-2.ensures.value
    is.fixed (c.tell_missing-2.ensures w texts has))
