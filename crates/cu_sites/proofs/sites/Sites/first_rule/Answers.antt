use Rattle.std.proofs.Common.{◌∙◌}
use Rattle.cu_uses.proofs.FoundLemmas.{on_ok}
use Rattle.cu_sites.proofs.PartLemmas.{first_written}
use Rattle.cu_sites.proofs.sites.Sites.first_rule.Goals as goal

pub returns : goal.returns
returns c t spot block is all of =
    on_ok c.push.result
    (λ pushed. first_written t c.args.self.now c.push.new.self c.args.inner c.in_ok-from_slice.field-0 c.in_ok-others.others c.args.others.now c.args.rule.now spot block pushed is
    (c.in_ok-from_slice.ensures.items ∙ c.as_slice.ensures.value) of (c.in_ok-others.ensures t of.name all)) c.push.ensures
