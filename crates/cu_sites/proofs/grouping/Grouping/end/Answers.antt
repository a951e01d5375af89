use Rattle.std.proofs.Common.{◌∙◌, sym}
use Rattle.cu_sites.proofs.RuleLemmas.{reads_end_some}
use Rattle.cu_sites.proofs.grouping.Grouping.end.Goals as goal

pub returns-clause-reads : goal.returns-clause-reads
returns-clause-reads c t =
    reads_end_some t c.args.self.now (record { done = c.push.new.self; last = c.take.new.self }) c.in-Some.group (sym c.take.ensures.value ∙ c.in-Some.is) c.take.ensures.after c.in_ok-push.ensures.items
