use Rattle.std.proofs.Common.{IfSome, None, Some, subst}
use Rattle.cu_uses.proofs.FoundLemmas.{on_ok}
use Rattle.cu_sites.specs.Meaning.{RuleIsOf}
use Rattle.cu_sites.proofs.RuleLemmas.{reads_found}
use Rattle.cu_sites.proofs.grouping.Grouping.read.Goals as goal

pub returns-in-Some : goal.returns-in-Some
returns-in-Some c t rule of found =
    on_ok c.rule.result (reads_found t c.args.self.now c.rule.new.self rule c.args.found (Some c.in-Some.rule) c.in-Some.is found.meaning)
    (c.rule.ensures t of (subst (λ r. IfSome r (RuleIsOf t.owner t.names)) c.in-Some.is found.owned))

pub returns-in-None : goal.returns-in-None
returns-in-None c t rule of found =
    on_ok c.end.result (reads_found t c.args.self.now c.end.new.self rule c.args.found None c.in-None.is found.meaning) (c.end.ensures.reads t)
