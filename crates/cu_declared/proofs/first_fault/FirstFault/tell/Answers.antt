use Rattle.std.proofs.Common.{◌∙◌, sym}
use Rattle.cu_declared.proofs.OrderLemmas.{told_alone, told_earlier, told_later}
use Rattle.cu_declared.proofs.first_fault.FirstFault.tell.Goals as goal

pub returns-then-is_before : goal.returns-then-is_before
returns-then-is_before c owner names faults of told =
    told_earlier owner names faults c.args.self.now c.in-Some.first c.args.fault c.in-Some.is of told (sym (c.is_before.ensures names) ∙ c.if-is_before.true)

pub returns-else-is_before : goal.returns-else-is_before
returns-else-is_before c owner names faults of told =
    told_later owner names faults c.args.self.now c.in-Some.first c.args.fault c.in-Some.is told (sym (c.is_before.ensures names) ∙ c.if-is_before.false)

pub returns-in-None : goal.returns-in-None
returns-in-None c owner names faults of told = told_alone owner names faults c.args.self.now c.args.fault c.in-None.is of told
