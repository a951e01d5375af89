use Rattle.cu_pile.proofs.Working.{outcome_more}
use Rattle.cu_pile.proofs.worker.with_outcome.Goals as goal

pub returns : goal.returns
returns g c items numbers at kept =
    outcome_more (g.J.Job.promises c.args.job.now) items c.args.number numbers c.args.outcomes c.in_ok-outcomes.outcomes c.push.new.self.items c.args.item c.in_ok-outcome.outcome c.in_ok-outcomes.was
    c.in_ok-push.ensures.items at c.in_ok-outcome.ensures kept
