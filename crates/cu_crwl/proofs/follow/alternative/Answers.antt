use Rattle.cu_crwl.proofs.FollowForms.{alternative_here, alternative_past}
use Rattle.cu_crwl.proofs.follow.alternative.Goals as goal

pub returns-then-choice-alternatives : goal.returns-then-choice-alternatives
returns-then-choice-alternatives c = alternative_past c.args.alternatives.now c.args.choice c.if-choice-alternatives.true

pub returns : goal.returns
returns c =
    alternative_here c.args.alternatives.now c.args.choice c.index-alternatives-choice.result c.if-choice-alternatives.false c.index-alternatives-choice.is
