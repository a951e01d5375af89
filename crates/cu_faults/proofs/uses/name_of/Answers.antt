use Rattle.std.proofs.Common.{subst, ◌∙◌, IfSome}
use Rattle.cu_forms.proofs.CallLemmas.{if_ok}
use Rattle.cu_syntax.specs.Owners.{ExpressionIsOf}
use Rattle.cu_faults.proofs.UseLemmas.{no_argument, one_argument}
use Rattle.cu_faults.proofs.uses.name_of.Goals as goal

pub returns-in-Some : goal.returns-in-Some
returns-in-Some g c w local tells sees of =
    let owned = subst (λ o. IfSome o (ExpressionIsOf w.owner w.names)) c.in-Some.is of in
    if_ok c.name_alone.result (λ found named. named ∙ one_argument w local c.args.argument c.in-Some.e c.in-Some.is) (c.name_alone.ensures w local tells sees owned)

pub returns-in-None : goal.returns-in-None
returns-in-None g c w local tells sees of = no_argument w local c.args.argument c.in-None.is
