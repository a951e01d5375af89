use Rattle.cu_forms.proofs.BlockLemmas.{let_is}
use Rattle.cu_forms.proofs.blocks.scope_after.Goals as goal

pub returns : goal.returns
returns g c w tells =
    let_is w.around c.args.bound c.variable.result c.in_ok-definition.definition c.in_ok-term.term c.args.term (c.variable.ensures w tells) c.in_ok-definition.ensures.ok c.in_ok-term.ensures.ok
