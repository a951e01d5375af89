use Rattle.cu_forms.proofs.ListLemmas.{distinguished}
use Rattle.cu_forms.proofs.lists.if_then_else.Goals as goal

pub returns : goal.returns
returns g c w tells =
    distinguished w.around.names c.in_ok-condition.condition c.args.condition c.args.chosen c.args.other c.constant-holds.result c.constant-fails.result c.in_ok-rows.rows
    c.in_ok-condition.ensures.ok c.in_ok-rows.ensures.items (c.constant-holds.ensures w tells) (c.constant-fails.ensures w tells)
