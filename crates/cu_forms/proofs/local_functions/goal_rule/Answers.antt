use Rattle.cu_locals.specs.Text.{text}
use Rattle.cu_translation.specs.LocalNames.{variable_entries}
use Rattle.cu_uses.specs.Gathered.{names_meaning}
use Rattle.cu_forms.proofs.FunctionLemmas.{goal_is}
use Rattle.cu_forms.proofs.QualifierLemmas.{sees_outermost}
use Rattle.cu_forms.proofs.local_functions.goal_rule.Goals as goal

pub returns : goal.returns
returns g c w tells differ all of =
    let xs = c.args.free.now in
    let more = variable_entries (names_meaning w.names xs) in
    let entries = c.in_ok-entries.ensures (text w.owner w.names differ) all in
    let sees = sees_outermost w more c.outermost-scope.result c.as_slice.result.now c.in_ok-entries.entries.items differ c.as_slice.ensures.value entries.known entries.meaning c.outermost-scope.ensures in
    goal_is w xs c.args.goal c.in_ok-params.params c.in_ok-body.body (c.in_ok-params.ensures w tells) (c.in_ok-body.ensures w more tells sees of)
