use Rattle.std.proofs.Common.{◌++◌}
use Rattle.cu_locals.specs.Text.{text}
use Rattle.cu_translation.specs.LocalNames.{variable_entries}
use Rattle.cu_uses.specs.Gathered.{patterns_bind}
use Rattle.cu_forms.proofs.FunctionLemmas.{rule_is}
use Rattle.cu_forms.proofs.QualifierLemmas.{sees_more}
use Rattle.cu_forms.proofs.local_functions.rule.Goals as goal

pub returns : goal.returns
returns g c w local tells sees all of =
    let ps = c.args.parameters.now in
    let more = variable_entries (patterns_bind w.names ps) in
    let entries = c.in_ok-entries.ensures (text w.owner w.names sees.differ) all in
    let inner = sees_more w local more c.args.scope.now c.inside-inner.result c.as_slice.result.now c.in_ok-entries.entries.items sees c.as_slice.ensures.value entries.known entries.meaning c.inside-inner.ensures in
    rule_is w local ps c.args.right c.in_ok-params.params c.in_ok-body.body (c.in_ok-params.ensures w tells all) (c.in_ok-body.ensures w (more ++ local) tells inner of)
