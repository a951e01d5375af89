use Rattle.std.proofs.Common.{◌∙◌, ap}
use Rattle.cu_lex.specs.Reading.{position_of}
use Rattle.cu_locals.specs.Text.{text}
use Rattle.cu_translation.specs.LocalNames.{variable_entries}
use Rattle.cu_uses.specs.Gathered.{pattern_binds}
use Rattle.cu_forms.specs.Forms.{scope_after}
use Rattle.cu_forms.specs.Inside.Functions.{generator_of}
use Rattle.cu_forms.proofs.CallLemmas.{if_ok}
use Rattle.cu_forms.proofs.FunctionLemmas.{generator_whole}
use Rattle.cu_forms.proofs.QualifierLemmas.{sees_more}
use Rattle.cu_forms.proofs.local_functions.generator_function.Goals as goal

pub returns : goal.returns
returns g c w local tells sees of is =
    let p = c.args.qualifier.pattern in
    let at = position_of c.args.qualifier.place in
    let entries = c.in_ok-entries.ensures (text w.owner w.names sees.differ) of in
    let inner = sees_more w local (variable_entries (pattern_binds w.names p)) c.args.scope.now c.inside-inner.result c.as_slice.result.now c.in_ok-entries.entries.items sees c.as_slice.ensures.value
    entries.known entries.meaning c.inside-inner.ensures in
    if_ok c.generator.result
    (λ f e. e ∙ ap (generator_of w at p) (c.in_ok-rest.ensures w (scope_after w local p) tells inner is) ∙ generator_whole w local at p c.args.qualifier.whole c.args.qualifier.count)
    (c.generator.ensures w tells of)
