use Rattle.std.proofs.Common.{◌∙◌, ◌++◌, map}
use Rattle.cu_kernel.specs.LocalTermsOf.{local_term_of}
use Rattle.cu_kernel.specs.TermsOf.{pattern_of}
use Rattle.cu_lex.specs.Reading.{position_of}
use Rattle.cu_locals.specs.Text.{text}
use Rattle.cu_translation.specs.LocalNames.{variable_entries}
use Rattle.cu_uses.specs.Gathered.{patterns_bind}
use Rattle.cu_forms.proofs.CallLemmas.{if_ok}
use Rattle.cu_forms.proofs.FunctionLemmas.{lambda_is}
use Rattle.cu_forms.proofs.QualifierLemmas.{sees_more}
use Rattle.cu_forms.proofs.local_functions.lambda_function.Goals as goal

pub returns : goal.returns
returns g c w local tells sees all of =
    let ps = c.args.lambda.parameters.now in
    let more = variable_entries (patterns_bind w.names ps) in
    let entries = c.in_ok-entries.ensures (text w.owner w.names sees.differ) all in
    let inner = sees_more w local more c.args.scope.now c.inside-inner.result c.as_slice.result.now c.in_ok-entries.entries.items sees c.as_slice.ensures.value entries.known entries.meaning c.inside-inner.ensures in
    if_ok c.new_function.result
    (λ f e. e ∙ lambda_is w local (position_of c.args.lambda.place) ps c.args.lambda.body (map pattern_of c.in_ok-params.params.items) (local_term_of c.in_ok-found.found) (c.in_ok-params.ensures w tells all)
    (c.in_ok-found.ensures w (more ++ local) tells inner of))
    (c.new_function.ensures w tells)
