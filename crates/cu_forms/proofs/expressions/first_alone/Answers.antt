use Rattle.std.proofs.Common.{◌≡◌, ◌∙◌, Some, ap, sym}
use Rattle.std.specs.Option.{option_copied}
use Rattle.std.specs.Prelude.{slice_get}
use Rattle.cu_syntax.specs.Owners.{ExpressionIsOf}
use Rattle.cu_forms.proofs.CallLemmas.{if_ok}
use Rattle.cu_forms.proofs.ExpressionLemmas.{first_named, first_of}
use Rattle.cu_forms.proofs.expressions.first_alone.Goals as goal

pub returns-in-Some : goal.returns-in-Some
returns-in-Some g c w local tells sees all =
    let e = c.in-Some.e.now in
    let es = c.args.es.now in
    let first : Some e ≡ slice_get es 0 = sym (ap option_copied c.in-Some.is) ∙ c.first.ensures.value in
    if_ok c.name_alone.result (λ r is. is ∙ first_named w local es e first)
    (c.name_alone.ensures w local tells sees (first_of (ExpressionIsOf w.owner w.names) es e first all))
