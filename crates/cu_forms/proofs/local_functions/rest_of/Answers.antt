use Rattle.std.proofs.Common.{◌∙◌, ap, drop, subst, sym}
use Rattle.std.proofs.lemmas.List.Elements.{All-drop, All-nil}
use Rattle.std.specs.List.{All}
use Rattle.cu_syntax.specs.Owners.{ExpressionNodeIsOf, QualifierIsOf}
use Rattle.cu_forms.specs.Forms.{comprehension_form}
use Rattle.cu_forms.proofs.CallLemmas.{if_ok}
use Rattle.cu_forms.proofs.FunctionLemmas.{rest_is, rest_other}
use Rattle.cu_forms.proofs.local_functions.rest_of.Goals as goal

pub returns-in-Comprehension : goal.returns-in-Comprehension
returns-in-Comprehension g c w local tells sees is =
    let Q = QualifierIsOf w.owner w.names in
    let e = c.in-Comprehension.element in
    let qs = c.in-Comprehension.qualifiers in
    let n = c.args.count in
    let of = subst (ExpressionNodeIsOf w.owner w.names) c.in-Comprehension.is (c.in_ok-element.ensures.owned w.owner w.names is) in
    let rest = c.after-rest.ensures ∙ ap (drop n) c.as_slice.ensures.value in
    let all = subst (All Q) (sym rest) (All-drop Q n qs.items of.2) in
    if_ok c.comprehension.result
    (λ t same. same ∙ ap (comprehension_form w local e) rest ∙ rest_is w local c.args.whole c.in_ok-element.field-0 c.in-Comprehension.field-0 e qs n (c.in_ok-element.ensures.meaning w.names) c.in-Comprehension.is)
    (c.comprehension.ensures w local tells sees of.1 all)

pub returns : goal.returns
returns g c w local tells sees is =
    if_ok c.comprehension-2.result
    (λ t same. same ∙ rest_other w local c.args.whole c.in_ok-element.field-0 c.args.count (c.in_ok-element.ensures.meaning w.names) c.in_default.not-Comprehension)
    (c.comprehension-2.ensures w local tells sees is (All-nil (QualifierIsOf w.owner w.names)))
