use Rattle.std.proofs.Common.{◌<◌, ◌≤◌, ◌∙◌, length, arith, ap, map}
use Rattle.cu_kernel.specs.LocalTermsOf.{local_term_of, local_term_of-Part, local_term_of-Whole}
use Rattle.cu_translation.specs.Terms.{applied}
use Rattle.cu_forms.proofs.CallLemmas.{if_ok, part_called, whole_called}
use Rattle.cu_forms.proofs.calls.call.Goals as goal

pub returns-then-len-count : goal.returns-then-len-count
returns-then-len-count c =
    let few : length c.args.arguments.items < c.args.count = omega arith in
    local_term_of-Part c.args.head c.args.arguments ∙ part_called c.args.head c.args.count c.args.arguments.items few

pub returns : goal.returns
returns c =
    let enough : c.args.count ≤ length c.args.arguments.items = omega arith in
    if_ok c.applied.result
    (λ t e. e ∙ ap (λ f. applied f (map local_term_of c.in_ok-parts.parts.1.items)) (local_term_of-Whole c.args.head c.in_ok-parts.parts.0)
    ∙ whole_called c.args.head c.args.count c.args.arguments.items c.in_ok-parts.parts.0.items c.in_ok-parts.parts.1.items enough c.in_ok-parts.ensures.first c.in_ok-parts.ensures.others)
    c.applied.ensures
