use Rattle.std.proofs.Common.{◌∙◌, ap, map}
use Rattle.cu_calculus.specs.Term.{Any}
use Rattle.cu_kernel.specs.LocalTerm.{Variable}
use Rattle.cu_kernel.specs.LocalTermsOf.{local_term_of, local_term_of-Var}
use Rattle.cu_kernel.specs.TermsOf.{pattern_of-Var}
use Rattle.cu_kernel.specs.declared.local.LocalTerm.TheVariants as boxed
use Rattle.cu_kernel.specs.declared.term.Pattern.TheVariants as pattern
use Rattle.cu_translation.specs.Meaning.{position_meaning}
use Rattle.cu_forms.specs.Inside.Lists.{list_term}
use Rattle.cu_forms.proofs.FunctionLemmas.{matched_is}
use Rattle.cu_forms.proofs.local_functions.if_matched.Goals as goal

pub returns : goal.returns
returns g c w tells =
    matched_is w.around (position_meaning c.args.at) c.args.matched (pattern.Var c.variable-2.result) c.args.rest c.in_ok-none.none (boxed.Var c.variable.result) c.in_ok-whole.whole c.in_ok-rows.rows
    c.in_ok-whole.ensures.ok (local_term_of-Var c.variable.result ∙ ap Variable (c.variable.ensures w tells)) c.in_ok-rows.ensures.items
    (pattern_of-Var c.variable-2.result ∙ ap Any (c.variable-2.ensures w tells))
    (c.in_ok-none.ensures w tells ∙ ap (λ xs. list_term w.around.names (map local_term_of xs)) c.new-2.ensures.items)
