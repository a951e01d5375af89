use Rattle.std.proofs.Common.{◌∙◌, ◌∷◌, [], ap, map, sym}
use Rattle.cu_calculus.specs.Term.{Any}
use Rattle.cu_kernel.specs.LocalTermsOf.{local_term_of}
use Rattle.cu_kernel.specs.TermsOf.{pattern_of, pattern_of-Var}
use Rattle.cu_lex.specs.Reading.{position_of}
use Rattle.cu_translation.specs.Meaning.{position_meaning}
use Rattle.cu_forms.proofs.CallLemmas.{if_ok}
use Rattle.cu_forms.proofs.FunctionLemmas.{generator_matched, generator_variable}
use Rattle.cu_forms.proofs.local_functions.generator.Goals as goal

pub returns-then-branch : goal.returns-then-branch
returns-then-branch g c w tells of =
    let is = sym c.if-branch.true ∙ c.in_ok-is_variable.ensures w.names in
    if_ok c.new_function.result
    (λ f e. e ∙ generator_variable w (position_of c.args.place) c.args.p (local_term_of c.args.rest) (map pattern_of c.in_ok-params.params.items) is
    (ap (map pattern_of) c.in_ok-params.ensures.items ∙ ap (λ q. q ∷ []) (c.in_ok-matched.ensures w tells of)))
    (c.new_function.ensures w tells)

pub returns : goal.returns
returns g c w tells of =
    let is = sym c.if-branch.false ∙ c.in_ok-is_variable.ensures w.names in
    let at = position_meaning c.of-at.result in
    if_ok c.new_function-2.result
    (λ f e. e ∙ generator_matched w (position_of c.args.place) at c.args.p (local_term_of c.args.rest) (local_term_of c.in_ok-body.body) (map pattern_of c.in_ok-params-2.params.items) (pattern_of c.in_ok-matched.matched) is
    (c.of-at.ensures ∙ c.place.ensures.position w.names)
    (ap (map pattern_of) c.in_ok-params-2.ensures.items ∙ ap (λ q. q ∷ []) (pattern_of-Var c.variable.result ∙ ap Any (c.variable.ensures w tells)))
    (c.in_ok-body.ensures w tells) (c.in_ok-matched.ensures w tells of))
    (c.new_function-2.ensures w tells)
