use Rattle.std.proofs.Common.{◌∙◌, ◌∷◌, [], ap, map, refl, subst, sym}
use Rattle.std.specs.List.{All}
use Rattle.cu_faults.specs.Telling.{setting}
use Rattle.cu_forms.proofs.CallLemmas.{if_ok}
use Rattle.cu_kernel.specs.LocalKernel.{LocalFunction}
use Rattle.cu_kernel.specs.LocalKernelOf.{local_function_meaning}
use Rattle.cu_sites.specs.Meaning.{IsSite, blocks_in}
use Rattle.cu_sites.specs.declared.sites.Site.{Site}
use Rattle.cu_syntax.specs.Declarations.{right_meaning}
use Rattle.cu_syntax.specs.Owners.{PatternIsOf}
use Rattle.cu_desugar.proofs.FunctionLemmas.{generator_is, lambda_is, none_at, scope_seen, selectors_are}
use Rattle.cu_desugar.proofs.local_functions.functions_of.Goals as goal

pub returns-in_ok-function-in-Lambda : goal.returns-in_ok-function-in-Lambda
returns-in_ok-function-in-Lambda c t a n around spot is =
    let site = subst (λ (s : Site). IsSite t (blocks_in c.args.sites.now) s n.site) c.in-Lambda.is is in
    let local = n.spot.scope in
    let slice = c.as_slice-parameters.result.now in
    let same = c.as_slice-parameters.ensures.value in
    let sees = scope_seen t a local c.in_ok-entries-in-Lambda.entries.items c.as_slice.result.now c.outermost-scope.result (c.in_ok-entries-in-Lambda.ensures t n.spot spot)
    c.as_slice.ensures.value c.outermost-scope.ensures in
    let all = subst (All (PatternIsOf t.owner t.names)) (sym same) site.2 in
    if_ok c.alone.result
    (λ fs one. ap (map local_function_meaning) one
    ∙ ap (λ (f : LocalFunction). f ∷ []) (c.in_ok-function-in-Lambda.ensures (setting t a) local around sees all site.3)
    ∙ lambda_is t a local c.in-Lambda.place slice c.in-Lambda.parameters.items c.in-Lambda.body n.site same site.0) c.alone.ensures

pub returns-in_ok-function-in-Generated : goal.returns-in_ok-function-in-Generated
returns-in_ok-function-in-Generated c t a n around spot is =
    let site = subst (λ (s : Site). IsSite t (blocks_in c.args.sites.now) s n.site) c.in-Generated.is is in
    let local = n.spot.scope in
    let sees = scope_seen t a local c.in_ok-entries-in-Generated.entries.items c.as_slice-in-Generated.result.now c.outermost-scope-in-Generated.result (c.in_ok-entries-in-Generated.ensures t n.spot spot)
    c.as_slice-in-Generated.ensures.value c.outermost-scope-in-Generated.ensures in
    if_ok c.alone-in-Generated.result
    (λ fs one. ap (map local_function_meaning) one
    ∙ ap (λ (f : LocalFunction). f ∷ []) (c.in_ok-function-in-Generated.ensures (setting t a) local around sees site.2 site.3)
    ∙ generator_is t a local c.in-Generated.place c.in-Generated.p c.in-Generated.whole c.in-Generated.number n.site site.0) c.alone-in-Generated.ensures

pub returns-in-Function : goal.returns-in-Function
returns-in-Function c t a n around spot is =
    c.in_block.ensures t a n around spot (subst (λ (s : Site). IsSite t (blocks_in c.args.sites.now) s n.site) c.in-Function.is is)

pub returns-in-Bound : goal.returns-in-Bound
returns-in-Bound c t a n around spot is =
    let site = subst (λ (s : Site). IsSite t (blocks_in c.args.sites.now) s n.site) c.in-Bound.is is in
    if_ok c.selectors.result (λ fs same. same ∙ selectors_are t a n.spot.scope c.in-Bound.p (right_meaning t.names c.in-Bound.field-1) n.site site.0)
    (c.selectors.ensures (setting t a) around t.differ site.1)

pub returns-in-Use : goal.returns-in-Use
returns-in-Use c t a n around spot is =
    let site = subst (λ (s : Site). IsSite t (blocks_in c.args.sites.now) s n.site) c.in-Use.is is in
    ap (map local_function_meaning) c.new.ensures.items ∙ none_at a n.spot.scope n.site _ site.0 refl

pub returns-in-Operation : goal.returns-in-Operation
returns-in-Operation c t a n around spot is =
    let site = subst (λ (s : Site). IsSite t (blocks_in c.args.sites.now) s n.site) c.in-Operation.is is in
    ap (map local_function_meaning) c.new-in-Operation.ensures.items ∙ none_at a n.spot.scope n.site _ site.0 refl

pub returns-in-Matched : goal.returns-in-Matched
returns-in-Matched c t a n around spot is =
    let site = subst (λ (s : Site). IsSite t (blocks_in c.args.sites.now) s n.site) c.in-Matched.is is in
    ap (map local_function_meaning) c.new-in-Matched.ensures.items ∙ none_at a n.spot.scope n.site _ site.0 refl

pub returns-in-Defined : goal.returns-in-Defined
returns-in-Defined c t a n around spot is =
    let site = subst (λ (s : Site). IsSite t (blocks_in c.args.sites.now) s n.site) c.in-Defined.is is in
    ap (map local_function_meaning) c.new-in-Defined.ensures.items ∙ none_at a n.spot.scope n.site _ site.0 refl

pub returns-in-Free : goal.returns-in-Free
returns-in-Free c t a n around spot is =
    let site = subst (λ (s : Site). IsSite t (blocks_in c.args.sites.now) s n.site) c.in-Free.is is in
    ap (map local_function_meaning) c.new-in-Free.ensures.items ∙ none_at a n.spot.scope n.site _ site.0 refl
