use Rattle.std.proofs.Common.{◌∙◌, ◌∷◌, ◌++◌, ap, map, subst, sym}
use Rattle.std.proofs.lemmas.List.Elements.{All-get_or}
use Rattle.std.specs.List.{All}
use Rattle.cu_faults.specs.Telling.{setting}
use Rattle.cu_forms.proofs.CallLemmas.{pushed_all, pushed_one}
use Rattle.cu_kernel.specs.LocalKernelOf.{local_rule_meaning}
use Rattle.cu_sites.specs.Meaning.{RuleIsOf}
use Rattle.cu_syntax.specs.Owners.{PatternIsOf}
use Rattle.cu_desugar.proofs.FunctionLemmas.{others_are, rule_in, rule_is}
use Rattle.cu_desugar.proofs.functions.rules.Goals as goal

pub loop-other-init : goal.loop-other-init
loop-other-init c t a local around sees of =
    let w = setting t a in
    let f = rule_in a t local in
    let first = c.args.group.now.first in
    let slice = c.as_slice-parameters.result.now in
    let same = c.as_slice-parameters.ensures.value in
    ap (λ rs. map local_rule_meaning rs ++ map f c.deref-other-items.result.now) c.in_ok-found.ensures.items
    ∙ ap (λ r. r ∷ map f c.deref-other-items.result.now)
    (c.in_ok-first_rule.ensures w local around sees (subst (All (PatternIsOf t.owner t.names)) (sym same) of.first.parameters) of.first.right ∙ rule_is w local slice first same)
    ∙ ap (λ rs. f first ∷ map f rs) c.deref-other-items.ensures.value

pub loop-other-preserved : goal.loop-other-preserved
loop-other-preserved c t a local around sees of =
    let w = setting t a in
    let f = rule_in a t local in
    let group = c.args.group.now in
    let xs = c.deref-other-items.result.now in
    let i = c.loop-other.other-index in
    let x = c.other-item.result in
    let P = RuleIsOf t.owner t.names in
    let all = subst (All P) (sym c.deref-other-items.ensures.value) of.others in
    let is = subst P (sym c.other-item.is) (All-get_or P xs i x c.loop-other-test.true all) in
    let same = c.as_slice-further.ensures.value in
    pushed_one local_rule_meaning f xs i x c.loop-other.found.items c.push.new.self.items c.in_ok-next.next (f group.first ∷ map f group.others.items) c.loop-other-test.true
    c.in_ok-push.ensures.items
    (c.in_ok-next.ensures w local around sees (subst (All (PatternIsOf t.owner t.names)) (sym same) is.parameters) is.right
    ∙ rule_is w local c.as_slice-further.result.now x same ∙ ap f c.other-item.is)
    (c.loop-other.invariant t a local around sees of)

pub returns : goal.returns
returns c t a local around sees of =
    let f = rule_in a t local in
    let group = c.args.group.now in
    pushed_all local_rule_meaning f c.deref-other-items.result.now c.loop-other.other-index c.loop-other.found.items (f group.first ∷ map f group.others.items) c.loop-other-test.false
    (c.loop-other.invariant t a local around sees of)
    ∙ ap (λ rs. f group.first ∷ rs) (others_are a t local group.others.items)
