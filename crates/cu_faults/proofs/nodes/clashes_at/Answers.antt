use Rattle.std.proofs.Common.{List, refl, subst}
use Rattle.std.specs.List.{All}
use Rattle.std.specs.Prelude.{OnOk}
use Rattle.cu_sites.specs.Meaning.{IsSite, blocks_in}
use Rattle.cu_sites.specs.declared.sites.Site.{Site}
use Rattle.cu_syntax.specs.declared.patterns.Pattern.{Pattern}
use Rattle.cu_syntax.specs.Declarations.{right_meaning}
use Rattle.cu_syntax.specs.Owners.{PatternIsOf}
use Rattle.cu_uses.proofs.FoundLemmas.{on_ok}
use Rattle.cu_faults.specs.Telling.{Told, setting}
use Rattle.cu_faults.specs.Inside.Patterns.{patterns_told}
use Rattle.cu_faults.specs.declared.patterns.Sought.TheVariants.{Clashes}
use Rattle.cu_faults.proofs.NodeLemmas.{clash_in_operation, clash_in_pattern, clash_in_patterns, no_clash, scope_seen}
use Rattle.cu_faults.proofs.nodes.clashes_at.Goals as goal

pub returns-in_ok-entries-in-Operation : goal.returns-in_ok-entries-in-Operation
returns-in_ok-entries-in-Operation g c t a n tells spot is =
    let site = subst (λ (s : Site). IsSite t (blocks_in c.args.sites.now) s n.site) c.in-Operation.is is in
    let sees = scope_seen t a n.spot.scope c.in_ok-entries-in-Operation.entries.items c.as_slice.result.now c.outermost-scope.result
    (c.in_ok-entries-in-Operation.ensures t n.spot spot) c.as_slice.ensures.value c.outermost-scope.ensures in
    on_ok c.clash.result (clash_in_operation t a n c.in-Operation.e c.args.first.now c.clash.new.first site.0)
    (c.clash.ensures (setting t a) n.spot.scope tells sees site.1)

pub returns-in-Matched : goal.returns-in-Matched
returns-in-Matched g c t a n tells spot is =
    let site = subst (λ (s : Site). IsSite t (blocks_in c.args.sites.now) s n.site) c.in-Matched.is is in
    on_ok c.patterns.result (clash_in_patterns t a n c.in-Matched.ps.items c.args.first.now c.patterns.new.first site.0)
    (subst (λ (ps : List Pattern). All (PatternIsOf t.owner t.names) ps → OnOk c.patterns.result (Told t.owner c.args.first.now (patterns_told Clashes (setting t a) ps) c.patterns.new.first))
    c.as_slice-in-Matched.ensures.value (c.patterns.ensures (setting t a) tells) site.1)

pub returns-in-Bound : goal.returns-in-Bound
returns-in-Bound g c t a n tells spot is =
    let site = subst (λ (s : Site). IsSite t (blocks_in c.args.sites.now) s n.site) c.in-Bound.is is in
    on_ok c.pattern.result (clash_in_pattern t a n c.in-Bound.p (right_meaning t.names c.in-Bound.field-1) c.args.first.now c.pattern.new.first site.0)
    (c.pattern.ensures (setting t a) tells site.1)

pub returns-in-Use : goal.returns-in-Use
returns-in-Use g c t a n tells spot is =
    let site = subst (λ (s : Site). IsSite t (blocks_in c.args.sites.now) s n.site) c.in-Use.is is in
    no_clash a n _ t.owner c.args.first.now site.0 refl

pub returns-in-Lambda : goal.returns-in-Lambda
returns-in-Lambda g c t a n tells spot is =
    let site = subst (λ (s : Site). IsSite t (blocks_in c.args.sites.now) s n.site) c.in-Lambda.is is in
    no_clash a n _ t.owner c.args.first.now site.0 refl

pub returns-in-Generated : goal.returns-in-Generated
returns-in-Generated g c t a n tells spot is =
    let site = subst (λ (s : Site). IsSite t (blocks_in c.args.sites.now) s n.site) c.in-Generated.is is in
    no_clash a n _ t.owner c.args.first.now site.0 refl

pub returns-in-Function : goal.returns-in-Function
returns-in-Function g c t a n tells spot is =
    let site = subst (λ (s : Site). IsSite t (blocks_in c.args.sites.now) s n.site) c.in-Function.is is in
    no_clash a n _ t.owner c.args.first.now site.is refl

pub returns-in-Defined : goal.returns-in-Defined
returns-in-Defined g c t a n tells spot is =
    let site = subst (λ (s : Site). IsSite t (blocks_in c.args.sites.now) s n.site) c.in-Defined.is is in
    no_clash a n _ t.owner c.args.first.now site.0 refl

pub returns-in-Free : goal.returns-in-Free
returns-in-Free g c t a n tells spot is =
    let site = subst (λ (s : Site). IsSite t (blocks_in c.args.sites.now) s n.site) c.in-Free.is is in
    no_clash a n _ t.owner c.args.first.now site.0 refl
