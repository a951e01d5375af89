use Rattle.std.proofs.Common.{[], List, refl, subst}
use Rattle.std.proofs.lemmas.List.Elements.{All-cons, All-nil}
use Rattle.std.specs.List.{All}
use Rattle.std.specs.Prelude.{OnOk}
use Rattle.cu_sites.specs.Meaning.{IsSite, blocks_in}
use Rattle.cu_sites.specs.declared.sites.Site.{Site}
use Rattle.cu_syntax.specs.declared.patterns.Pattern.{Pattern}
use Rattle.cu_syntax.specs.Declarations.{right_meaning}
use Rattle.cu_syntax.specs.Owners.{PatternIsOf}
use Rattle.cu_uses.proofs.FoundLemmas.{on_ok}
use Rattle.cu_faults.specs.Telling.{Told, setting}
use Rattle.cu_faults.specs.Inside.Patterns.{faults_told}
use Rattle.cu_faults.specs.Inside.Uses.{use_told}
use Rattle.cu_syntax.specs.declared.expressions.Expression.{Expression}
use Rattle.cu_syntax.specs.Owners.{ExpressionIsOf}
use Rattle.cu_faults.proofs.NodeLemmas.{fault_in_function, fault_in_operation, fault_in_pattern, fault_in_patterns, fault_in_use, no_fault, scope_seen}
use Rattle.cu_faults.proofs.nodes.faults_at.Goals as goal

pub returns-in-Use : goal.returns-in-Use
returns-in-Use g c t a n tells spot is =
    let site = subst (λ (s : Site). IsSite t (blocks_in c.args.sites.now) s n.site) c.in-Use.is is in
    on_ok c.use_in.result (fault_in_use t a n c.in-Use.name c.in-Use.arguments.items c.args.first.now c.use_in.new.first site.0)
    (subst (λ (es : List Expression). All (ExpressionIsOf t.owner t.names) es → OnOk c.use_in.result (Told t.owner c.args.first.now (use_told (setting t a) n.spot.scope c.in-Use.name es) c.use_in.new.first))
    c.as_slice.ensures.value (c.use_in.ensures t a n.spot tells spot site.1) site.2)

pub returns-in_ok-entries-in-Operation : goal.returns-in_ok-entries-in-Operation
returns-in_ok-entries-in-Operation g c t a n tells spot is =
    let site = subst (λ (s : Site). IsSite t (blocks_in c.args.sites.now) s n.site) c.in-Operation.is is in
    let sees = scope_seen t a n.spot.scope c.in_ok-entries-in-Operation.entries.items c.as_slice-in-Operation.result.now c.outermost-scope.result
    (c.in_ok-entries-in-Operation.ensures t n.spot spot) c.as_slice-in-Operation.ensures.value c.outermost-scope.ensures in
    on_ok c.set_names.result (fault_in_operation t a n c.in-Operation.e c.args.first.now c.set_names.new.first site.0)
    (c.set_names.ensures (setting t a) n.spot.scope tells sees site.1)

pub returns-in-Matched : goal.returns-in-Matched
returns-in-Matched g c t a n tells spot is =
    let site = subst (λ (s : Site). IsSite t (blocks_in c.args.sites.now) s n.site) c.in-Matched.is is in
    on_ok c.declared.result (fault_in_patterns t a n c.in-Matched.ps.items c.args.first.now c.declared.new.first site.0)
    (subst (λ (ps : List Pattern). All (PatternIsOf t.owner t.names) ps → OnOk c.declared.result (Told t.owner c.args.first.now (faults_told (setting t a) ps) c.declared.new.first))
    c.as_slice-in-Matched.ensures.value (c.declared.ensures (setting t a) tells t.differ) site.1)

pub returns-in-Bound : goal.returns-in-Bound
returns-in-Bound g c t a n tells spot is =
    let P = PatternIsOf t.owner t.names in
    let p = c.in-Bound.p in
    let site = subst (λ (s : Site). IsSite t (blocks_in c.args.sites.now) s n.site) c.in-Bound.is is in
    on_ok c.declared-in-Bound.result (fault_in_pattern t a n p (right_meaning t.names c.in-Bound.field-1) c.args.first.now c.declared-in-Bound.new.first site.0)
    (c.declared-in-Bound.ensures (setting t a) tells t.differ (All-cons P p [] site.1 (All-nil P)))

pub returns-in-Function : goal.returns-in-Function
returns-in-Function g c t a n tells spot is =
    let site = subst (λ (s : Site). IsSite t (blocks_in c.args.sites.now) s n.site) c.in-Function.is is in
    fault_in_function a n _ _ t.owner c.args.first.now c.tell_rules.new.first c.tell_length.new.first site.is
    (c.tell_rules.ensures t.owner t.names site.group) (c.tell_length.ensures t.owner t.names site.group)

pub returns-in-Lambda : goal.returns-in-Lambda
returns-in-Lambda g c t a n tells spot is =
    let site = subst (λ (s : Site). IsSite t (blocks_in c.args.sites.now) s n.site) c.in-Lambda.is is in
    no_fault a n _ t.owner c.args.first.now site.0 refl

pub returns-in-Generated : goal.returns-in-Generated
returns-in-Generated g c t a n tells spot is =
    let site = subst (λ (s : Site). IsSite t (blocks_in c.args.sites.now) s n.site) c.in-Generated.is is in
    no_fault a n _ t.owner c.args.first.now site.0 refl

pub returns-in-Defined : goal.returns-in-Defined
returns-in-Defined g c t a n tells spot is =
    let site = subst (λ (s : Site). IsSite t (blocks_in c.args.sites.now) s n.site) c.in-Defined.is is in
    no_fault a n _ t.owner c.args.first.now site.0 refl

pub returns-in-Free : goal.returns-in-Free
returns-in-Free g c t a n tells spot is =
    let site = subst (λ (s : Site). IsSite t (blocks_in c.args.sites.now) s n.site) c.in-Free.is is in
    no_fault a n _ t.owner c.args.first.now site.0 refl
