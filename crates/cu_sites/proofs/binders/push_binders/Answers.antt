use Rattle.std.proofs.Common.{◌∙◌, List, ap, map, subst, sym}
use Rattle.std.specs.List.{All}
use Rattle.cu_lex.specs.Reading.{position_of}
use Rattle.cu_syntax.specs.Owners.{PatternIsOf}
use Rattle.cu_translation.specs.declared.local_names.Binder.TheVariants as binder
use Rattle.cu_locals.specs.Places.{positions_meaning}
use Rattle.cu_syntax.specs.declared.name.Name.{Name}
use Rattle.cu_translation.specs.LocalNames.{At}
use Rattle.cu_translation.specs.Numbering.{at_name}
use Rattle.cu_uses.proofs.FoundLemmas.{on_ok}
use Rattle.cu_uses.specs.Gathered.{names_meaning}
use Rattle.cu_sites.specs.Inside.Counting.{Counts}
use Rattle.cu_sites.specs.Meaning.{IsSite}
use Rattle.cu_sites.proofs.CountLemmas.{counts_as, counts_none, counts_one, matched_counted}
use Rattle.cu_sites.proofs.binders.push_binders.Goals as goal

pub returns-in-Use : goal.returns-in-Use
returns-in-Use c t blocks s is = counts_as s _ c.args.found.now.items c.args.found.now.items (subst (λ x. IsSite t blocks x s) c.in-Use.is is).0 (counts_none c.args.found.now.items)

pub returns-in-Operation : goal.returns-in-Operation
returns-in-Operation c t blocks s is = counts_as s _ c.args.found.now.items c.args.found.now.items (subst (λ x. IsSite t blocks x s) c.in-Operation.is is).0 (counts_none c.args.found.now.items)

pub returns-in-Lambda : goal.returns-in-Lambda
returns-in-Lambda c t blocks s is = counts_as s _ c.args.found.now.items c.args.found.now.items (subst (λ x. IsSite t blocks x s) c.in-Lambda.is is).0 (counts_none c.args.found.now.items)

pub returns-in-Function : goal.returns-in-Function
returns-in-Function c t blocks s is = counts_as s _ c.args.found.now.items c.args.found.now.items (subst (λ x. IsSite t blocks x s) c.in-Function.is is).is (counts_none c.args.found.now.items)

pub returns-in_ok-places-in-Matched : goal.returns-in_ok-places-in-Matched
returns-in_ok-places-in-Matched c t blocks s is =
    let of = subst (λ x. IsSite t blocks x s) c.in-Matched.is is in
    let all = subst (All (PatternIsOf t.owner t.names)) (sym c.as_slice.ensures.value) of.1 in
    on_ok c.push_places.result
    (λ counted. counts_as s _ c.args.found.now.items c.push_places.new.found.items of.0
    (matched_counted t.names c.in-Matched.ps.items c.as_slice.result.now c.as_slice-in-Matched.result.now c.args.found.now.items c.push_places.new.found.items c.as_slice.ensures.value
    (ap positions_meaning c.as_slice-in-Matched.ensures.value ∙ c.in_ok-places-in-Matched.ensures t all) counted)) c.push_places.ensures

pub returns-in-Generated : goal.returns-in-Generated
returns-in-Generated c t blocks s is =
    let of = subst (λ x. IsSite t blocks x s) c.in-Generated.is is in
    on_ok c.push_generated.result (counts_as s _ c.args.found.now.items c.push_generated.new.found.items of.0) (c.push_generated.ensures t)

pub returns-in_ok-push-in-Defined : goal.returns-in_ok-push-in-Defined
returns-in_ok-push-in-Defined c t blocks s is =
    let of = subst (λ x. IsSite t blocks x s) c.in-Defined.is is in
    counts_as s _ c.args.found.now.items c.push.new.self.items of.0
    (counts_one c.args.found.now.items c.push.new.self.items (binder.At c.of.result) (At (position_of c.in-Defined.x.place)) c.in_ok-push-in-Defined.ensures.items (ap At c.of.ensures))

pub returns-in-Bound : goal.returns-in-Bound
returns-in-Bound c t blocks s is =
    let of = subst (λ x. IsSite t blocks x s) c.in-Bound.is is in
    on_ok c.push_bound.result (counts_as s _ c.args.found.now.items c.push_bound.new.found.items of.0) (c.push_bound.ensures t of.1)

pub returns-in-Free : goal.returns-in-Free
returns-in-Free c t blocks s is =
    let of = subst (λ x. IsSite t blocks x s) c.in-Free.is is in
    on_ok c.push_names.result
    (λ counted. counts_as s _ c.args.found.now.items c.push_names.new.found.items of.0
    (subst (λ (xs : List Name). Counts c.args.found.now.items (map at_name (names_meaning t.names xs)) c.push_names.new.found.items) c.as_slice-in-Free.ensures.value counted)) (c.push_names.ensures t)
