use Rattle.std.proofs.Common.{List, [], subst, sym}
use Rattle.cu_lex.specs.Reading.{position_of}
use Rattle.cu_syntax.specs.declared.name.Name.{Name}
use Rattle.cu_uses.proofs.FoundLemmas.{on_ok}
use Rattle.cu_uses.specs.Gathered.{Adds, pattern_binds}
use Rattle.cu_sites.specs.Meaning.{IsSite}
use Rattle.cu_sites.proofs.CountLemmas.{bound_functions, lists_as, lists_none, lists_one}
use Rattle.cu_sites.proofs.binders.push_functions.Goals as goal

pub returns-in-Use : goal.returns-in-Use
returns-in-Use c t blocks s is = lists_as s _ c.args.found.now.items c.args.found.now.items (subst (λ x. IsSite t blocks x s) c.in-Use.is is).0 (lists_none c.args.found.now.items)

pub returns-in-Operation : goal.returns-in-Operation
returns-in-Operation c t blocks s is = lists_as s _ c.args.found.now.items c.args.found.now.items (subst (λ x. IsSite t blocks x s) c.in-Operation.is is).0 (lists_none c.args.found.now.items)

pub returns-in-Matched : goal.returns-in-Matched
returns-in-Matched c t blocks s is = lists_as s _ c.args.found.now.items c.args.found.now.items (subst (λ x. IsSite t blocks x s) c.in-Matched.is is).0 (lists_none c.args.found.now.items)

pub returns-in-Defined : goal.returns-in-Defined
returns-in-Defined c t blocks s is = lists_as s _ c.args.found.now.items c.args.found.now.items (subst (λ x. IsSite t blocks x s) c.in-Defined.is is).0 (lists_none c.args.found.now.items)

pub returns-in-Free : goal.returns-in-Free
returns-in-Free c t blocks s is = lists_as s _ c.args.found.now.items c.args.found.now.items (subst (λ x. IsSite t blocks x s) c.in-Free.is is).0 (lists_none c.args.found.now.items)

pub returns-in_ok-push-in-Lambda : goal.returns-in_ok-push-in-Lambda
returns-in_ok-push-in-Lambda c t blocks s is =
    let of = subst (λ x. IsSite t blocks x s) c.in-Lambda.is is in
    lists_as s _ c.args.found.now.items c.push.new.self.items of.0
    (lists_one c.args.found.now.items c.push.new.self.items c.of.result (position_of c.in-Lambda.place) c.in_ok-push-in-Lambda.ensures.items c.of.ensures)

pub returns-in_ok-push-in-Generated : goal.returns-in_ok-push-in-Generated
returns-in_ok-push-in-Generated c t blocks s is =
    let of = subst (λ x. IsSite t blocks x s) c.in-Generated.is is in
    lists_as s _ c.args.found.now.items c.push-in-Generated.new.self.items of.0
    (lists_one c.args.found.now.items c.push-in-Generated.new.self.items c.of-in-Generated.result (position_of c.in-Generated.place) c.in_ok-push-in-Generated.ensures.items c.of-in-Generated.ensures)

pub returns-in_ok-push-in-Function : goal.returns-in_ok-push-in-Function
returns-in_ok-push-in-Function c t blocks s is =
    let of = subst (λ x. IsSite t blocks x s) c.in-Function.is is in
    lists_as s _ c.args.found.now.items c.push-in-Function.new.self.items of.is
    (lists_one c.args.found.now.items c.push-in-Function.new.self.items c.of-in-Function.result (position_of c.in-Function.group.first.place) c.in_ok-push-in-Function.ensures.items c.of-in-Function.ensures)

pub returns-in_ok-names-in-Bound : goal.returns-in_ok-names-in-Bound
returns-in_ok-names-in-Bound c t blocks s is =
    let of = subst (λ x. IsSite t blocks x s) c.in-Bound.is is in
    let found = subst (λ (xs : List Name). Adds t.owner t.names [] (pattern_binds t.names c.in-Bound.p) xs) (sym c.as_slice.ensures.value) (c.in_ok-names-in-Bound.ensures t of.1) in
    on_ok c.push_name_places.result
    (λ listed. lists_as s _ c.args.found.now.items c.push_name_places.new.found.items of.0
    (bound_functions t c.in-Bound.p c.as_slice.result.now c.args.found.now.items c.push_name_places.new.found.items found listed)) (c.push_name_places.ensures t)
