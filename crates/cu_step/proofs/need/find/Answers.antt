-- The walk that is kept goes on, and what it comes to is answered.
use Rattle.std.proofs.Common.{◌≡◌, ◌<◌, ◌∙◌, ap, length, subst, sym, List, Option, Some}
use Rattle.std.specs.Option.{IfSome}
use Rattle.cu_machine.specs.Graph.{head_of}
use Rattle.cu_machine.specs.Need.{need_all}
use Rattle.cu_step.specs.declared.need.Frame.{Frame}
use Rattle.cu_step.specs.declared.need.Needed.{Needed}
use Rattle.cu_step.specs.Inside.Kept.{EndsAt, IsKept, first_node}
use Rattle.cu_step.specs.Inside.Needed.{need_of}
use Rattle.cu_step.specs.Inside.Walk.{Found, found}
use Rattle.cu_step.proofs.Resumed.{resumed_head, resumed_start}
use Rattle.cu_step.proofs.StepLemmas.{need_place}
use Rattle.cu_step.proofs.need.find.Goals as goal

pub search-requires-clause-place : goal.search-requires-clause-place
search-requires-clause-place g c κs within =
    let graph = g.S.Store.content c.args.store.now in
    (c.going_on-frames.ensures graph c.requires.root c.requires.kept).0

pub search-requires-clause-kept : goal.search-requires-clause-kept
search-requires-clause-kept g c κs within =
    let graph = g.S.Store.content c.args.store.now in
    subst (λ (frames : List Frame). IsKept c.args.truth graph c.args.root frames c.going_on-frames.result.place)
    (sym (ap (λ (f : Found). f.frames) c.from_frames-walk.ensures)) (c.going_on-frames.ensures graph c.requires.root c.requires.kept).1

pub returns-in-Some-At-clause-fits : goal.returns-in-Some-At-clause-fits
returns-in-Some-At-clause-fits g c =
    let graph = g.S.Store.content c.args.store.now in
    let which : c.in_ok-search.field-0 ≡ Some c.in-Some-At.field-0 = c.in-Some-At.is in
    let needs = subst (λ (o : Option Needed). IfSome o (λ needed. need_of needed ≡ need_all c.args.truth graph c.args.root)) which c.in_ok-search.ensures.answer in
    let place = need_place c.args.truth graph c.args.root c.in-Some-At.id c.requires.arguments c.requires.root (sym (ap need_of c.in-Some-At.field-0-is) ∙ needs) in
    let ends = subst (λ (o : Option Needed). IfSome o (λ needed. EndsAt c.args.truth graph c.args.root (found c.search.new.self) (need_of needed))) which c.in_ok-search.ensures.ends in
    c.kept.ensures graph c.args.root place (subst (λ n. EndsAt c.args.truth graph c.args.root (found c.search.new.self) (need_of n)) c.in-Some-At.field-0-is ends)

pub returns-in-None-clause-fits : goal.returns-in-None-clause-fits
returns-in-None-clause-fits g c =
    let graph = g.S.Store.content c.args.store.now in
    let going = c.going_on-frames.ensures graph c.requires.root c.requires.kept in
    let frames = c.going_on-frames.result.frames.items in
    let place = c.going_on-frames.result.place in
    let start : c.first_node-start.result ≡ first_node place frames = c.first_node-start.ensures ∙ ap (first_node place) c.as_slice.ensures.value in
    let below = resumed_start c.args.truth graph c.args.root frames place c.requires.arguments c.requires.acyclic c.requires.root going.0 going.1 in
    let heads = resumed_head c.args.truth graph c.args.root frames place c.requires.arguments c.requires.acyclic c.requires.root going.1 in
    c.demand.ensures.fits c.args.truth graph c.args.root (subst (λ n. n < length graph) (sym start) below) (heads ∙ ap (head_of graph) (sym start))
