-- How the walk begins, and how it goes on where marks begin.
use Rattle.std.proofs.Common.{◌≡◌, ◌∙◌, ap, ap₂, sym, subst, ℕ, Option, None, Some, option_map}
use Rattle.std.specs.Option.{IfNone, IfSome}
use Rattle.cu_machine.specs.Graph.{head_at, head_of}
use Rattle.cu_step.specs.declared.need.Needed.{Needed}
use Rattle.cu_step.specs.Inside.Kept.{EndsAt, Stands}
use Rattle.cu_step.specs.Inside.Needed.{need_of}
use Rattle.cu_step.specs.Inside.Walk.{Goes, at_once, found, looked}
use Rattle.cu_step.proofs.Builds.{if_ok}
use Rattle.cu_step.proofs.Finds.{end_out, kept_fits, kept_marked, kept_out}
use Rattle.cu_step.proofs.Elements.{none_to, some_to}
use Rattle.cu_step.proofs.Resumed.{resumed_answer, resumed_met, resumed_shown}
use Rattle.cu_step.proofs.KeptLooks.{first_ends, first_stands, stands_kept}
use Rattle.cu_step.proofs.need.Walk.search.Given.{Over}
use Rattle.cu_step.proofs.need.Walk.search.Goals.{After-look_at-first}
use Rattle.cu_step.proofs.need.Walk.search.Goals as goal

-- the first look is at the place, as the innermost frame asks
looks : (g : Over) (c : After-look_at-first g)
    → c.look_at-first.result ≡ resumed_shown c.args.truth (g.S.Store.content c.args.store.now) c.args.root (found c.args.self.now).frames c.args.place
looks g c =
    let graph = g.S.Store.content c.args.store.now in
    c.look_at-first.ensures
    ∙ ap₂ (λ n a. looked c.args.truth n a (head_of graph c.args.place) (head_at graph c.args.place).kind (head_at graph c.args.place).args) c.innermost-node.ensures.node c.innermost-node.ensures.ask

pub returns-in-Some-clause-answer : goal.returns-in-Some-clause-answer
returns-in-Some-clause-answer g c =
    let graph = g.S.Store.content c.args.store.now in
    let frames = (found c.args.self.now).frames in
    let here = (goal.at.returns-in-Some-clause-answer g c).After-look_at-first in
    let answers : Some (need_of c.in-Some.needed) ≡ at_once c.look_at-first.result = ap (option_map need_of) (sym c.in-Some.is) ∙ c.in_ok-needed.ensures.answer in
    resumed_answer c.args.truth graph c.args.root frames c.args.place c.look_at-first.result (need_of c.in-Some.needed) c.requires.arguments c.requires.acyclic c.requires.root c.requires.place
    c.requires.kept (looks g here) answers

pub returns-in-Some-clause-ends : goal.returns-in-Some-clause-ends
returns-in-Some-clause-ends g c =
    let graph = g.S.Store.content c.args.store.now in
    let frames = (found c.args.self.now).frames in
    let here = (goal.at.returns-in-Some-clause-ends g c).After-look_at-first in
    let answers : Some (need_of c.in-Some.needed) ≡ at_once c.look_at-first.result = ap (option_map need_of) (sym c.in-Some.is) ∙ c.in_ok-needed.ensures.answer in
    first_ends c.args.truth graph (found c.args.self.now) (found c.meet.new.self) c.args.root frames c.args.place c.look_at-first.result (need_of c.in-Some.needed)
    c.requires.kept c.requires.begins (looks g here) answers c.in_ok-needed.ensures.found

pub unmarked-init : goal.unmarked-init
unmarked-init g c =
    let graph = g.S.Store.content c.args.store.now in
    let frames = (found c.args.self.now).frames in
    let here = (goal.at.unmarked-init g c).After-look_at-first in
    let answers : None ≡ at_once c.look_at-first.result = ap (option_map need_of) (sym c.in_default.is) ∙ c.in_ok-needed.ensures.answer in
    let begun = resumed_met c.args.truth graph (found c.args.self.now) (found c.meet.new.self) c.args.root frames c.args.place c.look_at-first.result
    c.requires.arguments c.requires.acyclic c.requires.root c.requires.place c.requires.kept c.requires.begins (looks g here) answers c.in_ok-needed.ensures.found in
    record {
      fits = begun.0;
      comes = begun.1;
      stands = first_stands c.args.truth graph (found c.args.self.now) (found c.meet.new.self) c.args.root frames c.args.place c.look_at-first.result
          c.requires.arguments c.requires.acyclic c.requires.place c.requires.kept c.requires.begins (looks g here) answers c.in_ok-needed.ensures.found;
    }

pub returns-in_default-innermost_frame-clause-none : goal.returns-in_default-innermost_frame-clause-none
returns-in_default-innermost_frame-clause-none g c =
    sym (end_out c.args.truth (g.S.Store.content c.args.store.now) (found c.unmarked.self) c.in_default-innermost_frame.ensures.none) ∙ c.unmarked.invariant.comes

pub returns-in-Some-2-clause-ends : goal.returns-in-Some-2-clause-ends
returns-in-Some-2-clause-ends g c =
    let graph = g.S.Store.content c.args.store.now in
    let ends = subst (λ (o : Option Needed). IfSome o (λ needed. (root : ℕ) → Stands c.args.truth graph root (found c.unmarked.self)
    → EndsAt c.args.truth graph root (found c.advance.new.self) (need_of needed))) c.in-Some-2.is c.in_ok-needed-2.ensures.ends in
    ends c.args.root c.unmarked.invariant.stands

pub unmarked-preserved : goal.unmarked-preserved
unmarked-preserved g c =
    let graph = g.S.Store.content c.args.store.now in
    let goes : Goes c.args.truth graph (found c.unmarked.self) (found c.advance.new.self) =
    subst (λ (o : Option Needed). IfNone o (Goes c.args.truth graph (found c.unmarked.self) (found c.advance.new.self))) c.in_default-2.is c.in_ok-needed-2.ensures.goes in
    let stands = subst (λ (o : Option Needed). IfNone o ((root : ℕ) → Stands c.args.truth graph root (found c.unmarked.self)
    → Stands c.args.truth graph root (found c.advance.new.self))) c.in_default-2.is c.in_ok-needed-2.ensures.stands in
    record {
      fits = goes.fits;
      comes = goes.outcome ∙ c.unmarked.invariant.comes;
      stands = stands c.args.root c.unmarked.invariant.stands;
    }

pub finish-requires-clause-fits : goal.finish-requires-clause-fits
finish-requires-clause-fits g c κs within =
    kept_fits c.args.truth (g.S.Store.content c.args.store.now) (found c.unmarked.self) (found c.keep_marks.new.self) c.len-2.result c.in_ok-keep_marks.ensures
    c.len-2.ensures c.unmarked.invariant.fits

pub finish-requires-clause-marked : goal.finish-requires-clause-marked
finish-requires-clause-marked g c κs within =
    kept_marked (g.S.Store.content c.args.store.now) (found c.unmarked.self) (found c.keep_marks.new.self) c.len-2.result c.in_ok-keep_marks.ensures c.len-2.ensures

pub returns-clause-answer : goal.returns-clause-answer
returns-clause-answer g c =
    let graph = g.S.Store.content c.args.store.now in
    let all = kept_out c.args.truth graph (found c.unmarked.self) (found c.keep_marks.new.self) c.len-2.result c.in_ok-keep_marks.ensures ∙ c.unmarked.invariant.comes in
    if_ok c.finish.result _ _
    (λ answer is. some_to answer (λ needed same. same ∙ all) is)
    c.finish.ensures.answer

pub returns-clause-none : goal.returns-clause-none
returns-clause-none g c =
    let graph = g.S.Store.content c.args.store.now in
    let all = kept_out c.args.truth graph (found c.unmarked.self) (found c.keep_marks.new.self) c.len-2.result c.in_ok-keep_marks.ensures ∙ c.unmarked.invariant.comes in
    if_ok c.finish.result _ _
    (λ answer is. none_to answer (λ same. same ∙ all) is)
    c.finish.ensures.none

pub returns-clause-ends : goal.returns-clause-ends
returns-clause-ends g c =
    let graph = g.S.Store.content c.args.store.now in
    let stood : Stands c.args.truth graph c.args.root (found c.keep_marks.new.self) =
    stands_kept c.args.truth graph c.args.root (found c.unmarked.self) (found c.keep_marks.new.self) c.len-2.result c.in_ok-keep_marks.ensures c.unmarked.invariant.stands in
    if_ok c.finish.result _ _
    (λ answer is. some_to answer (λ needed ends. ends c.args.root stood) is)
    c.finish.ensures.ends
