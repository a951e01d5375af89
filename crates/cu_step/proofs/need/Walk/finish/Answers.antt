-- The walk ends where no node is left to be looked at.
use Rattle.std.proofs.Common.{◌∙◌, sym, subst, ℕ, Option}
use Rattle.std.specs.Option.{IfNone, IfSome}
use Rattle.cu_step.specs.declared.need.Needed.{Needed}
use Rattle.cu_step.specs.Inside.Kept.{EndsAt, Stands}
use Rattle.cu_step.specs.Inside.Needed.{need_of}
use Rattle.cu_step.specs.Inside.Walk.{Goes, found}
use Rattle.cu_step.proofs.Finds.{end_out}
use Rattle.cu_step.proofs.need.Walk.finish.Goals as goal

pub returns-in-Some-2-clause-ends : goal.returns-in-Some-2-clause-ends
returns-in-Some-2-clause-ends g c = λ root stood.
    let graph = g.S.Store.content c.args.store.now in
    let ends = subst (λ (o : Option Needed). IfSome o (λ needed. (root : ℕ) → Stands c.args.truth graph root (found c.loop-frame.self)
    → EndsAt c.args.truth graph root (found c.advance.new.self) (need_of needed))) c.in-Some-2.is c.in_ok-needed.ensures.ends in
    ends root (c.loop-frame.invariant.stands root stood)

pub loop-frame-preserved : goal.loop-frame-preserved
loop-frame-preserved g c =
    let graph = g.S.Store.content c.args.store.now in
    let goes : Goes c.args.truth graph (found c.loop-frame.self) (found c.advance.new.self) =
    subst (λ (o : Option Needed). IfNone o (Goes c.args.truth graph (found c.loop-frame.self) (found c.advance.new.self))) c.in_default-2.is c.in_ok-needed.ensures.goes in
    let stands = subst (λ (o : Option Needed). IfNone o ((root : ℕ) → Stands c.args.truth graph root (found c.loop-frame.self)
    → Stands c.args.truth graph root (found c.advance.new.self))) c.in_default-2.is c.in_ok-needed.ensures.stands in
    record {
      fits = goes.fits;
      marked = goes.marked c.loop-frame.invariant.marked;
      comes = goes.outcome ∙ c.loop-frame.invariant.comes;
      stands = λ root stood. stands root (c.loop-frame.invariant.stands root stood);
    }

pub returns-clause-none : goal.returns-clause-none
returns-clause-none g c =
    sym (end_out c.args.truth (g.S.Store.content c.args.store.now) (found c.loop-frame.self) c.in_default.ensures.none) ∙ c.loop-frame.invariant.comes
