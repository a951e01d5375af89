use Rattle.std.proofs.Common.{◌++◌, append-nil, subst, sym, take, take_all}
use Rattle.cu_sites.proofs.TableLemmas.{no_binder, taken_more}
use Rattle.cu_sites.proofs.numbers.BinderTable.add_all.Goals as goal
use Rattle.cu_sites.specs.Numbered.{IsBinderTable}

pub loop-binder-init : goal.loop-binder-init
loop-binder-init c = λ before has. subst (λ keys. IsBinderTable keys c.args.self.now) (sym (append-nil before)) has

pub loop-binder-preserved : goal.loop-binder-preserved
loop-binder-preserved c = λ before has.
    taken_more (λ keys. IsBinderTable keys c.add.new.self) before c.args.binders.now c.loop-binder.binder-index no_binder c.loop-binder-test.true
    (c.in_ok-add.ensures (before ++ take c.loop-binder.binder-index c.args.binders.now) (c.loop-binder.invariant before has))

pub returns : goal.returns
returns c = λ before has. subst (λ keys. IsBinderTable (before ++ keys) c.loop-binder.self) (take_all c.loop-binder.binder-index c.args.binders.now c.loop-binder-test.false) (c.loop-binder.invariant before has)
