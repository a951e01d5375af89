use Rattle.std.proofs.Common.{sym, subst, Err}
use Rattle.cu_io.specs.Holdings.{Holdings}
use Rattle.cu_names.proofs.Growth.{extends-trans}
use Rattle.cu_modules.specs.declared.fault.OrderFault.{OrderFault}
use Rattle.cu_modules.specs.Ordering.{AreOrdered, Tells, modules_of}
use Rattle.cu_modules.specs.BuiltInEntities.{prelude_name}
use Rattle.cu_modules.specs.Walk.{Walk}
use Rattle.cu_modules.proofs.OrderLemmas.{grown_twice, ordered_first, walk_right, walk_wrong}
use Rattle.cu_modules.proofs.InternLemmas.{built_in_kept, intern_grows}
use Rattle.cu_modules.proofs.VisitLemmas.{with_fault}
use Rattle.cu_modules.proofs.ordering.order.Goals as goal

pub returns-in_err-visit-clause-refused : goal.returns-in_err-visit-clause-refused
returns-in_err-visit-clause-refused g c =
    let o = g.L.Library.holdings c.args.lib.now in
    let p = c.new-progress in
    let new = c.visit.new.names in
    with_fault o (λ (held : Holdings) (fault : OrderFault). Tells new (λ refusal. Walk (held.module_at c.args.dir.now) c.args.root.now (Err refusal)) fault) c.from_residual-in_err-visit.result c.in_err-visit.field-0.0
    c.from_residual-in_err-visit.ensures.1
    (walk_wrong c.intern-2.new.self new p.result c.in_ok-root.root c.args.root.now o c.args.dir.now c.in_err-visit.field-0.0 p.ensures.path p.ensures.done c.in_ok-root.ensures.id c.in_err-visit.ensures.refused)

pub returns-in_err-visit-clause-names : goal.returns-in_err-visit-clause-names
returns-in_err-visit-clause-names g c =
    grown_twice c.args.names.now c.intern_built_in.new.names c.intern.new.self c.intern-2.new.self c.visit.new.names prelude_name c.args.root.now c.in_ok-intern_built_in.ensures.names c.in_ok-prelude.ensures.names c.in_ok-root.ensures.names c.in_err-visit.ensures.names

pub returns-in_err-built_in_first-clause-names : goal.returns-in_err-built_in_first-clause-names
returns-in_err-built_in_first-clause-names g c =
    grown_twice c.args.names.now c.intern_built_in.new.names c.intern.new.self c.intern-2.new.self c.visit.new.names prelude_name c.args.root.now c.in_ok-intern_built_in.ensures.names c.in_ok-prelude.ensures.names c.in_ok-root.ensures.names c.in_ok-visit.ensures.names

pub returns-clause-walked : goal.returns-clause-walked
returns-clause-walked g c =
    let p = c.new-progress in
    walk_right c.intern-2.new.self c.visit.new.names p.result c.in_ok-root.root c.args.root.now (g.L.Library.holdings c.args.lib.now) c.args.dir.now c.visit.new.progress.done.items c.in_ok-built_in_first.field-0.items
    p.ensures.path p.ensures.done c.in_ok-root.ensures.id c.in_ok-built_in_first.ensures.sorted c.in_ok-visit.ensures.visited

pub returns-clause-ordered : goal.returns-clause-ordered
returns-clause-ordered g c =
    subst AreOrdered (sym c.in_ok-built_in_first.ensures.sorted) (ordered_first (modules_of c.visit.new.names c.visit.new.progress.done.items) c.in_ok-visit.ensures.came.stands.ordered)

pub returns-clause-names : goal.returns-clause-names
returns-clause-names g c =
    grown_twice c.args.names.now c.intern_built_in.new.names c.intern.new.self c.intern-2.new.self c.visit.new.names prelude_name c.args.root.now c.in_ok-intern_built_in.ensures.names c.in_ok-prelude.ensures.names c.in_ok-root.ensures.names c.in_ok-visit.ensures.names

pub returns-clause-built_in : goal.returns-clause-built_in
returns-clause-built_in g c =
    built_in_kept c.intern_built_in.new.names c.visit.new.names
    (extends-trans (intern_grows c.intern_built_in.new.names c.intern.new.self prelude_name c.in_ok-prelude.ensures.names)
    (extends-trans (intern_grows c.intern.new.self c.intern-2.new.self c.args.root.now c.in_ok-root.ensures.names) c.in_ok-visit.ensures.names))
    c.in_ok-intern_built_in.ensures.built_in
