use Rattle.std.proofs.Common.{Err}
use Rattle.cu_io.specs.Holdings.{Holdings}
use Rattle.cu_modules.specs.declared.fault.OrderFault.{OrderFault}
use Rattle.cu_modules.specs.Ordering.{Tells, modules_of, texts_of}
use Rattle.cu_modules.specs.Walk.{Visits}
use Rattle.cu_names.specs.Texts.{text_of}
use Rattle.cu_modules.proofs.VisitLemmas.{cycle_told, lacking_told, new_at, with_fault}
use Rattle.cu_modules.proofs.visits.begin.Goals as goal

pub returns-in_err-not_met-clause-refused : goal.returns-in_err-not_met-clause-refused
returns-in_err-not_met-clause-refused g c =
    let names = c.args.names.now in
    let p = c.args.progress.now in
    let name = c.args.name in
    let o = g.L.Library.holdings c.args.lib.now in
    with_fault o (λ (held : Holdings) (fault : OrderFault). Tells names (λ refusal. Visits (held.module_at c.args.dir.now) (texts_of names p.path.items) (modules_of names p.done.items) (text_of names name) (Err refusal)) fault) c.from_residual.result c.in_err-not_met.field-0.0
    c.from_residual.ensures.1 (cycle_told names p name c.as_slice.result.now o c.args.dir.now c.in_err-not_met.field-0.0 c.requires.stands c.requires.known c.as_slice.ensures.value c.requires.not_done (c.in_err-not_met.ensures.met names))

pub enter-requires-clause-new : goal.enter-requires-clause-new
enter-requires-clause-new g c =
    new_at c.args.names.now c.args.progress.now c.args.name c.as_slice.result.now c.requires.stands c.requires.known c.as_slice.ensures.value c.requires.not_done (c.in_ok-not_met.ensures.new c.args.names.now)

pub returns-in_err-module-clause-refused : goal.returns-in_err-module-clause-refused
returns-in_err-module-clause-refused g c =
    let names = c.args.names.now in
    let new = c.enter.new.names in
    let p = c.args.progress.now in
    let name = c.args.name in
    let o = g.L.Library.holdings c.args.lib.now in
    let is_new = new_at names p name c.as_slice.result.now c.requires.stands c.requires.known c.as_slice.ensures.value c.requires.not_done (c.in_ok-not_met.ensures.new names) in
    with_fault o (λ (held : Holdings) (fault : OrderFault). Tells new (λ refusal. Visits (held.module_at c.args.dir.now) (texts_of names p.path.items) (modules_of names p.done.items) (text_of names name) (Err refusal)) fault) c.from_residual-in_err-module.result c.in_err-module.field-0.0
    c.from_residual-in_err-module.ensures.1 (lacking_told names new p name o c.args.dir.now c.in_err-module.field-0.0 c.requires.stands is_new c.in_err-module.ensures.lacking)

pub returns-clause-new : goal.returns-clause-new
returns-clause-new g c =
    new_at c.args.names.now c.args.progress.now c.args.name c.as_slice.result.now c.requires.stands c.requires.known c.as_slice.ensures.value c.requires.not_done (c.in_ok-not_met.ensures.new c.args.names.now)
