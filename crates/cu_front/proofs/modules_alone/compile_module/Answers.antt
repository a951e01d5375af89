use Rattle.std.proofs.Common.{List, subst, sym}
use Rattle.std.specs.List.{All}
use Rattle.cu_calculus.specs.FlatProgram.{program_of}
use Rattle.cu_names.proofs.Growth.{extends-trans}
use Rattle.cu_modules.specs.declared.modules.Module.{Module}
use Rattle.cu_modules.specs.Ordering.{AreOrdered, modules_of}
use Rattle.cu_modules.specs.Reading.{HasModule}
use Rattle.cu_front.specs.Compiling.{Folder, RootCompiles, ModulesRefused}
use Rattle.cu_front.specs.Inside.Stages.{CompileAlone, RefusesModules}
use Rattle.cu_front.specs.Inside.StageFaults.{Tells}
use Rattle.cu_front.proofs.WalkLemmas.{stage_comes, stage_counts, stage_known, stage_told, walk_counts, walk_known, walk_told}
use Rattle.cu_front.proofs.AloneLemmas.{alone_comes, walk_refuses_modules}
use Rattle.cu_front.proofs.modules_alone.compile_module.Goals as goal

pub alone-requires-clause-known : goal.alone-requires-clause-known
alone-requires-clause-known g c =
    subst (λ (xs : List Module). All (HasModule c.order.new.names) xs) (sym c.as_slice.ensures.value) c.in-Ok.ensures.known

pub alone-requires-clause-ordered : goal.alone-requires-clause-ordered
alone-requires-clause-ordered g c =
    subst (λ (xs : List Module). AreOrdered (modules_of c.order.new.names xs)) (sym c.as_slice.ensures.value) c.in-Ok.ensures.ordered

pub returns-in-Ok-alone-clause-program : goal.returns-in-Ok-alone-clause-program
returns-in-Ok-alone-clause-program g c =
    let old = c.order.new.names in
    let new = c.alone.new.names in
    let root = c.args.asked.root.now in
    let found = c.in-Ok-alone.found in
    let ms = modules_of old c.in-Ok.modules.items in
    let alone =
    subst (λ (xs : List Module). CompileAlone (modules_of old xs) root new found.program found.interface (program_of found.flat)) c.as_slice.ensures.value
    (c.in-Ok-alone.ensures.program root) in
    stage_comes (g.L.Library.holdings c.args.library.now) c.args.asked.folder.now root
    (λ (held : Folder). RootCompiles held root new found.program found.interface (program_of found.flat)) ms c.in-Ok.ensures.walked
    (λ held walked. alone_comes held root ms new found alone walked)

pub returns-in-Ok-alone-clause-names : goal.returns-in-Ok-alone-clause-names
returns-in-Ok-alone-clause-names g c = extends-trans c.in-Ok.ensures.names c.alone.ensures.names

pub returns-in-Ok-clause-refused : goal.returns-in-Ok-clause-refused
returns-in-Ok-clause-refused g c =
    let old = c.order.new.names in
    let new = c.alone.new.names in
    let root = c.args.asked.root.now in
    let fault = c.in-Err-alone.fault in
    stage_told new (g.L.Library.holdings c.args.library.now) c.args.asked.folder.now root (λ (held : Folder). ModulesRefused held root)
    (modules_of old c.in-Ok.modules.items) fault
    c.of_stage.result c.of_stage.ensures c.in-Ok.ensures.walked
    (subst (λ (xs : List Module). Tells new (RefusesModules (modules_of old xs) root) fault) c.as_slice.ensures.value
    (c.in-Err-alone.ensures.fault root))

pub returns-in-Ok-clause-known : goal.returns-in-Ok-clause-known
returns-in-Ok-clause-known g c =
    stage_known c.alone.new.names (RefusesModules (modules_of c.order.new.names c.as_slice.result.now) c.args.asked.root.now)
    c.in-Err-alone.fault c.of_stage.result c.of_stage.ensures (c.in-Err-alone.ensures.fault c.args.asked.root.now)

pub returns-in-Ok-clause-names : goal.returns-in-Ok-clause-names
returns-in-Ok-clause-names g c = extends-trans c.in-Ok.ensures.names c.alone.ensures.names

pub returns-in-Ok-clause-count : goal.returns-in-Ok-clause-count
returns-in-Ok-clause-count g c =
    stage_counts c.in-Err-alone.fault c.of_stage.result (g.L.Library.fault_count c.args.library.now) (g.L.Library.fault_count c.order.new.lib)
    c.of_stage.ensures c.in-Ok.ensures.count

pub returns-clause-refused : goal.returns-clause-refused
returns-clause-refused g c =
    walk_told c.order.new.names (g.L.Library.holdings c.args.library.now) c.args.asked.folder.now c.args.asked.root.now
    (λ (held : Folder). ModulesRefused held c.args.asked.root.now) (walk_refuses_modules c.args.asked.root.now) c.in-Err.fault
    c.of_walk.result c.of_walk.ensures c.in-Err.ensures.refused

pub returns-clause-known : goal.returns-clause-known
returns-clause-known g c = walk_known c.order.new.names c.in-Err.fault c.of_walk.result c.of_walk.ensures

pub returns-clause-count : goal.returns-clause-count
returns-clause-count g c =
    walk_counts c.order.new.names c.in-Err.fault c.of_walk.result (g.L.Library.fault_count c.args.library.now) (g.L.Library.fault_count c.order.new.lib)
    c.of_walk.ensures c.in-Err.ensures.count
