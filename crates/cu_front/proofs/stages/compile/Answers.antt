use Rattle.std.proofs.Common.{List, subst, sym}
use Rattle.std.specs.List.{All}
use Rattle.cu_calculus.specs.FlatProgram.{program_of}
use Rattle.cu_names.proofs.Growth.{extends-trans}
use Rattle.cu_modules.specs.declared.modules.Module.{Module}
use Rattle.cu_modules.specs.Ordering.{AreOrdered, modules_of}
use Rattle.cu_modules.specs.Reading.{HasModule}
use Rattle.cu_front.specs.Compiling.{Compiles, Folder, RequestRefused}
use Rattle.cu_front.specs.Inside.Stages.{CompileBoth, RefusesBoth}
use Rattle.cu_front.specs.Inside.StageFaults.{Tells}
use Rattle.cu_front.proofs.WalkLemmas.{stage_comes, stage_counts, stage_known, stage_told, walk_counts, walk_known, walk_refuses, walk_told}
use Rattle.cu_front.proofs.stages.compile.Goals as goal

pub in_modules-requires-clause-known : goal.in_modules-requires-clause-known
in_modules-requires-clause-known g c =
    subst (λ (xs : List Module). All (HasModule c.order.new.names) xs) (sym c.as_slice.ensures.value) c.in-Ok.ensures.known

pub in_modules-requires-clause-ordered : goal.in_modules-requires-clause-ordered
in_modules-requires-clause-ordered g c =
    subst (λ (xs : List Module). AreOrdered (modules_of c.order.new.names xs)) (sym c.as_slice.ensures.value) c.in-Ok.ensures.ordered

pub returns-in-Ok-in_modules-clause-program : goal.returns-in-Ok-in_modules-clause-program
returns-in-Ok-in_modules-clause-program g c =
    let old = c.order.new.names in
    let new = c.in_modules.new.names in
    let root = c.args.asked.root.now in
    let text = c.args.asked.goal.now in
    let found = c.in-Ok-in_modules.found in
    stage_comes (g.L.Library.holdings c.args.library.now) c.args.asked.folder.now root
    (λ (held : Folder). Compiles held root text new found.program (program_of found.flat)) (modules_of old c.in-Ok.modules.items)
    c.in-Ok.ensures.walked
    (subst (λ (xs : List Module). CompileBoth (modules_of old xs) root text new found.program (program_of found.flat)) c.as_slice.ensures.value
    c.in-Ok-in_modules.ensures.program)

pub returns-in-Ok-in_modules-clause-names : goal.returns-in-Ok-in_modules-clause-names
returns-in-Ok-in_modules-clause-names g c = extends-trans c.in-Ok.ensures.names c.in_modules.ensures.names

pub returns-in-Ok-clause-refused : goal.returns-in-Ok-clause-refused
returns-in-Ok-clause-refused g c =
    let old = c.order.new.names in
    let new = c.in_modules.new.names in
    let root = c.args.asked.root.now in
    let text = c.args.asked.goal.now in
    let fault = c.in-Err-in_modules.fault in
    stage_told new (g.L.Library.holdings c.args.library.now) c.args.asked.folder.now root (λ (held : Folder). RequestRefused held root text)
    (modules_of old c.in-Ok.modules.items) fault
    c.of_stage.result c.of_stage.ensures c.in-Ok.ensures.walked
    (subst (λ (xs : List Module). Tells new (RefusesBoth (modules_of old xs) root text) fault) c.as_slice.ensures.value c.in-Err-in_modules.ensures.fault)

pub returns-in-Ok-clause-known : goal.returns-in-Ok-clause-known
returns-in-Ok-clause-known g c =
    stage_known c.in_modules.new.names (RefusesBoth (modules_of c.order.new.names c.as_slice.result.now) c.args.asked.root.now c.args.asked.goal.now)
    c.in-Err-in_modules.fault c.of_stage.result c.of_stage.ensures c.in-Err-in_modules.ensures.fault

pub returns-in-Ok-clause-names : goal.returns-in-Ok-clause-names
returns-in-Ok-clause-names g c = extends-trans c.in-Ok.ensures.names c.in_modules.ensures.names

pub returns-in-Ok-clause-count : goal.returns-in-Ok-clause-count
returns-in-Ok-clause-count g c =
    stage_counts c.in-Err-in_modules.fault c.of_stage.result (g.L.Library.fault_count c.args.library.now) (g.L.Library.fault_count c.order.new.lib)
    c.of_stage.ensures c.in-Ok.ensures.count

pub returns-clause-refused : goal.returns-clause-refused
returns-clause-refused g c =
    walk_told c.order.new.names (g.L.Library.holdings c.args.library.now) c.args.asked.folder.now c.args.asked.root.now
    (λ (held : Folder). RequestRefused held c.args.asked.root.now c.args.asked.goal.now) (walk_refuses c.args.asked.root.now c.args.asked.goal.now) c.in-Err.fault
    c.of_walk.result c.of_walk.ensures c.in-Err.ensures.refused

pub returns-clause-known : goal.returns-clause-known
returns-clause-known g c = walk_known c.order.new.names c.in-Err.fault c.of_walk.result c.of_walk.ensures

pub returns-clause-count : goal.returns-clause-count
returns-clause-count g c =
    walk_counts c.order.new.names c.in-Err.fault c.of_walk.result (g.L.Library.fault_count c.args.library.now) (g.L.Library.fault_count c.order.new.lib)
    c.of_walk.ensures c.in-Err.ensures.count
