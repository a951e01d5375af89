use Rattle.std.proofs.Common.{◌<◌, List, length, subst, sym}
use Rattle.std.specs.List.{All}
use Rattle.cu_names.proofs.Growth.{extends-trans}
use Rattle.cu_modules.specs.declared.modules.Module.{Module}
use Rattle.cu_modules.specs.Ordering.{AreOrdered, modules_of}
use Rattle.cu_modules.specs.Reading.{HasModule}
use Rattle.cu_front.specs.Compiling.{Folder, ModulesRefused}
use Rattle.cu_front.specs.declared.loaded.Loaded.{Loaded}
use Rattle.cu_front.specs.Inside.Stages.{RefusesModules}
use Rattle.cu_front.specs.Inside.StageFaults.{Tells}
use Rattle.cu_front.specs.Loaded.{AreLoaded, IsLoaded}
use Rattle.cu_front.proofs.AloneLemmas.{walk_refuses_modules}
use Rattle.cu_front.proofs.LoadedLemmas.{loaded_as, still_loaded}
use Rattle.cu_front.proofs.WalkLemmas.{stage_comes, stage_counts, stage_known, stage_told, walk_counts, walk_known, walk_told}
use Rattle.cu_front.proofs.loaded.load.Goals as goal

pub tested-requires-clause-known : goal.tested-requires-clause-known
tested-requires-clause-known g c =
    subst (λ (xs : List Module). All (HasModule c.order.new.names) xs) (sym c.as_slice.ensures.value) c.in-Ok.ensures.known

pub tested-requires-clause-ordered : goal.tested-requires-clause-ordered
tested-requires-clause-ordered g c =
    subst (λ (xs : List Module). AreOrdered (modules_of c.order.new.names xs)) (sym c.as_slice.ensures.value) c.in-Ok.ensures.ordered

pub returns-in-Ok-tested-clause-loaded : goal.returns-in-Ok-tested-clause-loaded
returns-in-Ok-tested-clause-loaded g c =
    let old = c.order.new.names in
    let new = c.tested.new.names in
    let root = c.args.asked.root.now in
    let loaded : Loaded = record { modules = c.in-Ok.modules; root = c.in-Ok-tested.root } in
    stage_comes (g.L.Library.holdings c.args.library.now) c.args.asked.folder.now root (λ (held : Folder). AreLoaded held root new loaded)
    (modules_of old c.in-Ok.modules.items) c.in-Ok.ensures.walked
    (λ held walk. loaded_as held root old new c.as_slice.result.now loaded c.as_slice.ensures.value c.tested.ensures.names c.in-Ok.ensures.known
    c.in-Ok-tested.ensures.compiled c.in-Ok-tested.ensures.number walk)

pub returns-in-Ok-tested-clause-kept : goal.returns-in-Ok-tested-clause-kept
returns-in-Ok-tested-clause-kept g c =
    let old = c.order.new.names in
    let loaded : Loaded = record { modules = c.in-Ok.modules; root = c.in-Ok-tested.root } in
    let is : IsLoaded old loaded = record {
      built_in = c.in-Ok.ensures.built_in;
      known = c.in-Ok.ensures.known;
      ordered = c.in-Ok.ensures.ordered;
      root = subst (λ (xs : List Module). c.in-Ok-tested.root < length xs) c.as_slice.ensures.value c.in-Ok-tested.ensures.within;
    } in
    still_loaded old c.tested.new.names loaded c.tested.ensures.names is

pub returns-in-Ok-tested-clause-names : goal.returns-in-Ok-tested-clause-names
returns-in-Ok-tested-clause-names g c = extends-trans c.in-Ok.ensures.names c.tested.ensures.names

pub returns-in-Err-tested-clause-refused : goal.returns-in-Err-tested-clause-refused
returns-in-Err-tested-clause-refused g c =
    let old = c.order.new.names in
    let new = c.tested.new.names in
    let root = c.args.asked.root.now in
    let fault = c.in-Err-tested.fault in
    stage_told new (g.L.Library.holdings c.args.library.now) c.args.asked.folder.now root (λ (held : Folder). ModulesRefused held root)
    (modules_of old c.in-Ok.modules.items) fault
    c.of_stage.result c.of_stage.ensures c.in-Ok.ensures.walked
    (subst (λ (xs : List Module). Tells new (RefusesModules (modules_of old xs) root) fault) c.as_slice.ensures.value c.in-Err-tested.ensures.fault)

pub returns-in-Err-tested-clause-known : goal.returns-in-Err-tested-clause-known
returns-in-Err-tested-clause-known g c =
    stage_known c.tested.new.names (RefusesModules (modules_of c.order.new.names c.as_slice.result.now) c.args.asked.root.now)
    c.in-Err-tested.fault c.of_stage.result c.of_stage.ensures c.in-Err-tested.ensures.fault

pub returns-in-Err-tested-clause-names : goal.returns-in-Err-tested-clause-names
returns-in-Err-tested-clause-names g c = extends-trans c.in-Ok.ensures.names c.tested.ensures.names

pub returns-in-Err-tested-clause-count : goal.returns-in-Err-tested-clause-count
returns-in-Err-tested-clause-count g c =
    stage_counts c.in-Err-tested.fault c.of_stage.result (g.L.Library.fault_count c.args.library.now) (g.L.Library.fault_count c.order.new.lib)
    c.of_stage.ensures c.in-Ok.ensures.count

pub returns-in-Err-clause-refused : goal.returns-in-Err-clause-refused
returns-in-Err-clause-refused g c =
    walk_told c.order.new.names (g.L.Library.holdings c.args.library.now) c.args.asked.folder.now c.args.asked.root.now
    (λ (held : Folder). ModulesRefused held c.args.asked.root.now) (walk_refuses_modules c.args.asked.root.now) c.in-Err.fault
    c.of_walk.result c.of_walk.ensures c.in-Err.ensures.refused

pub returns-in-Err-clause-known : goal.returns-in-Err-clause-known
returns-in-Err-clause-known g c = walk_known c.order.new.names c.in-Err.fault c.of_walk.result c.of_walk.ensures

pub returns-in-Err-clause-count : goal.returns-in-Err-clause-count
returns-in-Err-clause-count g c =
    walk_counts c.order.new.names c.in-Err.fault c.of_walk.result (g.L.Library.fault_count c.args.library.now) (g.L.Library.fault_count c.order.new.lib)
    c.of_walk.ensures c.in-Err.ensures.count
