use Rattle.std.proofs.Common.{[], ◌∷◌, codes}
use Rattle.std.proofs.lemmas.List.Elements.{All-head, All-tail}
use Rattle.std.specs.List.{Contains}
use Rattle.cu_modules.specs.BuiltInEntities.{prelude_name, set_functions_name}
use Rattle.cu_declared.proofs.AddsLemmas.{on_ok}
use Rattle.cu_declared.proofs.CallLemmas.{built_in_gained}
use Rattle.cu_cycles.proofs.Places.{within}
use Rattle.cu_declared.proofs.calls.add_built_in.Goals as goal

pub found-prelude-requires : goal.found-prelude-requires
found-prelude-requires c = All-head (Contains c.args.names.now) prelude_name (set_functions_name ∷ []) c.requires.modules

pub found-int-requires : goal.found-int-requires
found-int-requires c = All-head (Contains c.args.names.now) (codes "Int") (codes "Char" ∷ []) c.requires.literals

pub found-char-requires : goal.found-char-requires
found-char-requires c = All-head (Contains c.args.names.now) (codes "Char") [] (All-tail (Contains c.args.names.now) (codes "Int") (codes "Char" ∷ []) c.requires.literals)

pub returns : goal.returns
returns c =
    let names = c.args.names.now in
    let prelude = within names c.found-prelude.result.0 prelude_name c.found-prelude.ensures in
    on_ok c.add-2.result
    (λ two. built_in_gained names c.found-prelude.result c.found-int.result c.found-char.result c.args.numbers.now c.add.new.self c.add-2.new.self c.found-prelude.ensures c.found-int.ensures c.found-char.ensures
    (c.in_ok-add.ensures names c.count-count.ensures.differ prelude (within names c.found-int.result.0 (codes "Int") c.found-int.ensures)) two)
    (c.add-2.ensures names c.count-count.ensures.differ prelude (within names c.found-char.result.0 (codes "Char") c.found-char.ensures))
