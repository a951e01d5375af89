use Rattle.std.proofs.Common.{[], ◌∷◌, List, ap, refl, subst, sym, ◌∙◌}
use Rattle.std.specs.List.{All}
use Rattle.cu_syntax.specs.Owners.{NameIsOf}
use Rattle.cu_uses.specs.Binders.{Names}
use Rattle.cu_uses.specs.Inside.Blocks.{Gathers}
use Rattle.cu_uses.specs.Gathered.{names_meaning, pattern_binds}
use Rattle.cu_uses.proofs.BlockLemmas.{bound_once, found_owned}
use Rattle.cu_uses.proofs.FoundLemmas.{on_ok}
use Rattle.cu_uses.proofs.block.Block.bind.Goals as goal

pub returns : goal.returns
returns c owner names differ is =
    let finds = c.in_ok-pattern.ensures owner names is in
    let places = c.in_ok-variables.ensures owner names differ
    (found_owned owner names c.new-found.result.variables.items c.pattern.new.found.variables.items c.as_slice.result.now (pattern_binds names c.args.p) c.new-found.ensures.variables c.as_slice.ensures.value finds.variables) in
    let bound = bound_once owner names c.args.p c.new-found.result c.pattern.new.found c.as_slice.result.now c.in_ok-variables.variables.items c.new-found.ensures.variables c.as_slice.ensures.value finds.variables places in
    on_ok c.names.result (subst (λ xs. Gathers owner names c.args.self.now (Names xs ∷ []) [] c.names.new.self) (ap (names_meaning names) c.as_slice-2.ensures.value ∙ bound.0))
    (c.names.ensures owner names (subst (All (NameIsOf owner names)) (sym c.as_slice-2.ensures.value) bound.1))
