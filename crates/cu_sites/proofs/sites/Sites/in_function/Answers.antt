use Rattle.std.proofs.Common.{◌≡◌, ◌+◌, Some, refl, rules}
use Rattle.cu_lex.specs.Reading.{position_of}
use Rattle.cu_translation.specs.LocalNames.{variable_entries}
use Rattle.cu_uses.specs.Gathered.{names_meaning}
use Rattle.cu_sites.proofs.SpotLemmas.{enters_function}
use Rattle.cu_sites.proofs.sites.Sites.in_function.Goals as goal

pub returns : goal.returns
returns c t spot is all =
    let names = variable_entries (names_meaning t.names c.args.names.now) in
    let deeper : c.in_ok-depth.depth ≡ c.args.at.depth + 1 = search rules in
    enters_function t c.args.self.now c.open.new.self c.args.at (record { function = Some c.of.result; depth = c.in_ok-depth.depth; scope = c.in_ok-scope.scope }) spot names c.in_ok-scope.scope c.in_ok-depth.depth
    c.of.result (position_of c.args.place) is (c.in_ok-scope.ensures t names spot.scope (c.in_ok-entries.ensures t all) is.scope) c.of.ensures deeper refl
