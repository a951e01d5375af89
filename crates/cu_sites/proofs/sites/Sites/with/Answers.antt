use Rattle.std.proofs.Common.{refl}
use Rattle.cu_translation.specs.LocalNames.{variable_entries}
use Rattle.cu_uses.specs.Gathered.{names_meaning}
use Rattle.cu_sites.proofs.SpotLemmas.{enters_scope}
use Rattle.cu_sites.proofs.sites.Sites.with.Goals as goal

pub returns : goal.returns
returns c t spot is all =
    enters_scope t c.args.self.now c.open.new.self c.args.at (record { function = c.args.at.function; depth = c.args.at.depth; scope = c.in_ok-scope.scope }) spot (variable_entries (names_meaning t.names c.args.names.now)) c.in_ok-scope.scope is
    (c.in_ok-scope.ensures t (variable_entries (names_meaning t.names c.args.names.now)) spot.scope (c.in_ok-entries.ensures t all) is.scope) refl
