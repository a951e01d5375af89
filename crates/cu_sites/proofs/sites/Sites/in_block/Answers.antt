use Rattle.std.proofs.Common.{refl}
use Rattle.cu_locals.specs.Entries.{block_brings}
use Rattle.cu_sites.proofs.SpotLemmas.{block_entered, enters_scope}
use Rattle.cu_sites.proofs.sites.Sites.in_block.Goals as goal

pub returns : goal.returns
returns c t spot is all =
    block_entered t c.open.new.self c.args.self.now spot c.args.ds.now _
    (enters_scope t c.args.self.now c.open.new.self c.args.at (record { function = c.args.at.function; depth = c.args.at.depth; scope = c.in_ok-scope.scope }) spot (block_brings t.names c.args.ds.now) c.in_ok-scope.scope is
    (c.in_ok-scope.ensures t (block_brings t.names c.args.ds.now) spot.scope (c.in_ok-entries.ensures t all) is.scope) refl)
