use Rattle.std.proofs.Common.{arith, ◌∷◌, []}
use Rattle.cu_modules.proofs.EntityLemmas.{cons_is}
use Rattle.cu_modules.proofs.built_in.cons.Goals as goal

pub found-requires-2 : goal.found-requires-2
found-requires-2 c = c.requires.lists 1 (58 ∷ []) (omega arith)

pub returns : goal.returns
returns c = cons_is c.args.names.now c.found.result c.found-2.result c.found-3.result c.found.ensures c.found-2.ensures c.found-3.ensures
