use Rattle.std.proofs.Common.{◌≡◌, drop}
use Rattle.cu_deftree.specs.Inside.NamesOf.{found_name}
use Rattle.cu_deftree.proofs.names.named.Given as goal

abbrev pub invariant-loop-name : goal.invariant-loop-name
invariant-loop-name l = found_name (drop l.name-index l.names) l.x ≡ found_name l.names l.x
