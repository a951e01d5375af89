use Rattle.std.proofs.Common.{◌≡◌, drop}
use Rattle.cu_toplevel.specs.Inside.Commas.{commas_in}
use Rattle.cu_toplevel.proofs.tuples.commas_in.Given as goal

abbrev pub invariant-bytes : goal.invariant-bytes
invariant-bytes l = commas_in l.count (drop l.count l.bytes) ≡ commas_in 0 l.bytes
