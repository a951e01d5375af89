use Rattle.std.proofs.Common.{ℕ, List}
use Rattle.std.specs.List.{All}
use Rattle.cu_names.specs.Texts.{AllDiffer, IsKnown}
use Rattle.cu_toplevel.proofs.ImportLemmas.{Once}
use Rattle.cu_toplevel.proofs.imports.each_once.Given as goal

abbrev pub invariant-names : goal.invariant-names
invariant-names l = (table : List (List ℕ)) → AllDiffer table → All (IsKnown table) l.names → Once table l.names l.name-index l.once.keys
