use Rattle.std.proofs.Common.{ℕ, List}
use Rattle.std.specs.List.{All}
use Rattle.cu_names.specs.declared.names.NameId.{NameId}
use Rattle.cu_syntax.specs.Owners.{ItemIsOf}
use Rattle.cu_declared.proofs.SynonymLemmas.{KeptSoFar}
use Rattle.cu_declared.proofs.synonyms.synonyms.Given as goal

abbrev pub invariant-items : goal.invariant-items
invariant-items l = (owner : NameId) (names : List (List ℕ)) → All (ItemIsOf owner names) l.items → KeptSoFar owner names l.items l.item-index l.found.items
