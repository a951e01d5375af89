use Rattle.std.proofs.Common.{◌≡◌, ◌++◌, ℕ, List, drop}
use Rattle.cu_uses.specs.Gathered.{names_meaning}
use Rattle.cu_forms.specs.Forms.{free_form}
use Rattle.cu_forms.proofs.BlockLemmas.{frees_of}
use Rattle.cu_forms.proofs.entries.free_names.Given as goal

abbrev pub invariant-loop-d : goal.invariant-loop-d
invariant-loop-d l = (names : List (List ℕ)) → names_meaning names l.free.items ++ frees_of names (drop l.d-index l.ds) ≡ free_form names l.ds
