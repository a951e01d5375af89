use Rattle.std.proofs.Common.{◌≡◌, ℕ, List, ◌++◌, take}
use Rattle.std.specs.List.{All}
use Rattle.cu_names.specs.declared.names.NameId.{NameId}
use Rattle.cu_names.specs.Texts.{AllDiffer}
use Rattle.cu_syntax.specs.Owners.{NameIsOf}
use Rattle.cu_toplevel.proofs.OperatorLemmas.{all_of}
use Rattle.cu_toplevel.proofs.operators.add_all.Given as goal

abbrev pub invariant-declared : goal.invariant-declared
invariant-declared l = (owner : NameId) (names : List (List ℕ)) → AllDiffer names → All (NameIsOf owner names) l.declared
    → l.operators.items ≡ l.fn.operators.items ++ all_of names l.fn.side l.level (take l.name-index l.declared)
