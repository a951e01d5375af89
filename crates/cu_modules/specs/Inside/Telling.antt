-- What functions tell of what is wrong with names.
use Rattle.std.specs.Prelude.{ℕ, List, ◌++◌}
use Rattle.cu_names.specs.declared.names.NameId.{NameId}
use Rattle.cu_uses.specs.declared.first_fault.FirstFault.{FirstFault}
use Rattle.cu_uses.specs.Faults.{Fault}
use Rattle.cu_uses.specs.Telling.{AreTold}

-- From one state to another these faults of a module were told, whatever was told before.
pub record Told (owner : NameId) (names : List (List ℕ)) (old : FirstFault) (faults : List Fault)
    (new : FirstFault) : Type 0 where
  pub told : (before : List Fault) → AreTold owner names before old
      → AreTold owner names (before ++ faults) new
