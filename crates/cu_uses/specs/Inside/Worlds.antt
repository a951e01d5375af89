-- Demands of a text whose faults were told.
use Rattle.std.specs.Prelude.{◌++◌, ℕ, List}
use Rattle.cu_entities.specs.Bindings.{Binding}
use Rattle.cu_names.specs.declared.names.NameId.{NameId}
use Rattle.cu_uses.specs.declared.first_fault.FirstFault.{FirstFault}
use Rattle.cu_uses.specs.Demands.{Demand}
use Rattle.cu_uses.specs.Faults.{Fault, demand_faults}
use Rattle.cu_uses.specs.Telling.{AreTold}

-- the module of a text, a table of names, and what names mean at top level
pub record World : Type 0 where
  pub owner : NameId
  pub names : List (List ℕ)
  pub bindings : List Binding

-- What is wrong with these demands was told, after what was told before.
pub record Told (w : World) (before : FirstFault) (demands : List Demand)
    (after : FirstFault) : Type 0 where
  pub told : (faults : List Fault) → AreTold w.owner w.names faults before
      → AreTold w.owner w.names (faults ++ demand_faults w.bindings demands) after
