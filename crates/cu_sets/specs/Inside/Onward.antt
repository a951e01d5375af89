-- Whether exactly one branch follows a step.
use Rattle.std.specs.Prelude.{◌≡◌, [], ◌∷◌, None}
use Rattle.cu_graph.specs.declared.store.Store.{Ghosts}
use Rattle.cu_machine.specs.Graph.{Graph}
use Rattle.cu_machine.specs.Run.{only_state}
use Rattle.cu_step.specs.Outcome.{branches_of, next_of}
use Rattle.cu_step.specs.declared.Outcome.{Outcome}
use Rattle.cu_sets.specs.declared.runs.Onward.{Onward}
use Rattle.cu_sets.specs.declared.runs.Onward.TheVariants as onward

-- The answer is the only branch that follows, or else the outcome itself, where not exactly one
-- does.
abbrev pub GoesOnward : {S : Type 0} {G : Ghosts S} → (S → Graph) → Outcome S G → Onward S G → Type 0
GoesOnward content outcome (onward.Only branch) = branches_of outcome ≡ branch ∷ []
GoesOnward content outcome (onward.Other same) =
    (same ≡ outcome) × (only_state (next_of content outcome) ≡ None)
