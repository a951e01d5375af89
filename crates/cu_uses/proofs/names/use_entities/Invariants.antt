use Rattle.std.proofs.Common.{ℕ, List, drop}
use Rattle.std.specs.List.{All}
use Rattle.cu_entities.specs.EntityMeaning.{space_meaning}
use Rattle.cu_syntax.specs.Owners.{NameIsOf}
use Rattle.cu_uses.specs.declared.first_fault.FirstFault.{FirstFault}
use Rattle.cu_uses.specs.Demands.{used}
use Rattle.cu_uses.specs.Gathered.{names_meaning}
use Rattle.cu_uses.specs.Inside.Scopes.{Sees}
use Rattle.cu_uses.specs.Inside.Worlds.{Told, World}
use Rattle.cu_uses.proofs.names.use_entities.Given as goal

abbrev pub invariant-loop-name : goal.invariant-loop-name
invariant-loop-name l =
    (w : World) (local : List (List ℕ)) (after : FirstFault) → Sees w local l.scope → All (NameIsOf w.owner w.names) l.names
    → Told w l.first (used (space_meaning l.space) (names_meaning w.names (drop l.name-index l.names))) after
    → Told w l.fn.first (used (space_meaning l.space) (names_meaning w.names l.names)) after
