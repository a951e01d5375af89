use Rattle.std.proofs.Common.{ℕ, List, map, take}
use Rattle.std.specs.List.{All, flat_map, list_any}
use Rattle.cu_entities.specs.Entities as meant
use Rattle.cu_names.specs.declared.names.NameId.{NameId}
use Rattle.cu_names.specs.Texts.{AllDiffer}
use Rattle.cu_syntax.specs.Names.{name_meaning}
use Rattle.cu_syntax.specs.Owners.{NameIsOf}
use Rattle.cu_syntax.specs.Syntax.{Name}
use Rattle.cu_modules.specs.Faults.{unless}
use Rattle.cu_modules.specs.Inside.Telling.{Told}
use Rattle.cu_modules.specs.Known.{AreEntities}
use Rattle.cu_modules.specs.Scopes.{is_called}
use Rattle.cu_modules.proofs.telling.tell_missing.Given as goal

abbrev pub invariant-listed : goal.invariant-listed
invariant-listed l = (owner : NameId) (names : List (List ℕ)) (es : List meant.Entity) → AllDiffer names → AreEntities names es l.entities → All (NameIsOf owner names) l.listed
    → Told owner names l.fn.first (flat_map (λ (n : Name). unless (list_any (is_called n) es) n) (map (name_meaning names) (take l.name-index l.listed))) l.first
