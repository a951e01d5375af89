-- What the exports of modules stand for, under a table of names.
use Rattle.std.specs.Prelude.{ℕ, List, [], Option, None, Some}
use Rattle.std.specs.declared.alloc.Global.{Global}
use Rattle.std.specs.declared.vec.Vec.{Vec}
use Rattle.indexmap.specs.IndexMap.{get}
use Rattle.cu_entities.specs.declared.entities.Entity.{Entity}
use Rattle.cu_names.specs.contracts.names.NameIdPartialEq.TheImpl.{eq-value}
use Rattle.cu_names.specs.declared.names.NameId.{NameId}
use Rattle.cu_names.specs.Texts.{IsKnown, text_of}
use Rattle.cu_modules.specs.declared.interfaces.Interfaces.{Interfaces}
use Rattle.cu_modules.specs.Known.{AreEntities}
use Rattle.cu_modules.specs.Scopes.{Interface, exports_of}

abbrev pub found_items : Option (Vec Entity Global) → List Entity
found_items None = []
found_items (Some v) = v.items

-- The exports that the code holds are those of these interfaces, by the names of the modules.
pub record AreInterfaces (names : List (List ℕ)) (before : List Interface)
    (s : Interfaces) : Type 0 where
  pub each : (id : NameId) → IsKnown names id
      → AreEntities names (exports_of before (text_of names id))
      (found_items (get eq-value.it s.exports id))
