-- What a module exports, by the numbers of names.
use Rattle.std.specs.Prelude.{Bool, ◌&&◌, nat_eq}
use Rattle.cu_entities.specs.declared.entities.Entity.{Entity}
use Rattle.cu_entities.specs.declared.entities.Space.{Space}
use Rattle.cu_entities.specs.EntityMeaning.{same_spaces, sort_in}
use Rattle.cu_names.specs.declared.names.NameId.{NameId}

-- whether an entity is the one that the module of a name declares under a name
abbrev pub is_own : NameId → Space → NameId → Entity → Bool
is_own owner space name e =
    nat_eq e.owner.0 owner.0 && (nat_eq e.name.0 name.0 && same_spaces space (sort_in e.sort))
