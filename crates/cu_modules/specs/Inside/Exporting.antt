-- What the entries of export lists name.
use Rattle.std.specs.Prelude.{ℕ, Bool, ◌&&◌, List}
use Rattle.std.specs.Option.{option_map}
use Rattle.cu_entities.specs.Bindings.{Binding, is_bound}
use Rattle.cu_entities.specs.declared.entities.Entity as code
use Rattle.cu_entities.specs.declared.name_table.Key.{Key}
use Rattle.cu_entities.specs.EntityMeaning.{is_constructor_in, space_meaning}
use Rattle.cu_names.specs.Texts.{text_of}
use Rattle.cu_syntax.specs.declared.items.Constructors.{Constructors}
use Rattle.cu_modules.specs.Inside.Lists.{comes}

-- whether a key is that of a binding
abbrev pub is_key : List (List ℕ) → Key → Binding → Bool
is_key names key b = is_bound (space_meaning key.space) (option_map (text_of names) key.qualifier)
    (text_of names key.base) b

-- whether an entity is a constructor of a type and comes with it, by the numbers of names
abbrev pub brings : Constructors → code.Entity → code.Entity → Bool
brings which t e = is_constructor_in e t && comes which e
