-- What signatures declare of functions, under a table of names.
use Rattle.indexmap.specs.IndexMap.{get}
use Rattle.std.specs.Prelude.{◌≡◌, ℕ, List, Option, None, Some, IfSome, if◌then◌else◌}
use Rattle.std.specs.List.{list_any}
use Rattle.std.specs.Option.{option_map}
use Rattle.std.specs.Str.{bytes_eq}
use Rattle.cu_names.specs.contracts.names.NameIdPartialEq.TheImpl.{eq-value}
use Rattle.cu_names.specs.declared.names.NameId.{NameId}
use Rattle.cu_names.specs.Texts.{IsKnown, text_of}
use Rattle.cu_syntax.specs.declared.types.TypeTerm as code
use Rattle.cu_syntax.specs.Owners.{TypeIsOf}
use Rattle.cu_syntax.specs.Syntax.{Name, TypeTerm}
use Rattle.cu_syntax.specs.Types.{type_meaning}
use Rattle.cu_toplevel.specs.declared.signature_table.Signatures.{Signatures}
use Rattle.cu_translation.specs.LocalFunctions.{or_else}

-- the types told of names, with one more: the type of a name of which nothing is told yet
abbrev pub and_one :
    List ℕ → TypeTerm → (List ℕ → Option TypeTerm) → List ℕ → Option TypeTerm
and_one name t told text = or_else (told text) (if bytes_eq name text then Some t else None)

-- the types told of names, with one more, that of several names, for those of which nothing is told
-- yet
abbrev pub and_several :
    List Name → TypeTerm → (List ℕ → Option TypeTerm) → List ℕ → Option TypeTerm
and_several names t told text =
    or_else (told text)
    (if list_any (λ (x : Name). bytes_eq x.text text) names then Some t else None)

-- Look-ups give the types that are told of names, each of which is of the module.
pub record GivesSignatures
    (owner : NameId) (names : List (List ℕ)) (told : List ℕ → Option TypeTerm)
    (found : NameId → Option code.TypeTerm) : Type 0
  where
    pub each : (id : NameId) → IsKnown names id
        → option_map (type_meaning names) (found id) ≡ told (text_of names id)
    pub owned : (id : NameId) → IsKnown names id → IfSome (found id) (TypeIsOf owner names)

-- The signatures that the code has are the types that are told.
pub record AreSignatures
    (owner : NameId) (names : List (List ℕ)) (told : List ℕ → Option TypeTerm)
    (s : Signatures) : Type 0
  where
    pub gives : GivesSignatures owner names told (get eq-value.it s.of)
