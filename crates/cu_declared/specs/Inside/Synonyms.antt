-- Synonyms of the code, and the graph of what they name.
use Rattle.std.specs.Prelude.{◌≡◌, ℕ, ◌+◌, Bool, List, [], ◌∷◌, ◌++◌, Option, None, Some, if◌then◌else◌, map, slice_get}
use Rattle.std.specs.List.{All, flat_map}
use Rattle.cu_entities.specs.Bindings.{Binding}
use Rattle.cu_entities.specs.Entities.{Entity}
use Rattle.cu_lex.specs.Located.{Position}
use Rattle.cu_lex.specs.Reading.{position_of}
use Rattle.cu_names.specs.declared.names.NameId.{NameId}
use Rattle.cu_modules.specs.declared.scopes.Scopes.{Scopes}
use Rattle.cu_names.specs.Texts.{IsKnown, text_of}
use Rattle.cu_syntax.specs.Owners.{PlaceIsOf}
use Rattle.cu_declared.specs.declared.synonyms.Synonym as code
use Rattle.cu_declared.specs.Inside.Arities.{entity_meant}
use Rattle.cu_declared.specs.Inside.Gathered.{UseIsOf, uses_meaning}
use Rattle.cu_declared.specs.Inside.Told.{IsAt, World, bindings_of}
use Rattle.cu_declared.specs.Parameters.{Numbered, number_of, numbered}
use Rattle.cu_declared.specs.SynonymCycles.{Synonym, synonyms_in}
use Rattle.cu_declared.specs.TypeFaults as meant
use Rattle.cu_declared.specs.TypeFaults.{Fault, IsCycleFault}
use Rattle.cu_declared.specs.TypeUses.{TypeUse, type_uses}

-- what the code keeps of a synonym: where it is declared, its name, and the names of types on its
-- right
pub record Kept : Type 0 where
  pub at : Position
  pub name : List ℕ
  pub uses : List TypeUse

abbrev pub kept : Synonym → Kept
kept s = record { at = s.at; name = s.name; uses = type_uses s.right }

abbrev pub kept_by : List (List ℕ) → code.Synonym → Kept
kept_by names s = record {
  at = position_of s.place;
  name = text_of names s.name;
  uses = uses_meaning names s.uses.items;
}

pub record SynonymIsOf (owner : NameId) (names : List (List ℕ)) (s : code.Synonym) : Type 0 where
  pub place : PlaceIsOf owner s.place
  pub name : IsKnown names s.name
  pub uses : All (UseIsOf owner names) s.uses.items

-- The synonyms that the code found are these, with names that a table has.
pub record AreKept (owner : NameId) (names : List (List ℕ)) (synonyms : List Synonym)
    (found : List code.Synonym) : Type 0 where
  pub are : map (kept_by names) found ≡ map kept synonyms
  pub owned : All (SynonymIsOf owner names) found

-- ---- the graph

abbrev pub kept_numbers : ℕ → List ℕ → List Kept → List Numbered
kept_numbers k owner [] = []
kept_numbers k owner (s ∷ synonyms) =
    numbered owner s.name k ∷ kept_numbers (k + 1) owner synonyms

abbrev pub number_if : List Numbered → Option Entity → Option ℕ
number_if numbers None = None
number_if numbers (Some e) = number_of numbers e

abbrev pub target_of : List Numbered → List Binding → TypeUse → Option ℕ
target_of numbers bindings used = number_if numbers (entity_meant bindings used)

abbrev pub listed : Option ℕ → List ℕ
listed None = []
listed (Some n) = n ∷ []

abbrev pub targets : List Numbered → List Binding → List TypeUse → List ℕ
targets numbers bindings uses = flat_map (λ used. listed (target_of numbers bindings used)) uses

abbrev pub row_of : List Numbered → List Binding → Kept → List ℕ
row_of numbers bindings s = targets numbers bindings s.uses

-- ---- faults

abbrev pub flagged_fault : Bool → Kept → List Fault
flagged_fault flag s =
    if flag then record { wrong = meant.SynonymCycle s.name; at = s.at } ∷ [] else []

-- the faults of those synonyms that are flagged
abbrev pub flagged_faults : List Bool → List Kept → List Fault
flagged_faults [] synonyms = []
flagged_faults (flag ∷ flags) [] = []
flagged_faults (flag ∷ flags) (s ∷ synonyms) = flagged_fault flag s ++ flagged_faults flags synonyms

-- These are the faults of a module that are cycles of synonyms: each is one, and each one is among
-- them.
pub record AreCycles (w : World) (faults : List Fault) : Type 0 where
  pub each : (k : ℕ) (f : Fault) → slice_get faults k ≡ Some f
      → IsCycleFault (bindings_of w) w.m f
  pub all : (f : Fault) → IsCycleFault (bindings_of w) w.m f
      → (k : ℕ) × (slice_get faults k ≡ Some f)

-- the synonym that the code found in an item, if it found one, is the one that the item declares
abbrev pub IsKept : NameId → List (List ℕ) → List Synonym → Option code.Synonym → Type 0
IsKept owner names synonyms None = synonyms ≡ []
IsKept owner names synonyms (Some s) = AreKept owner names synonyms (s ∷ [])

-- the synonyms that the code found are those of the module in which a text stands
pub record AreSynonyms (w : World) (number : ℕ) (owner : NameId) (scopes : Scopes)
    (found : List code.Synonym) : Type 0 where
  pub is_at : IsAt w number scopes
  pub owner_is : owner ≡ w.owner
  pub owner_known : IsKnown w.names owner
  pub owner_text : text_of w.names owner ≡ w.m.name
  pub are : AreKept w.owner w.names (synonyms_in w.m) found
