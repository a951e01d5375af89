-- Type synonyms that lead to themselves. A module's imports stand before it and never name what it
-- declares, so the synonyms on a cycle are all of one module.
use Rattle.std.specs.Prelude.{◌≡◌, ℕ, ◌+◌, List, [], ◌∷◌, Some, slice_get}
use Rattle.std.specs.List.{flat_map}
use Rattle.cu_lex.specs.Located.{Position}
use Rattle.cu_syntax.specs.Syntax as syntax
use Rattle.cu_syntax.specs.Syntax.{Item, TypeTerm}
use Rattle.cu_entities.specs.Bindings.{Binding}
use Rattle.cu_entities.specs.Entities.{Entity, Types}
use Rattle.cu_modules.specs.Scopes.{Named, meant}
use Rattle.cu_declared.specs.Parameters.{Numbered, number_of, numbered}
use Rattle.cu_declared.specs.TypeUses.{TypeUse, type_uses}

-- a synonym: where it is declared, its name, and the type on its right
pub record Synonym : Type 0 where
  pub at : Position
  pub name : List ℕ
  pub right : TypeTerm

abbrev pub synonyms_by : Item → List Synonym
synonyms_by (syntax.Synonym at name parameters meant) =
    record { at = at; name = name.text; right = meant } ∷ []
synonyms_by _ = []

-- the synonyms of a module, in the order of the text, by which they are numbered from 0
abbrev pub synonyms_in : Named → List Synonym
synonyms_in m = flat_map synonyms_by m.syntax.items

abbrev pub numbers_from : ℕ → List ℕ → List Synonym → List Numbered
numbers_from k owner [] = []
numbers_from k owner (s ∷ synonyms) =
    numbered owner s.name k ∷ numbers_from (k + 1) owner synonyms

abbrev pub synonym_numbers : Named → List Numbered
synonym_numbers m = numbers_from 0 m.name (synonyms_in m)

-- A name on the right of synonym i means synonym j, where names mean what is bound.
pub record Mentions (bindings : List Binding) (m : Named) (i j : ℕ) : Type 0 where
  pub synonym : Synonym
  pub is_there : slice_get (synonyms_in m) i ≡ Some synonym
  pub used : TypeUse
  pub place : ℕ
  pub stands : slice_get (type_uses synonym.right) place ≡ Some used
  pub entity : Entity
  pub means : meant bindings Types used.name ≡ entity ∷ []
  pub is_synonym : number_of (synonym_numbers m) entity ≡ Some j

-- Synonym i leads to synonym j by the names on the right of synonyms, in one step or more.
pub data LeadsTo (bindings : List Binding) (m : Named) : ℕ → ℕ → Type 0 where
  at_once : (i j : ℕ) → Mentions bindings m i j → LeadsTo bindings m i j
  by_way_of : (i j k : ℕ) → Mentions bindings m i j → LeadsTo bindings m j k
      → LeadsTo bindings m i k
