-- Tables of names, as the lists of their texts.
use Rattle.std.specs.Prelude.{◌≡◌, ℕ, ◌<◌, List, [], ◌∷◌, ◌++◌, if◌then◌else◌, length, slice_get, slice_index_or, Some}
use Rattle.std.specs.List.{list_any}
use Rattle.std.specs.Str.{bytes_eq}
use Rattle.cu_names.specs.declared.names.NameId.{NameId}

-- The text that a name stands for in a table, and nothing where the table lacks it.
abbrev pub text_of : List (List ℕ) → NameId → List ℕ
text_of texts id = slice_index_or texts id.0 []

-- The table has the name.
abbrev pub IsKnown : List (List ℕ) → NameId → Type 0
IsKnown texts id = id.0 < length texts

-- The table after a text is interned: a text that it lacks goes to its end.
abbrev pub interned : List (List ℕ) → List ℕ → List (List ℕ)
interned texts text = if list_any (bytes_eq text) texts then texts else texts ++ text ∷ []

-- No text stands twice in a table: where two of its numbers have one text they are one number.
abbrev pub AllDiffer : List (List ℕ) → Type 0
AllDiffer texts = (i j : ℕ) (text : List ℕ) → slice_get texts i ≡ Some text
    → slice_get texts j ≡ Some text → i ≡ j

-- The new table is the old one with more texts at its end.
pub record Extends (old new : List (List ℕ)) : Type 0 where
  pub more : List (List ℕ)
  pub appended : new ≡ old ++ more
