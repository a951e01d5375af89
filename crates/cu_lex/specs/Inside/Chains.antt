-- Words with qualifiers, at the start of a text.
use Rattle.std.specs.Prelude.{◌≡◌, ◌≤◌, true, List, ◌++◌, length, Option, None, Some}
use Rattle.std.specs.Str.{byte}
use Rattle.cu_lex.specs.declared.cursor.Cursor.{Cursor}
use Rattle.cu_lex.specs.declared.word.Qualified.{Qualified}
use Rattle.cu_lex.specs.declared.word.WordKind.{WordKind}
use Rattle.cu_lex.specs.Located.{Located, characters}
use Rattle.cu_lex.specs.Inside.Scanning.{first_of, later, left, con_id_kind, is_base, IsWord}
use Rattle.cu_lex.specs.Words.{is_module_name}

-- A text begins with a name or an operator, qualified or not, that ends before `rest`.
pub data Reaches (rest : List Located) : List Located → Type 0 where
  last : {text : List Located} (kind : WordKind) → IsWord text kind rest → is_base kind ≡ true
      → Reaches rest text
  link : {text : List Located} (end : List Located) → IsWord text con_id_kind end
      → first_of end ≡ Some (byte ".") → Reaches rest (later end) → Reaches rest text

-- A base begins right after a dot of a text, and a qualifier ends before the dot.
pub record IsAfter (text dot base : List Located) : Type 0 where
  pub outer : List Located
  pub whole : outer ++ dot ≡ text
  pub is : is_module_name (characters outer) ≡ true
  pub dotted : first_of dot ≡ Some (byte ".")
  pub after : base ≡ later dot

-- The last word of a qualified word begins at the start of the text, or after a qualifier and its
-- dot.
abbrev pub BeginsAt : List Located → List Located → Option Cursor → Type 0
BeginsAt text base None = base ≡ text
BeginsAt text base (Some dot) = IsAfter text (left dot) base

-- The word that was found at the start of a text has all its qualifiers: no other reaches further.
pub record IsQualified (text : List Located) (found : Qualified) : Type 0 where
  pub begins : BeginsAt text (left found.base) found.dot
  pub word : IsWord (left found.base) found.word.kind (left found.word.end)
  pub base : is_base found.word.kind ≡ true
  pub plain : found.dot ≡ None → found.word.kind ≡ con_id_kind
  pub most : (rest : List Located) → Reaches rest text → length (left found.word.end) ≤ length rest
