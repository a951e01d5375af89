-- Where bytes stop being UTF-8.
use Rattle.std.specs.Prelude.{ℕ, zero, suc, Bool, List, [], ◌∷◌, ◌++◌, length, take, if◌then◌else◌}
use Rattle.std.specs.List.{list_any}
use Rattle.std.specs.Str.{is_utf8}

-- The ends of characters: from none to three more bytes, the first of them greater after 0xE0 and
-- after 0xF0.
abbrev pub endings : List (List ℕ)
endings = [] ∷ (0x80 ∷ []) ∷ (0x80 ∷ 0x80 ∷ []) ∷ (0x80 ∷ 0x80 ∷ 0x80 ∷ []) ∷ (0xA0 ∷ 0x80 ∷ [])
    ∷ (0x90 ∷ 0x80 ∷ 0x80 ∷ []) ∷ []

-- Whether some UTF-8 text begins with these bytes: then one of the ends completes them.
unfoldable pub begins_text : List ℕ → Bool
begins_text bytes = list_any (λ ending. is_utf8 (bytes ++ ending)) endings

-- The greatest length up to n of a prefix with which some UTF-8 text begins.
unfoldable pub begun_up_to : List ℕ → ℕ → ℕ
begun_up_to bytes zero = 0
begun_up_to bytes (suc n) = if begins_text (take (suc n) bytes) then suc n else begun_up_to bytes n

-- The offset of the first byte that no UTF-8 text has there, or the length of bytes that end inside
-- a character.
abbrev pub fault_offset : List ℕ → ℕ
fault_offset bytes = begun_up_to bytes (length bytes)
