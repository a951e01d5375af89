-- Characters and the places where they stand.
use Rattle.std.specs.Prelude.{ℕ, ◌+◌, ◌*◌, ◌/◌, ◌==◌, List, [], ◌∷◌, map, if◌then◌else◌}
use Rattle.std.specs.Str.{byte}

-- A place in a text: its line and its column, each counted from 1.
pub record Position : Type 0 where
  pub line : ℕ
  pub column : ℕ

-- A character, and where it stands.
pub record Located : Type 0 where
  pub char : ℕ
  pub at : Position

-- The place of a text's first character.
abbrev pub first_position : Position
first_position = record { line = 1; column = 1 }

-- The first place of the next line.
abbrev pub on_next_line : Position → Position
on_next_line p = record { line = p.line + 1; column = 1 }

-- The next place in a column of the form 8 k + 1.
abbrev pub on_next_stop : Position → Position
on_next_stop p = record { line = p.line; column = 8 * ((p.column + 7) / 8) + 1 }

-- The place in the next column.
abbrev pub on_next_column : Position → Position
on_next_column p = record { line = p.line; column = p.column + 1 }

-- The place after a character: lines end at a line feed, and a tab moves on to the next stop.
abbrev pub position_after : ℕ → Position → Position
position_after c p = if c == byte "\n" then on_next_line p else if c == byte "\t"
    then on_next_stop p else on_next_column p

-- Characters one after another, the first of them at a place.
unfoldable pub located_from : Position → List ℕ → List Located
located_from p [] = []
located_from p (c ∷ cs) = record { char = c; at = p } ∷ located_from (position_after c p) cs

-- The characters without a byte order mark at their start.
abbrev pub without_mark : List ℕ → List ℕ
without_mark [] = []
without_mark (c ∷ cs) = if c == 0xFEFF then cs else c ∷ cs

-- The characters of a text where they stand. A byte order mark takes no place.
abbrev pub located : List ℕ → List Located
located cs = located_from first_position (without_mark cs)

-- The characters of a text, without their places.
abbrev pub characters : List Located → List ℕ
characters text = map (λ l. l.char) text
