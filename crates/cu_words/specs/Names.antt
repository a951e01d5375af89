-- The names of modules.
use Rattle.std.specs.Prelude.{ℕ, Bool, false, ◌&&◌, ◌||◌, nat_eq, nat_le, List, [], ◌∷◌}
use Rattle.std.specs.List.{list_all, slice_split}

abbrev pub is_between : ℕ → ℕ → ℕ → Bool
is_between low high b = nat_le low b && nat_le b high

abbrev pub is_letter : ℕ → Bool
is_letter b = is_between 65 90 b || is_between 97 122 b

abbrev pub is_digit : ℕ → Bool
is_digit b = is_between 48 57 b

-- a letter, a digit, an underscore or an apostrophe
abbrev pub is_name_byte : ℕ → Bool
is_name_byte b = is_letter b || is_digit b || nat_eq b 95 || nat_eq b 39

-- one name: a letter, and then letters, digits, underscores and apostrophes
abbrev pub is_name : List ℕ → Bool
is_name [] = false
is_name (b ∷ bs) = is_letter b && list_all is_name_byte bs

abbrev pub is_dot : ℕ → Bool
is_dot b = nat_eq b 46

-- the name of a module: one or more names, joined by dots
abbrev pub is_module_name : List ℕ → Bool
is_module_name text = list_all is_name (slice_split is_dot text)
