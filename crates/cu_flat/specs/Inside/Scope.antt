-- Scopes as lists of variables.
use Rattle.std.specs.Prelude.{ℕ, List, [], ◌∷◌, if◌then◌else◌, nat_eq}

-- what is left of variables after the first one, where that is x; else all of them
abbrev pub after : ℕ → List ℕ → List ℕ
after x [] = []
after x (y ∷ ys) = if nat_eq y x then ys else y ∷ ys
