-- Texts of commas in parentheses.
use Rattle.std.specs.Prelude.{ℕ, ◌+◌, List, [], ◌∷◌, Option, None, Some, if◌then◌else◌, nat_eq}
use Rattle.cu_names.specs.declared.names.NameId.{NameId}

abbrev pub closed : ℕ → ℕ → List ℕ → Option ℕ
closed n b [] = if nat_eq b 41 then Some n else None
closed n b (c ∷ bs) = None

-- how many commas there are, after n of them were read, where nothing but commas and a closing
-- parenthesis follows
abbrev pub commas_in : ℕ → List ℕ → Option ℕ
commas_in n [] = None
commas_in n (b ∷ bs) = if nat_eq b 44 then commas_in (n + 1) bs else closed n b bs

abbrev pub commas_of : List ℕ → Option ℕ
commas_of [] = None
commas_of (b ∷ bs) = if nat_eq b 40 then commas_in 0 bs else None

-- the name that is found under a number of commas (k), after a name that may be a tuple's was added
abbrev pub and_tuple : Option ℕ → NameId → ℕ → Option NameId → Option NameId
and_tuple None id k found = found
and_tuple (Some n) id k found = if nat_eq n k then Some id else found
