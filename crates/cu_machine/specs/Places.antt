-- Lists of node indices in which each stands once, in the order in which they were first met.
use Rattle.std.specs.Prelude.{ℕ, Bool, not, List, ◌++◌, filter, nat_eq}
use Rattle.std.specs.List.{list_any}

-- whether a list of indices has this one
abbrev pub holds : List ℕ → ℕ → Bool
holds places id = list_any (nat_eq id) places

-- the indices of the first list, and then those of the second that aren't among them
abbrev pub joined : List ℕ → List ℕ → List ℕ
joined places others = places ++ filter (λ id. not (holds places id)) others
