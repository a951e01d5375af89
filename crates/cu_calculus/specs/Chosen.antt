-- Which alternative values take, as a function: the one that `Chooses` relates to them, where they
-- take one.
use Rattle.std.specs.Prelude.{ℕ, ◌+◌, zero, suc, List, [], ◌∷◌, Option, None, Some}
use Rattle.cu_calculus.specs.Choose.{Again, Look, Specialize, Nowhere, Row, Take, look}
use Rattle.cu_calculus.specs.Program.{Program}
use Rattle.cu_calculus.specs.Term.{Any, Built, Exactly, MorePatterns, Named, NoPattern, Pattern, Patterns}
use Rattle.cu_calculus.specs.Value.{Value}

-- how many literals and constructors a pattern demands
abbrev mutual
  pub demands : Pattern → ℕ
  demands (Any x) = 0
  demands (Exactly l) = 1
  demands (Built c ps) = all_demands ps + 1
  demands (Named x p) = demands p

  -- how many literals and constructors patterns demand together
  pub all_demands : Patterns → ℕ
  all_demands NoPattern = 0
  all_demands (MorePatterns p ps) = demands p + all_demands ps

-- how many literals and constructors a list of patterns demands
abbrev pub list_demands : List Pattern → ℕ
list_demands [] = 0
list_demands (p ∷ ps) = demands p + list_demands ps

-- The most looks that rows take: each look either drops a row or meets one of its demands.
abbrev pub looks : List Row → ℕ
looks [] = 0
looks (row ∷ rows) = (list_demands row.patterns + 1) + looks rows

-- the alternative that a look leads to, where `again` chooses among the rows that the look leaves
abbrev pub chosen_after : (List Row → List Value → Option ℕ) → List Value → Look → Option ℕ
chosen_after again values Nowhere = None
chosen_after again values (Take choice) = Some choice
chosen_after again values (Again rows) = again rows values
chosen_after again values (Specialize rows parts) = again rows parts

-- the alternative that is taken within at most n looks
abbrev pub chosen_within : ℕ → Program → List Row → List Value → Option ℕ
chosen_within zero program rows values = None
chosen_within (suc n) program rows values =
    chosen_after (chosen_within n program) values (look program rows values)

-- the alternative that is taken, where one is
abbrev pub chosen : Program → List Row → List Value → Option ℕ
chosen program rows values = chosen_within (looks rows + 1) program rows values
