-- What of a whole text was given to the output, and what is left of it.
use Rattle.std.specs.Prelude.{◌≡◌, ℕ, List, ◌++◌, Option}
use Rattle.cu_flattext.specs.Written.{Adds}

-- Since the output held `before`, some bytes were added, which with the rest are the whole.
pub record Continues (before now : Option (List ℕ)) (whole rest : List ℕ) : Type 0 where
  pub done : List ℕ
  pub told : Adds before now done
  pub joined : whole ≡ done ++ rest
