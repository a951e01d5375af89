-- What a library holds.
use Rattle.std.specs.Prelude.{ℕ, List, Option}

pub record Holdings : Type 0 where
  -- the text of the module of a name in a directory
  pub module_at : List ℕ → List ℕ → Option (List ℕ)
  -- the text at a path
  pub file_at : List ℕ → Option (List ℕ)
