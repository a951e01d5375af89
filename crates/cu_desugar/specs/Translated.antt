-- What modules and goals are translated to, under names that proofs unfold only where they must.
use Rattle.std.specs.Prelude.{ℕ, List}
use Rattle.cu_modules.specs.Scopes.{Named}
use Rattle.cu_syntax.specs.Syntax.{Goal}
use Rattle.cu_translation.specs.Translation.{Outcome, goal_translation, translation}

-- what the module of this number is translated to, under a table of names
unfoldable pub translated : List (List ℕ) → List Named → ℕ → Outcome
translated table modules number = translation table modules number

-- what a goal is translated to in the module of a number
unfoldable pub goal_translated : List (List ℕ) → List Named → ℕ → Goal → Outcome
goal_translated table modules root goal = goal_translation table modules root goal
