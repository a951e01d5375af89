-- A goal with what is known of its text.
use Rattle.std.specs.Prelude.{◌≡◌, ◌++◌, map}
use Rattle.std.specs.List.{All}
use Rattle.cu_locals.specs.Text.{Text}
use Rattle.cu_sites.specs.Depending.{AreDependencies}
use Rattle.cu_sites.specs.Meaning.{Stands}
use Rattle.cu_sites.specs.Numbered.{HasNumbers}
use Rattle.cu_syntax.specs.Owners.{NameIsOf}
use Rattle.cu_syntax.specs.Syntax.{Goal}
use Rattle.cu_translation.specs.Functions.{goal_nodes}
use Rattle.cu_translation.specs.Numbering.{all_binders, all_functions, at_name}
use Rattle.cu_uses.specs.Gathered.{names_meaning}
use Rattle.cu_desugar.specs.declared.goals.GoalParts.{GoalParts}

-- What the code knows of a goal's text is right: its variables, sites, numbers and dependencies.
pub record IsGoal (t : Text) (goal : Goal) (found : GoalParts) : Type 0 where
  pub free : names_meaning t.names found.free.items ≡ goal.free
  pub owned : All (NameIsOf t.owner t.names) found.free.items
  pub stands : Stands t (goal_nodes goal) found.sites
  pub numbered : HasNumbers (all_binders (goal_nodes goal) ++ map at_name goal.free)
      (all_functions (goal_nodes goal)) found.numbers
  pub dependent : AreDependencies (goal_nodes goal) found.dependencies
