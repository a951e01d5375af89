-- The functions of a module with what is known of their texts.
use Rattle.std.specs.Prelude.{◌≡◌, List, [], ◌++◌, map}
use Rattle.std.specs.List.{All}
use Rattle.cu_locals.specs.Text.{Text}
use Rattle.cu_sites.specs.Depending.{AreDependencies}
use Rattle.cu_sites.specs.Meaning.{GroupIsOf, Stands, group_meaning}
use Rattle.cu_sites.specs.Numbered.{HasNumbers}
use Rattle.cu_translation.specs.Functions.{group_nodes}
use Rattle.cu_translation.specs.Numbering.{all_binders, all_functions}
use Rattle.cu_translation.specs.Rules.{Group}
use Rattle.cu_translation.specs.Sites.{Node}
use Rattle.cu_desugar.specs.declared.texts.FunctionText.{FunctionText}

abbrev pub function_in : Text → FunctionText → Group
function_in t f = group_meaning t.names f.group

abbrev pub nodes_in : Text → FunctionText → List Node
nodes_in t f = group_nodes (function_in t f)

-- What the code knows of a function's text is right: its sites, numbers and dependencies.
pub record IsText (t : Text) (f : FunctionText) : Type 0 where
  pub owned : GroupIsOf t.owner t.names f.group
  pub stands : Stands t (nodes_in t f) f.sites
  pub numbered : HasNumbers (all_binders (nodes_in t f) ++ []) (all_functions (nodes_in t f))
      f.numbers
  pub dependent : AreDependencies (nodes_in t f) f.dependencies

-- The functions that the code found are those of these groups of rules.
pub record AreTexts (t : Text) (whole : List Group) (found : List FunctionText) : Type 0 where
  pub are : map (function_in t) found ≡ whole
  pub known : All (IsText t) found
