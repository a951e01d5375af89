-- What surrounds the text of a function.
use Rattle.std.specs.Prelude.{◌≡◌, List, ◌++◌}
use Rattle.cu_sites.specs.Depending.{AreDependencies}
use Rattle.cu_sites.specs.Numbered.{HasNumbers}
use Rattle.cu_toplevel.specs.Surrounding.{TellsNames}
use Rattle.cu_translation.specs.Functions.{numbers_in}
use Rattle.cu_translation.specs.LocalNames.{Binder}
use Rattle.cu_translation.specs.Meaning.{Setting}
use Rattle.cu_translation.specs.Numbering.{all_binders, all_functions}
use Rattle.cu_translation.specs.Sites.{Node}
use Rattle.cu_desugar.specs.declared.around.Around.{Around}

-- What the code knows of the names around a text is right. The text has some nodes, whose variables
-- are numbered first, and after them those of `last`.
pub record Surrounds (w : Setting) (a : Around) : Type 0 where
  pub top : TellsNames w.names w.around.names a.top
  pub nodes : List Node
  pub last : List Binder
  pub numbered : HasNumbers (all_binders nodes ++ last) (all_functions nodes) a.numbers.now
  pub dependent : AreDependencies nodes a.dependencies.now
  pub numbers : w.around.numbers ≡ numbers_in nodes last
