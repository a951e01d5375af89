-- What `==` finds out from the heads of two values.
use Rattle.std.specs.Prelude.{if◌then◌else◌}
use Rattle.cu_calculus.specs.Literal.{same_literal}
use Rattle.cu_calculus.specs.Match.{same_constructor}
use Rattle.cu_values.specs.declared.cell.Cell.{Cell}
use Rattle.cu_values.specs.declared.cell.Cell.TheVariants as cell
use Rattle.cu_crwl.specs.declared.compare.Met.{Met}
use Rattle.cu_crwl.specs.declared.compare.Met.TheVariants as met

-- what the heads of two values say about `==`: no answer, that the values differ, or that their
-- arguments decide
abbrev pub heads_meet : Cell → Cell → Met
heads_meet (cell.Lit l) (cell.Lit m) = if same_literal l m then met.Alike else met.Different
heads_meet (cell.Lit l) (cell.Con c n) = met.Different
heads_meet (cell.Con c n) (cell.Lit l) = met.Different
heads_meet (cell.Con c m) (cell.Con d n) = if same_constructor c d then met.Alike else met.Different
heads_meet _ _ = met.Unanswered
