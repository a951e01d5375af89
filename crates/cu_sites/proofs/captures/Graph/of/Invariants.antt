use Rattle.std.proofs.Common.{List, take}
use Rattle.cu_lex.specs.Located as located
use Rattle.cu_translation.specs.LocalNames as local
use Rattle.cu_sites.specs.Inside.Capturing.{IsGraph}
use Rattle.cu_sites.specs.Inside.Using.{usages_meaning}
use Rattle.cu_sites.specs.Numbered.{HasNumbers}
use Rattle.cu_sites.proofs.captures.Graph.of.Given as goal

abbrev pub invariant-loop-usage : goal.invariant-loop-usage
invariant-loop-usage l =
    (binders : List local.Binder) (functions : List located.Position) → HasNumbers binders functions l.numbers
    → IsGraph binders functions (usages_meaning (take l.usage-index l.usages)) l.graph
