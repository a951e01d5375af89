use Rattle.std.proofs.Common.{List, take}
use Rattle.cu_lex.specs.Located as located
use Rattle.cu_translation.specs.LocalNames as local
use Rattle.cu_sites.specs.Inside.Defining.{definitions_meaning}
use Rattle.cu_sites.specs.Inside.Needing.{IsNeeded}
use Rattle.cu_sites.specs.Numbered.{HasNumbers}
use Rattle.cu_sites.proofs.dependencies.needs.Given as goal

abbrev pub invariant-loop-definition : goal.invariant-loop-definition
invariant-loop-definition l =
    (binders : List local.Binder) (functions : List located.Position) → HasNumbers binders functions l.numbers
    → IsNeeded binders functions l.captured (definitions_meaning (take l.definition-index l.definitions)) l.needs
