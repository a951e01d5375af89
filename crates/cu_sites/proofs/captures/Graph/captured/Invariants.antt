use Rattle.std.proofs.Common.{List, ◌-◌, length, suc}
use Rattle.cu_lex.specs.Located as located
use Rattle.cu_translation.specs.LocalNames as local
use Rattle.cu_sites.specs.Numbered.{HasNumbers}
use Rattle.cu_sites.proofs.CaptureLemmas.{CapturedBelow}
use Rattle.cu_sites.proofs.captures.Graph.captured.Given as goal

abbrev pub invariant-loop-variable : goal.invariant-loop-variable
invariant-loop-variable l =
    (binders : List local.Binder) (functions : List located.Position) → HasNumbers binders functions l.numbers
    → CapturedBelow (suc (length functions)) l.self l.variable l.captured

abbrev pub decreases-loop-variable : goal.decreases-loop-variable
decreases-loop-variable l = length l.self.uses.rows.items - l.variable
