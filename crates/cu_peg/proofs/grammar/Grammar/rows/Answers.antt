use Rattle.std.proofs.Common.{List, subst}
use Rattle.cu_peg.specs.declared.row.Row.{Row}
use Rattle.cu_peg.specs.WellFormed.{IsWellFormed}
use Rattle.cu_peg.proofs.grammar.Grammar.rows.Goals as goal

pub returns-clause-well_formed : goal.returns-clause-well_formed
returns-clause-well_formed c = subst (λ (rows : List Row). IsWellFormed rows) c.self.view_is c.self.invariant.well_formed
