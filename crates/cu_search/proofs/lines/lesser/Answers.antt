use Rattle.std.proofs.Common.{inl, inr, arith}
use Rattle.cu_search.proofs.lines.lesser.Goals as goal

pub returns-then-names-values-clause-all : goal.returns-then-names-values-clause-all
returns-then-names-values-clause-all c = inl (omega arith)

pub returns-else-names-values-clause-all : goal.returns-else-names-values-clause-all
returns-else-names-values-clause-all c = inr (omega (arith, c.if-names-values.false))
