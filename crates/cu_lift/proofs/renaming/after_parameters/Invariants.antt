use Rattle.std.proofs.Common.{◌≡◌, map, take}
use Rattle.cu_kernel.specs.declared.term.Pattern.TheVariants as pattern
use Rattle.cu_lift.proofs.renaming.after_parameters.Given as goal

-- the variables so far
abbrev pub invariant-loop-variable : goal.invariant-loop-variable
invariant-loop-variable l = l.all.items ≡ map pattern.Var (take l.variable-index l.variables)
