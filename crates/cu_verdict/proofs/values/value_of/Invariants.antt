use Rattle.std.proofs.Common.{◌≡◌, drop}
use Rattle.cu_calculus.specs.Match.{bind_all, empty}
use Rattle.cu_verdict.proofs.values.value_of.Given as goal

-- the bindings that are left say what all do
abbrev pub invariant-loop-binding : goal.invariant-loop-binding
invariant-loop-binding l = bind_all empty (drop l.binding-index l.env) l.variable ≡ bind_all empty l.env l.variable
