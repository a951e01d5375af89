use Rattle.std.proofs.Common.{◌≡◌, drop, reverse}
use Rattle.cu_types.proofs.variables.Variables.bind_all.Given as goal
use Rattle.cu_types.specs.Equations.{bind_from}
use Rattle.cu_types.specs.Inside.Variables.{environment, undone}

-- binding what is left gives all, and undoing what was done gives what was there before
abbrev pub invariant-loop-variable : goal.invariant-loop-variable
invariant-loop-variable l = record {
  bound : bind_from (environment l.self) l.next (drop l.variable-index l.variables)
      ≡ bind_from (environment l.initial.self) l.first l.variables;
  undoes : undone (reverse l.bindings.items) (environment l.self) ≡ environment l.initial.self;
}
