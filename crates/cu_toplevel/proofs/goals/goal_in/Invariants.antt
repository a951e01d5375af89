use Rattle.std.proofs.Common.{◌≡◌, map, take}
use Rattle.cu_syntax.specs.declared.name.Name.{Name}
use Rattle.cu_toplevel.proofs.goals.goal_in.Given as goal

abbrev pub invariant-variables : goal.invariant-variables
invariant-variables l = l.names.items ≡ map (λ (x : Name). x.text) (take l.variable-index l.variable-items)
