use Rattle.std.proofs.Common.{◌≡◌, List, [], reverse, subst, arith}
use Rattle.cu_types.proofs.Bindings.{none_left, undone_popped}
use Rattle.cu_types.specs.Inside.Variables.{environment, undone}
use Rattle.cu_types.specs.declared.variables.Binding.{Binding}
use Rattle.cu_types.proofs.variables.Variables.undo.Goals as goal

pub loop-binding-preserved : goal.loop-binding-preserved
loop-binding-preserved c =
    undone_popped (environment c.loop-binding.self) (environment c.bind.new.self) _ c.loop-binding.left.items c.pop.new.self.items
    c.in-Some.binding c.in-Some.ensures.items c.in_ok-bind.ensures.bound c.loop-binding.invariant

pub returns : goal.returns
returns c =
    let none : c.loop-binding.left.items ≡ [] =
    none_left c.loop-binding.left.items (omega (arith, c.loop-binding.left.ok.0, c.in_default.ensures.cases.0)) in
    subst (λ (bs : List Binding). undone (reverse bs) (environment c.loop-binding.self) ≡ undone (reverse c.args.bindings.items) (environment c.args.self.now))
    none c.loop-binding.invariant
