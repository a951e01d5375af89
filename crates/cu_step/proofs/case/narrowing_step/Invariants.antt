-- A copy is left for each branch that is, and the graphs so far and those of the branches that are
-- left are all.
use Rattle.std.proofs.Common.{◌≡◌, ◌++◌, ◌-◌, drop, length, map}
use Rattle.std.specs.Prelude.{replicate}
use Rattle.cu_flat.specs.Meaning.{branch_meaning}
use Rattle.cu_machine.specs.Rewrite.{bound_to}
use Rattle.cu_step.proofs.case.narrowing_step.Given as goal

abbrev pub invariant-loop-pattern : goal.invariant-loop-pattern
invariant-loop-pattern g l =
    let graph = g.S.Store.content l.fn.store in
    (map g.S.Store.content l.copies.items ≡ replicate (length l.branches - l.pattern-index) graph)
    × (map g.S.Store.content l.stores.items ++ map (λ branch. bound_to graph l.variable branch.pattern) (map branch_meaning (drop l.pattern-index l.branches))
    ≡ map (λ branch. bound_to graph l.variable branch.pattern) (map branch_meaning l.branches))
