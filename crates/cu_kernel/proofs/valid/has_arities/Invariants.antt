use Rattle.std.proofs.Common.{◌≡◌, drop, map}
use Rattle.std.specs.List.{list_all}
use Rattle.cu_calculus.specs.Valid.{is_arity}
use Rattle.cu_kernel.proofs.valid.has_arities.Given as goal
use Rattle.cu_kernel.specs.Heads.{shape_meaning}

-- the arities that are left can be held where all can
abbrev pub invariant-loop-shape : goal.invariant-loop-shape
invariant-loop-shape l =
    list_all (λ c. is_arity c.arity) (map shape_meaning (drop l.shape-index l.heads.constructors.items))
    ≡ list_all (λ c. is_arity c.arity) (map shape_meaning l.heads.constructors.items)
