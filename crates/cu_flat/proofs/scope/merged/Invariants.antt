use Rattle.std.proofs.Common.{◌≡◌, ℕ, Bool, filter}
use Rattle.cu_flat.proofs.Merging.{Merging}
use Rattle.cu_flat.proofs.scope.merged.Given as goal

abbrev pub invariant-loop-x : goal.invariant-loop-x
invariant-loop-x l =
    (p q : ℕ → Bool) → l.fn.left ≡ filter p l.scope → l.fn.right ≡ filter q l.scope
    → Merging p q l.scope l.x-index l.left l.right l.found.items
