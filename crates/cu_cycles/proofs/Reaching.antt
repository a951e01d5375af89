-- Reaching is a preorder.
use Rattle.std.proofs.Common.{◌≡◌, ℕ, subst}
use Rattle.cu_cycles.specs.Graph as graph
use Rattle.cu_cycles.specs.Graph.{Edge, Graph, Reach}

pub onward : (g : Graph) (u v w : ℕ) → Reach g u v → Reach g v w → Reach g u w
onward g _ _ w (graph.here u) k = k
onward g _ _ w (graph.there u x v e r) k = graph.there u x w e (onward g x v w r k)

pub by_edge : (g : Graph) (u v w : ℕ) → Reach g u v → Edge g v w → Reach g u w
by_edge g u v w r e = onward g u v w r (graph.there v w w e (graph.here w))

pub itself : (g : Graph) (u v : ℕ) → u ≡ v → Reach g u v
itself g u v e = subst (λ (x : ℕ). Reach g u x) e (graph.here u)
