use Rattle.std.proofs.Common.{List, drop}
use Rattle.std.specs.List.{flat_map}
use Rattle.cu_locals.specs.Text.{Text}
use Rattle.cu_sites.specs.Meaning.{AreNodes}
use Rattle.cu_translation.specs.Around.{Around}
use Rattle.cu_translation.specs.Faults.{faults_of}
use Rattle.cu_translation.specs.Sites.{Node}
use Rattle.cu_faults.specs.declared.first.First.{First}
use Rattle.cu_faults.specs.Telling.{Told, setting}
use Rattle.cu_faults.proofs.nodes.tell_nodes.Given as goal

-- what is left to tell gives all that is told
abbrev pub invariant-loop-node : goal.invariant-loop-node
invariant-loop-node g l =
    (t : Text) (a : Around) (nodes : List Node) → g.A.Surroundings.tells l.around (setting t a)
    → AreNodes t l.sites.entries.items l.sites.blocks.items l.node-items nodes
    → (left : List Node) × AreNodes t l.sites.entries.items l.sites.blocks.items (drop l.node-index l.node-items) left
    × ((after : First) → Told t.owner l.first (flat_map (faults_of a) left) after → Told t.owner l.fn.first (flat_map (faults_of a) nodes) after)
