use Rattle.std.proofs.Common.{List, [], drop}
use Rattle.cu_translation.specs.Numbering.{all_functions}
use Rattle.cu_translation.specs.Sites.{Node}
use Rattle.cu_translation.specs.declared.position.Position.{Position}
use Rattle.cu_sites.specs.Meaning.{Stands}
use Rattle.cu_locals.specs.Text.{Text}
use Rattle.cu_sites.specs.Inside.Counting.{Lists}
use Rattle.cu_sites.proofs.binders.local_functions.Given as goal

abbrev pub invariant-loop-node : goal.invariant-loop-node
invariant-loop-node l =
    (t : Text) (nodes : List Node) (after : List Position) → Stands t nodes l.sites
    → Lists l.found.items (all_functions (drop l.node-index nodes)) after → Lists [] (all_functions nodes) after
