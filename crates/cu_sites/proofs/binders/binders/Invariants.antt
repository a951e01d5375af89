use Rattle.std.proofs.Common.{List, [], drop}
use Rattle.cu_translation.specs.Numbering.{all_binders}
use Rattle.cu_translation.specs.Sites.{Node}
use Rattle.cu_translation.specs.declared.local_names.Binder as code
use Rattle.cu_sites.specs.Meaning.{Stands}
use Rattle.cu_locals.specs.Text.{Text}
use Rattle.cu_sites.specs.Inside.Counting.{Counts}
use Rattle.cu_sites.proofs.binders.binders.Given as goal

abbrev pub invariant-loop-node : goal.invariant-loop-node
invariant-loop-node l =
    (t : Text) (nodes : List Node) (after : List code.Binder) → Stands t nodes l.sites
    → Counts l.found.items (all_binders (drop l.node-index nodes)) after → Counts [] (all_binders nodes) after
