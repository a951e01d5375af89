use Rattle.std.proofs.Common.{List, ◌≡◌, map, take}
use Rattle.cu_translation.specs.Sites.{Node}
use Rattle.cu_locals.specs.Text.{Text}
use Rattle.cu_sites.specs.Meaning.{Stands}
use Rattle.cu_sites.specs.Inside.Using.{usage_of, usages_meaning}
use Rattle.cu_sites.proofs.sites.Sites.usages.Given as goal

abbrev pub invariant-loop-node : goal.invariant-loop-node
invariant-loop-node l =
    (t : Text) (nodes : List Node) → Stands t nodes l.self → usages_meaning l.found.items ≡ map usage_of (take l.node-index nodes)
