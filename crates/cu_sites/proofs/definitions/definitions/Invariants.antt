use Rattle.std.proofs.Common.{◌≡◌, List, map, take}
use Rattle.cu_translation.specs.Dependencies.{definitions}
use Rattle.cu_translation.specs.Sites.{Node}
use Rattle.cu_locals.specs.Text.{Text}
use Rattle.cu_sites.specs.Meaning.{Stands}
use Rattle.cu_sites.specs.Inside.Defining.{definitions_meaning}
use Rattle.cu_sites.specs.Inside.Using.{usage_of, usages_meaning}
use Rattle.cu_sites.proofs.definitions.definitions.Given as goal

abbrev pub invariant-loop-place : goal.invariant-loop-place
invariant-loop-place l =
    (t : Text) (nodes : List Node) → Stands t nodes l.sites → usages_meaning l.usages ≡ map usage_of nodes
    → definitions_meaning l.found.items ≡ definitions (take l.place nodes)
