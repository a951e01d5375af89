-- Laws of grouping.
use Rattle.std.specs.Prelude.{◌≡◌, List}
use Rattle.cu_fixity.specs.declared.fixity.Fixity.{Fixity}
use Rattle.cu_fixity.specs.Grouping.{Grouped, Item, Tree}

-- A list of items has at most one tree.
abbrev pub GroupsOnce : (A : Type 0) {O : Type 0} → (O → Fixity) → Type 0
GroupsOnce A {O} fixity =
    (items : List (Item A O)) (tree another : Tree A O) → Grouped fixity items tree
    → Grouped fixity items another → tree ≡ another
