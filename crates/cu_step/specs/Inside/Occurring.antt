-- What the search through a value knows at each moment: the occurs check, or the test whether the
-- value is data.
use Rattle.std.specs.Prelude.{◌≡◌, ℕ, ◌+◌, Bool, true, false, not, ◌&&◌, List, ◌∷◌, ◌++◌, if◌then◌else◌, length, nat_eq, nat_lt, reverse, slice_index_or, slice_set}
use Rattle.std.specs.List.{list_any}
use Rattle.cu_calculus.specs.Shape.{is_data}
use Rattle.cu_machine.specs.declared.Kind.{Kind}
use Rattle.cu_machine.specs.declared.Kind.TheVariants as kind
use Rattle.cu_machine.specs.Graph.{Graph, Node, node_at}
use Rattle.cu_machine.specs.Rewrite.{occurs_at, occurs_within}
use Rattle.cu_machine.specs.Spell.{spelled}
use Rattle.cu_machine.specs.Validity.{are_places}
use Rattle.cu_step.specs.declared.occurs.Sought.{Sought}
use Rattle.cu_step.specs.declared.occurs.Sought.TheVariants as sought
use Rattle.cu_step.specs.Inside.Walk.{height}

-- whether a head is what is sought: the free variable, or any partial application
abbrev pub is_sought : Sought → ℕ → Kind → Bool
is_sought (sought.Variable v) id kind.Free = nat_eq v id
is_sought sought.Part id (kind.Part h) = true
is_sought s id _ = false

-- whether the arguments of a node are to be looked at: those of a constructor that wasn't seen
abbrev pub leads_on : Kind → Bool → Bool
leads_on (kind.Cons c) seen = not seen
leads_on _ seen = false

-- Whether what is sought is reached from a node: the variable occurs in the node's value, or the
-- value isn't data.
abbrev pub reaches : Graph → Sought → ℕ → Bool
reaches graph (sought.Variable v) id = occurs_within (length graph) graph v id
reaches graph sought.Part id = not (is_data (spelled graph id))

-- whether a partial application is reached from a node of this kind with these arguments, where
-- `part` says so of the arguments
abbrev pub part_at : (ℕ → Bool) → Kind → List ℕ → Bool
part_at part (kind.Part h) args = true
part_at part (kind.Cons c) args = list_any part args
part_at part _ args = false

-- whether what is sought is reached from a node of this kind with these arguments, where `part`
-- says so of the arguments
abbrev pub sought_at : (ℕ → Bool) → Sought → ℕ → Kind → List ℕ → Bool
sought_at part (sought.Variable v) id k args = occurs_at part v id k args
sought_at part sought.Part id k args = part_at part k args

-- whether what is sought is reached from a node that is a head
abbrev pub head_reaches : Graph → Sought → ℕ → Bool
head_reaches graph v id =
    sought_at (reaches graph v) v id (node_at graph id).kind (node_at graph id).args

-- whether what is sought is reached from one of these nodes
abbrev pub are_reached : Graph → Sought → List ℕ → Bool
are_reached graph v ids = list_any (reaches graph v) ids

-- whether what is sought is reached from one of these nodes that is lower than `top`
abbrev pub lower_reaches : Graph → Sought → ℕ → List ℕ → Bool
lower_reaches graph v top ids =
    list_any (λ id. reaches graph v id && nat_lt (height graph id) top) ids

-- whether a node was seen; no node was, where no marks are kept
abbrev pub seen_at : List Bool → ℕ → Bool
seen_at seen id = slice_index_or seen id false

-- the marks after a look at a head that isn't what is sought
abbrev pub marks_after : List Bool → ℕ → Kind → List Bool
marks_after seen id k = if leads_on k (seen_at seen id) then slice_set seen id true else seen

-- the nodes that are still to be looked at after a look at a head that isn't what is sought
abbrev pub left_after : List Bool → List ℕ → ℕ → Node → List ℕ
left_after seen left id node = if leads_on node.kind (seen_at seen id)
    then left ++ reverse node.args else left

-- What holds at each moment of the search: a node that was seen reaches what is sought only by way
-- of a lower one that is still to be looked at, and one of those that are left reaches it exactly
-- if one of the first nodes does.
pub record Looks (graph : Graph) (v : Sought) (ids : List ℕ) (seen : List Bool)
    (left : List ℕ) : Type 0 where
  pub there : are_places (length graph) left ≡ true
  pub lower : (id : ℕ) → seen_at seen id ≡ true → head_reaches graph v id ≡ true
      → lower_reaches graph v (height graph id) left ≡ true
  pub comes : list_any (reaches graph v) left ≡ list_any (reaches graph v) ids

-- the number of the nodes that weren't seen, and of their arguments
unfoldable pub unseen_arguments : Graph → List Bool → ℕ
unseen_arguments (node ∷ graph) (false ∷ seen) = length node.args + 1 + unseen_arguments graph seen
unseen_arguments (node ∷ graph) (true ∷ seen) = unseen_arguments graph seen
unseen_arguments _ _ = 0
