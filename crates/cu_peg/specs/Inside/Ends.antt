-- The table of ends: for each row, and each number of tokens that are left of a text, how many are
-- left where the row has matched.
use Rattle.std.specs.Prelude.{◌≡◌, ◌+◌, ◌-◌, ◌^◌, ◌<◌, ◌≤◌, ℕ, zero, suc, Bool, List, [], ◌∷◌, Option, None, Some, if◌then◌else◌, length, min, slice_index_or}
use Rattle.std.specs.Option.{option_and_then, option_map}
use Rattle.cu_peg.specs.declared.class.Class.{Class}
use Rattle.cu_peg.specs.declared.row.Row.{Row}
use Rattle.cu_peg.specs.declared.row.Row.TheVariants as row
use Rattle.cu_peg.specs.declared.table.End.{End}
use Rattle.cu_peg.specs.Matches.{Fails, Matches}
use Rattle.cu_peg.specs.Parse.{ParseTree, size}

-- the numbers of the last of n tokens, as many as these
abbrev pub last : ℕ → ℕ → List ℕ
last n zero = []
last n (suc k) = (n - suc k) ∷ last n k

-- a count of nodes, at most the largest number of the machine
abbrev pub capped : ℕ → ℕ
capped n = min n (2 ^ 64 - 1)

-- A row matches where some tokens are left, and this is the end of its tree.
pub record EndsAt (rows : List Row) (has : Class → ℕ → Bool) (n r left : ℕ)
    (end : End) : Type 0 where
  pub tree : ParseTree ℕ
  pub within : end.left ≤ left
  pub matched : Matches rows has r (last n left) (last n end.left) tree
  pub counted : end.nodes ≡ capped (size tree)

-- The end that a table has of a row where some tokens are left is right.
abbrev pub IsEnd : List Row → (Class → ℕ → Bool) → ℕ → ℕ → ℕ → Option End → Type 0
IsEnd rows has n r left None = Fails rows has r (last n left)
IsEnd rows has n r left (Some end) = EndsAt rows has n r left end

-- the end of a row in a table
abbrev pub end_at : List (List (Option End)) → ℕ → ℕ → Option End
end_at table r left = slice_index_or (slice_index_or table left []) r None

-- All ends that a table has are right.
abbrev pub IsRight : List Row → (Class → ℕ → Bool) → ℕ → List (List (Option End)) → Type 0
IsRight rows has n table = (left r : ℕ) → left < length table → r < length rows
    → IsEnd rows has n r left (end_at table r left)

-- the end of a tree of one node
abbrev pub alone : ℕ → End
alone left = record { left = left; nodes = 1 }

-- an end with more nodes
abbrev pub with_nodes : ℕ → End → End
with_nodes nodes end = record { left = end.left; nodes = capped (nodes + end.nodes) }

-- the end of a sequence's parts, matched one after another from an end on
abbrev pub sequence_end : (ℕ → ℕ → Option End) → List ℕ → End → Option End
sequence_end cell [] end = Some end
sequence_end cell (p ∷ ps) end =
    option_and_then (λ next. sequence_end cell ps (with_nodes end.nodes next)) (cell p end.left)

-- the end of an alternative, with a node for the choice, or else the end of the alternatives after
-- it
abbrev pub chosen_end : Option End → Option End → Option End
chosen_end (Some end) other = Some (with_nodes 1 end)
chosen_end None other = other

abbrev pub choice_end : (ℕ → ℕ → Option End) → List ℕ → ℕ → Option End
choice_end cell [] left = None
choice_end cell (p ∷ ps) left = chosen_end (cell p left) (choice_end cell ps left)

abbrev pub optional_end : ℕ → Option End → End
optional_end left None = alone left
optional_end left (Some end) = with_nodes 1 end

abbrev pub many_end : (ℕ → Option End) → ℕ → Option End → Option End
many_end again left None = Some (alone left)
many_end again left (Some end) = option_map (with_nodes end.nodes) (again end.left)

-- the end of a part and of the parts after it, if there are any, as one tree
abbrev pub joined : End → Option End → End
joined end None = with_nodes 1 end
joined end (Some others) = with_nodes end.nodes others

abbrev pub ahead_end : ℕ → Option End → Option End
ahead_end left None = None
ahead_end left (Some end) = Some (alone left)

abbrev pub not_ahead_end : ℕ → Option End → Option End
not_ahead_end left None = Some (alone left)
not_ahead_end left (Some end) = None

-- the end of a row, where those of the rows that it calls are in the table, and its own where fewer
-- tokens are left
abbrev pub row_end : (Class → Bool) → (ℕ → ℕ → Option End) → Row → ℕ → ℕ → Option End
row_end next cell (row.Token c) r left = if next c then Some (alone (left - 1)) else None
row_end next cell (row.Sequence ps) r left = sequence_end cell ps (alone left)
row_end next cell (row.Choice ps) r left = choice_end cell ps left
row_end next cell (row.Optional p) r left = Some (optional_end left (cell p left))
row_end next cell (row.Many p) r left = many_end (cell r) left (cell p left)
row_end next cell (row.AtLeastOne p) r left =
    option_map (λ end. joined end (cell r end.left)) (cell p left)
row_end next cell (row.SeparatedBy p s) r left =
    option_map
    (λ end. joined end (option_and_then (λ after. cell r after.left) (cell s end.left)))
    (cell p left)
row_end next cell (row.Ahead p) r left = ahead_end left (cell p left)
row_end next cell (row.NotAhead p) r left = not_ahead_end left (cell p left)
