-- Reading a tree off the table of ends.
use Rattle.std.specs.Prelude.{◌+◌, ◌-◌, ℕ, List, [], ◌∷◌, Option, None, Some, if◌then◌else◌, is_some, length, nat_lt, slice_get, unwrap_or}
use Rattle.std.specs.Option.{option_and_then, option_map}
use Rattle.cu_peg.specs.declared.node.Form.{Form}
use Rattle.cu_peg.specs.declared.node.Form.TheVariants as form
use Rattle.cu_peg.specs.declared.node.Node.{Node}
use Rattle.cu_peg.specs.declared.reading.Cursor.{Cursor}
use Rattle.cu_peg.specs.declared.row.Row.{Row}
use Rattle.cu_peg.specs.declared.row.Row.TheVariants as row
use Rattle.cu_peg.specs.declared.table.End.{End}

-- the number of the first alternative that matches
abbrev pub first_alternative : (ℕ → ℕ → Option End) → List ℕ → ℕ → Option ℕ
first_alternative cell [] left = None
first_alternative cell (p ∷ ps) left = if is_some (cell p left) then Some 0
    else option_map (λ n. n + 1) (first_alternative cell ps left)

abbrev pub cursor : ℕ → ℕ → ℕ → Cursor
cursor r part left = record { row = r; part = part; left = left }

-- the parts of a row where some tokens are left, if it has any
abbrev pub first_parts : (ℕ → ℕ → Option End) → Row → ℕ → ℕ → Option Cursor
first_parts cell (row.Token c) r left = None
first_parts cell (row.Sequence ps) r left = if nat_lt 0 (length ps) then Some (cursor r 0 left)
    else None
first_parts cell (row.Choice ps) r left =
    option_map (λ n. cursor r n left) (first_alternative cell ps left)
first_parts cell (row.Optional p) r left = if is_some (cell p left) then Some (cursor r 0 left)
    else None
first_parts cell (row.Many p) r left = if is_some (cell p left) then Some (cursor r 0 left)
    else None
first_parts cell (row.AtLeastOne p) r left = Some (cursor r 0 left)
first_parts cell (row.SeparatedBy p s) r left = Some (cursor r 0 left)
first_parts cell (row.Ahead p) r left = None
first_parts cell (row.NotAhead p) r left = None

-- the row of a part
abbrev pub part_at : Row → ℕ → Option ℕ
part_at (row.Sequence ps) part = slice_get ps part
part_at (row.Choice ps) part = slice_get ps part
part_at (row.Optional p) part = Some p
part_at (row.Many p) part = Some p
part_at (row.AtLeastOne p) part = Some p
part_at (row.SeparatedBy p s) part = Some p
part_at _ part = None

-- the parts that follow one that leaves some tokens, if there are any
abbrev pub next_parts : (ℕ → ℕ → Option End) → Row → Cursor → ℕ → Option Cursor
next_parts cell (row.Sequence ps) c left = if nat_lt (c.part + 1) (length ps)
    then Some (cursor c.row (c.part + 1) left) else None
next_parts cell (row.Many p) c left = if is_some (cell p left) then Some (cursor c.row 0 left)
    else None
next_parts cell (row.AtLeastOne p) c left = if is_some (cell p left) then Some (cursor c.row 0 left)
    else None
next_parts cell (row.SeparatedBy p s) c left =
    option_and_then (λ after. if is_some (cell p after.left)
    then Some (cursor c.row 0 after.left) else None) (cell s left)
next_parts cell _ c left = None

-- what the node of a row is, where some of n tokens are left
abbrev pub form_of : (ℕ → ℕ → Option End) → Row → ℕ → ℕ → Form
form_of cell (row.Token c) n left = form.Leaf (n - left)
form_of cell (row.Choice ps) n left = form.Chosen (unwrap_or (first_alternative cell ps left) 0)
form_of cell _ n left = form.Parts

-- the row of the first of some parts, and the parts after it
abbrev pub next_part : (ℕ → ℕ → Option End) → Row → Cursor → Option (ℕ × Option Cursor)
next_part cell e c =
    option_and_then (λ p. option_map (λ end. (p, next_parts cell e c end.left)) (cell p c.left))
    (part_at e c.part)

-- the number of nodes of the tree that ends here, 0 where there is none
abbrev pub nodes_at : Option End → ℕ
nodes_at None = 0
nodes_at (Some end) = end.nodes

-- the node of a row where some of n tokens are left
abbrev pub node_of : (ℕ → ℕ → Option End) → Row → ℕ → ℕ → ℕ → Node
node_of cell e r n left = record { form = form_of cell e n left; size = nodes_at (cell r left) }
