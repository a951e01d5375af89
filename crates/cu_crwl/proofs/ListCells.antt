-- The cells of the list of values that a set call has, from left to right.
use Rattle.std.proofs.Common.{◌≡◌, List, [], ◌∷◌, ◌++◌, append-nil, append_assoc, ap, refl, sym, ◌∙◌}
use Rattle.cu_calculus.specs.declared.ConId.{ConId}
use Rattle.cu_calculus.specs.Gives.{listed}
use Rattle.cu_calculus.specs.Value as value
use Rattle.cu_calculus.specs.Value.{Value}
use Rattle.cu_values.specs.Cells.{first, read, spell, IsOneSpelled}
use Rattle.cu_values.specs.declared.cell.Cell.{Cell}
use Rattle.cu_values.specs.declared.cell.Cell.TheVariants as cell
use Rattle.cu_values.proofs.CellLemmas.{read_all_one}

-- a constructor on the list of values
abbrev pub list_after : ConId → ConId → ConId → List Value → Value
list_after constructor nil cons vs = value.Constructed constructor (value.MoreValues (listed nil cons vs) value.NoValue)

-- the cells of the list, but for its end
abbrev pub list_cells : ConId → List Value → List Cell
list_cells cons [] = []
list_cells cons (v ∷ vs) = cell.Con cons 2 ∷ (spell v ++ list_cells cons vs)

list_spelled : (nil cons : ConId) (vs : List Value) → list_cells cons vs ++ cell.Con nil 0 ∷ [] ≡ spell (listed nil cons vs)
list_spelled nil cons [] = refl
list_spelled nil cons (v ∷ vs) =
    ap (λ (cs : List Cell). cell.Con cons 2 ∷ cs)
    (append_assoc (spell v) (list_cells cons vs) (cell.Con nil 0 ∷ [])
    ∙ ap (λ (cs : List Cell). spell v ++ cs) (list_spelled nil cons vs ∙ sym (append-nil (spell (listed nil cons vs)))))

-- one value is written
pub one_written : (cons : ConId) (cells after more whole : List Cell) (v : Value) (vs later : List Value) → vs ≡ v ∷ later
    → after ≡ cells ++ cell.Con cons 2 ∷ [] → more ≡ after ++ spell v → cells ++ list_cells cons vs ≡ whole → more ++ list_cells cons later ≡ whole
one_written cons cells after more whole v vs later is headed added before =
    ap (λ (cs : List Cell). cs ++ list_cells cons later) (added ∙ ap (λ (cs : List Cell). cs ++ spell v) headed)
    ∙ append_assoc (cells ++ cell.Con cons 2 ∷ []) (spell v) (list_cells cons later)
    ∙ append_assoc cells (cell.Con cons 2 ∷ []) (spell v ++ list_cells cons later)
    ∙ ap (λ (ws : List Value). cells ++ list_cells cons ws) (sym is)
    ∙ before

-- all are written, and the list's end
pub all_written : (constructor nil cons : ConId) (cells after : List Cell) (left vs : List Value) → left ≡ []
    → cells ++ list_cells cons left ≡ cell.Con constructor 1 ∷ list_cells cons vs → after ≡ cells ++ cell.Con nil 0 ∷ []
    → after ≡ spell (list_after constructor nil cons vs)
all_written constructor nil cons cells after left vs none before ended =
    let whole : cells ≡ cell.Con constructor 1 ∷ list_cells cons vs = sym (append-nil cells) ∙ ap (λ (ws : List Value). cells ++ list_cells cons ws) (sym none) ∙ before in
    ended ∙ ap (λ (cs : List Cell). cs ++ cell.Con nil 0 ∷ []) whole
    ∙ ap (λ (cs : List Cell). cell.Con constructor 1 ∷ cs) (list_spelled nil cons vs ∙ sym (append-nil (spell (listed nil cons vs))))

pub is_one : (cells : List Cell) (v : Value) → cells ≡ spell v → IsOneSpelled cells
is_one cells v is = rw is (ap (λ vs. spell (first vs)) (read_all_one v))

pub reads : (cells : List Cell) (v : Value) → cells ≡ spell v → read cells ≡ v
reads cells v is = ap read is ∙ ap first (read_all_one v)
