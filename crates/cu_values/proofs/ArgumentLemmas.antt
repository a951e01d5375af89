-- The cells of a head and of its arguments.
use Rattle.std.specs.Prelude.{◌≡◌, ℕ, suc, ◌+◌, ◌-◌, ◌<◌, ◌≤◌, List, [], ◌∷◌, ◌++◌, length, refl}
use Rattle.std.proofs.Common.{add-one, ap, append-nil, append_assoc, arith, drop, drop-cons, drop_of_length-le, get_or, length-append, length-drop, sym, subst, take, ◌∙◌}
use Rattle.std.proofs.Math.Seq.{take-append_seam}
use Rattle.cu_calculus.specs.declared.ConId.{ConId}
use Rattle.cu_calculus.specs.declared.Head.{Head}
use Rattle.cu_calculus.specs.Value as value
use Rattle.cu_calculus.specs.Value.{Value, Values, count, list_of, values_of}
use Rattle.cu_values.specs.declared.cell.Cell.{Cell}
use Rattle.cu_values.specs.declared.cell.Cell.TheVariants as cell
use Rattle.cu_values.specs.Cells.{suffix, first, read, read_all, spell, spell_all, IsOneSpelled, IsSpelled}
use Rattle.cu_values.specs.Parts.{arguments_of, head_of}
use Rattle.cu_values.specs.Spelling.{join, read_all-spell_all, read-spell}

pub spell_parts : (v : Value) → spell v ≡ head_of v ∷ spell_all (arguments_of v)
spell_parts value.Bottom = refl
spell_parts (value.Variable x) = refl
spell_parts (value.Literal l) = refl
spell_parts (value.Constructed c vs) = refl
spell_parts (value.Partial h vs) = refl

pub some_cells : (v : Value) (cells : List Cell) → cells ≡ spell v → 0 < length cells
some_cells v cells e = rw (e, spell_parts v) (omega arith)

pub first_cell : (v : Value) (cells : List Cell) (d : Cell) → cells ≡ spell v → get_or cells 0 d ≡ head_of v
first_cell v cells d e = rw (e, spell_parts v) refl

-- the cells of several values are those of values
pub spelled_all : (vs : Values) → read_all (spell_all vs) ≡ vs
spelled_all vs = rw (← append-nil (spell_all vs), read_all-spell_all vs []) (joined vs)
  where
    joined : (ws : Values) → join ws value.NoValue ≡ ws
    joined value.NoValue = refl
    joined (value.MoreValues w ws) = ap (value.MoreValues w) (joined ws)

pub one_spelled : (v : Value) → IsOneSpelled (spell v)
one_spelled v = ap spell (read-spell v)

pub count_values_of : (vs : List Value) → count (values_of vs) ≡ length vs
count_values_of [] = refl
count_values_of (v ∷ vs) = omega (arith, count_values_of vs)

-- an argument's cells go after those that are written
pub written : (items piece : List Cell) (arguments : List Value) (i : ℕ) (v : Value) (whole : List Cell) → i < length arguments → v ≡ get_or arguments i v
    → piece ≡ spell v → items ++ spell_all (values_of (drop i arguments)) ≡ whole
    → (items ++ piece) ++ spell_all (values_of (drop (i + 1) arguments)) ≡ whole
written items piece arguments i v whole within is e h =
    let here : drop i arguments ≡ v ∷ drop (suc i) arguments =
    subst (λ (x : Value). drop i arguments ≡ x ∷ drop (suc i) arguments) (sym is) (drop-cons arguments i v within) in
    let h2 : items ++ (spell v ++ spell_all (values_of (drop (suc i) arguments))) ≡ whole =
    subst (λ (x : List Value). items ++ spell_all (values_of x) ≡ whole) here h in
    rw (add-one i, e, append_assoc items (spell v) (spell_all (values_of (drop (suc i) arguments)))) h2

-- nothing is left to be written
pub all_written : (items : List Cell) (arguments : List Value) (i : ℕ) (whole : List Cell) → length arguments ≤ i
    → items ++ spell_all (values_of (drop i arguments)) ≡ whole → items ≡ whole
all_written items arguments i whole past h =
    let e : items ++ [] ≡ whole = subst (λ (x : List Value). items ++ spell_all (values_of x) ≡ whole) (drop_of_length-le arguments past) h in
    sym (append-nil items) ∙ e

-- one value between two places
pub piece_between : (cells : List Cell) (at end : ℕ) → IsSpelled (drop at cells) → 1 ≤ count (read_all (drop at cells)) → at < end → end ≤ length cells
    → IsSpelled (drop end cells) → read_all (drop end cells) ≡ suffix 1 (read_all (drop at cells))
    → take (end - at) (drop at cells) ≡ spell (first (read_all (drop at cells)))
piece_between cells at end spelled some less within rest_spelled rest = by (read_all (drop at cells)) some spelled rest
  where
    by : (us : Values) → 1 ≤ count us → spell_all us ≡ drop at cells → read_all (drop end cells) ≡ suffix 1 us → take (end - at) (drop at cells) ≡ spell (first us)
    by value.NoValue none s r = absurd (omega (arith, none))
    by (value.MoreValues u us) _ s r =
        let tail : spell_all us ≡ drop end cells = ap spell_all (sym r) ∙ rest_spelled in
        let whole : drop at cells ≡ spell u ++ drop end cells = sym s ∙ ap (λ (x : List Cell). spell u ++ x) tail in
        let long : end - at ≡ length (spell u) =
        omega (arith, ap length whole, length-append (spell u) (drop end cells), length-drop at cells, length-drop end cells, less, within) in
        rw (long, whole) (take-append_seam (spell u) (drop end cells))

-- an argument that is read goes after those that were
pub read_on : (vs : List Value) (us rest : Values) (v : Value) (all : List Value) → 1 ≤ count us → rest ≡ suffix 1 us → v ≡ first us
    → vs ++ list_of us ≡ all → (vs ++ v ∷ []) ++ list_of rest ≡ all
read_on vs value.NoValue rest v all none r e h = absurd (omega (arith, none))
read_on vs (value.MoreValues u us) rest v all some r e h = rw (r, e, append_assoc vs (u ∷ []) (list_of us)) h

pub spelled_by : (v : Value) (cells : List Cell) → cells ≡ spell v → IsOneSpelled cells
spelled_by v cells e = rw e (one_spelled v)

pub read_by : (v : Value) (cells : List Cell) → cells ≡ spell v → read cells ≡ v
read_by v cells e = rw e (read-spell v)

pub constructed_cells : (c : ConId) (arguments : List Value) (cells : List Cell) → cells ≡ cell.Con c (length arguments) ∷ spell_all (values_of arguments)
    → cells ≡ spell (value.Constructed c (values_of arguments))
constructed_cells c arguments cells e = rw (count_values_of arguments) e

pub partial_cells : (h : Head) (arguments : List Value) (cells : List Cell) → cells ≡ cell.Part h (length arguments) ∷ spell_all (values_of arguments)
    → cells ≡ spell (value.Partial h (values_of arguments))
partial_cells h arguments cells e = rw (count_values_of arguments) e

-- after the head, the arguments are left
pub arguments_left : (v : Value) (cells : List Cell) → cells ≡ spell v → drop 1 cells ≡ spell_all (arguments_of v)
arguments_left v cells e = rw (e, spell_parts v) refl

pub arguments_spelled : (v : Value) (cells : List Cell) → cells ≡ spell v → IsSpelled (drop 1 cells)
arguments_spelled v cells e = rw (arguments_left v cells e) (ap spell_all (spelled_all (arguments_of v)))

pub arguments_read : (v : Value) (cells : List Cell) → cells ≡ spell v → list_of (read_all (drop 1 cells)) ≡ list_of (arguments_of v)
arguments_read v cells e = rw (arguments_left v cells e) (ap list_of (spelled_all (arguments_of v)))
