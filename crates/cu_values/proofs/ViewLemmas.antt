-- The first of several values, and those after it.
use Rattle.std.proofs.Common.{◌≡◌, ℕ, ◌-◌, ◌<◌, List, [], ◌∷◌, ◌++◌, None, Option, Some, append-nil, append_assoc, arith, drop, get_or, length, length-drop, refl, take, sym, ap, ◌∙◌}
use Rattle.std.proofs.Math.Seq.{take-length}
use Rattle.cu_calculus.specs.Value as value
use Rattle.cu_calculus.specs.Value.{Value, Values, count, list_of}
use Rattle.cu_values.proofs.ArgumentLemmas.{arguments_left, first_cell, spelled_all}
use Rattle.cu_values.specs.Cells.{arity_of, suffix, first, read_all, spell, spell_all, IsSpelled}
use Rattle.cu_values.specs.Parts.{arguments_of, head_of, split}
use Rattle.cu_values.specs.declared.cell.Cell.{Cell}
use Rattle.cu_values.specs.declared.cell.Cell.TheVariants.{Bottom}

-- what a slice from a place on has
pub rest_slice : (i : ℕ) (cells : List Cell) → take (length cells - i) (drop i cells) ≡ drop i cells
rest_slice i cells = ap (λ n. take n (drop i cells)) (sym (length-drop i cells)) ∙ take-length (drop i cells)

pub arguments_are : (v : Value) (cells : List Cell) → cells ≡ spell v → read_all (drop 1 cells) ≡ arguments_of v
arguments_are v cells e = ap read_all (arguments_left v cells e) ∙ spelled_all (arguments_of v)

head_counts : (v : Value) → arity_of (head_of v) ≡ count (arguments_of v)
head_counts value.Bottom = refl
head_counts (value.Variable x) = refl
head_counts (value.Literal l) = refl
head_counts (value.Constructed c vs) = refl
head_counts (value.Partial h vs) = refl

pub arguments_counted : (v : Value) (cells : List Cell) (n : ℕ) → cells ≡ spell v → n ≡ arity_of (get_or cells 0 Bottom)
    → n ≡ count (read_all (drop 1 cells))
arguments_counted v cells n e is = is ∙ ap arity_of (first_cell v cells Bottom e) ∙ head_counts v ∙ sym (ap count (arguments_are v cells e))

-- a value alone
pub only_value : (vs : Values) (cells : List Cell) → spell_all vs ≡ cells → 1 ≡ count vs → cells ≡ spell (first vs)
only_value value.NoValue cells spelled one = absurd (omega (arith, one))
only_value (value.MoreValues v value.NoValue) cells spelled one = sym spelled ∙ append-nil (spell v)
only_value (value.MoreValues v (value.MoreValues w ws)) cells spelled one = absurd (omega (arith, one))

pub none_after : (vs : Values) → 1 ≡ count vs → [] ≡ spell_all (suffix 1 vs)
none_after value.NoValue one = absurd (omega (arith, one))
none_after (value.MoreValues v value.NoValue) one = refl
none_after (value.MoreValues v (value.MoreValues w ws)) one = absurd (omega (arith, one))

pub some_cell : (cells : List Cell) → 0 < count (read_all cells) → 0 < length cells
some_cell [] some = absurd (omega (arith, some))
some_cell (c ∷ cells) some = omega arith

pub after_spelled : (vs : Values) (cells : List Cell) → cells ≡ spell_all vs → IsSpelled cells
after_spelled vs cells e = ap (λ cs. spell_all (read_all cs)) e ∙ ap spell_all (spelled_all vs) ∙ sym e

pub after_read : (vs : Values) (cells : List Cell) → cells ≡ spell_all vs → read_all cells ≡ vs
after_read vs cells e = ap read_all e ∙ spelled_all vs

count_after : (vs : Values) → count (suffix 1 vs) ≡ count vs - 1
count_after value.NoValue = refl
count_after (value.MoreValues v vs) = omega arith

pub after_counted : (vs : Values) (cells : List Cell) (n : ℕ) → cells ≡ spell_all (suffix 1 vs) → n ≡ count vs → n - 1 ≡ count (read_all cells)
after_counted vs cells n e is = ap (λ m. m - 1) is ∙ sym (count_after vs) ∙ sym (ap count (after_read (suffix 1 vs) cells e))

pub split_some : (vs : Values) → 0 < count vs → Some (first vs, suffix 1 vs) ≡ split vs
split_some value.NoValue some = absurd (omega (arith, some))
split_some (value.MoreValues v vs) some = refl

pub split_none : (vs : Values) → count vs ≡ 0 → None ≡ split vs
split_none value.NoValue none = refl
split_none (value.MoreValues v vs) none = absurd (omega (arith, none))

split_parts : (others ws : Values) (v w : Value) → ◌≡◌ {A = Option (Value × Values)} (Some (v, others)) (Some (w, ws)) → (v ≡ w) × (others ≡ ws)
split_parts others ws v w is =
    let pair : ◌≡◌ {A = Value × Values} (v, others) (w, ws) = cc in (ap (λ (p : Value × Values). p.0) pair, ap (λ (p : Value × Values). p.1) pair)

-- one argument is copied
pub copied_on : (done : List Value) (vs others : Values) (v : Value) (all : List Value) → Some (v, others) ≡ split vs
    → done ++ list_of vs ≡ all → (done ++ v ∷ []) ++ list_of others ≡ all
copied_on done value.NoValue others v all is h = let no : ⊥ = cc in absurd no
copied_on done (value.MoreValues w ws) others v all is h =
    let parts = split_parts others ws v w is in
    rw (parts.0, parts.1, append_assoc done (w ∷ []) (list_of ws)) h

pub all_copied : (done : List Value) (vs : Values) (all : List Value) → None ≡ split vs → done ++ list_of vs ≡ all → done ≡ all
all_copied done value.NoValue all is h = sym (append-nil done) ∙ h
all_copied done (value.MoreValues w ws) all is h = let no : ⊥ = cc in absurd no

pub fewer_left : (vs others : Values) (v : Value) → Some (v, others) ≡ split vs → count others < count vs
fewer_left value.NoValue others v is = let no : ⊥ = cc in absurd no
fewer_left (value.MoreValues w ws) others v is = let rest = (split_parts others ws v w is).1 in omega (arith, ap count rest)
