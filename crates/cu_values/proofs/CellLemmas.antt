-- Lists of cells that spell values.
use Rattle.std.specs.Prelude.{◌≡◌, ℕ, zero, suc, ◌+◌, ◌-◌, ◌<◌, ◌≤◌, List, [], ◌∷◌, ◌++◌, length, refl}
use Rattle.std.proofs.Common.{add-one, add-suc, add-zero, ap, append-nil, append_assoc, arith, drop, drop-cons, get_or, length-drop, sym, subst, ◌∙◌}
use Rattle.cu_calculus.specs.Value as value
use Rattle.cu_calculus.specs.Value.{Value, Values, count}
use Rattle.cu_values.specs.declared.cell.Cell.{Cell}
use Rattle.cu_values.specs.declared.cell.Cell.TheVariants as cell
use Rattle.cu_values.specs.Cells.{arity_of, suffix, prefix, put, read_all, spell, spell_all, IsSpelled}
use Rattle.cu_values.specs.Spelling.{join, read_all-spell}

pub spell_all-join : (us vs : Values) → spell_all (join us vs) ≡ spell_all us ++ spell_all vs
spell_all-join value.NoValue vs = refl
spell_all-join (value.MoreValues u us) vs = rw (spell_all-join us vs, append_assoc (spell u) (spell_all us) (spell_all vs)) refl

pub join-prefix-suffix : (n : ℕ) (vs : Values) → join (prefix n vs) (suffix n vs) ≡ vs
join-prefix-suffix zero vs = refl
join-prefix-suffix (suc n) value.NoValue = refl
join-prefix-suffix (suc n) (value.MoreValues v vs) = ap (value.MoreValues v) (join-prefix-suffix n vs)

pub spell-prefix-suffix : (n : ℕ) (vs : Values) → spell_all (prefix n vs) ++ spell_all (suffix n vs) ≡ spell_all vs
spell-prefix-suffix n vs = sym (spell_all-join (prefix n vs) (suffix n vs)) ∙ ap spell_all (join-prefix-suffix n vs)

pub count-prefix-suffix : (n : ℕ) (vs : Values) → count (prefix n vs) + count (suffix n vs) ≡ count vs
count-prefix-suffix zero vs = omega arith
count-prefix-suffix (suc n) value.NoValue = refl
count-prefix-suffix (suc n) (value.MoreValues v vs) = omega (arith, count-prefix-suffix n vs)

pub suffix-none : (n : ℕ) → suffix n value.NoValue ≡ value.NoValue
suffix-none zero = refl
suffix-none (suc n) = refl

pub suffix-suffix : (n q : ℕ) (vs : Values) → suffix q (suffix n vs) ≡ suffix (q + n) vs
suffix-suffix zero q vs = rw add-zero refl
suffix-suffix (suc n) q value.NoValue = suffix-none q ∙ sym (suffix-none (q + suc n))
suffix-suffix (suc n) q (value.MoreValues v vs) = rw (add-suc, suffix-suffix n q vs) refl

-- after a head, the values after its arguments are left
pub suffix-put : (c : Cell) (vs : Values) (q : ℕ) → suffix (suc q) (put c vs) ≡ suffix (q + arity_of c) vs
suffix-put cell.Bottom vs q = rw add-zero refl
suffix-put (cell.LVar x) vs q = rw add-zero refl
suffix-put (cell.Lit l) vs q = rw add-zero refl
suffix-put (cell.Con k n) vs q = suffix-suffix n q vs
suffix-put (cell.Part h n) vs q = suffix-suffix n q vs

-- a head has all its arguments among the values
pub IsWhole : Cell → Values → Type 0
IsWhole c vs = count (prefix (arity_of c) vs) ≡ arity_of c

-- what is known after the first of cells that spell values
pub record After (c : Cell) (cs : List Cell) : Type 0 where
  pub others : IsSpelled cs
  pub whole : count (prefix (arity_of c) (read_all cs)) ≡ arity_of c
  pub counted : count (read_all (c ∷ cs)) + arity_of c ≡ count (read_all cs) + 1

pub counted_from : (n : ℕ) (vs : Values) → count (prefix n vs) ≡ n → (count (suffix n vs) + 1) + n ≡ count vs + 1
counted_from n vs e = omega (arith, count-prefix-suffix n vs, e)

pub after : (c : Cell) (cs : List Cell) → IsSpelled (c ∷ cs) → After c cs
after cell.Bottom cs h = record { others = cc; whole = refl; counted = omega arith }
after (cell.LVar x) cs h = record { others = cc; whole = refl; counted = omega arith }
after (cell.Lit l) cs h = record { others = cc; whole = refl; counted = omega arith }
after (cell.Con k n) cs h =
    let all : count (prefix n (read_all cs)) ≡ n = cc in
    let rest : spell_all (prefix n (read_all cs)) ++ spell_all (suffix n (read_all cs)) ≡ cs = cc in
    record { others = sym (spell-prefix-suffix n (read_all cs)) ∙ rest; whole = all; counted = counted_from n (read_all cs) all }
after (cell.Part k n) cs h =
    let all : count (prefix n (read_all cs)) ≡ n = cc in
    let rest : spell_all (prefix n (read_all cs)) ++ spell_all (suffix n (read_all cs)) ≡ cs = cc in
    record { others = sym (spell-prefix-suffix n (read_all cs)) ∙ rest; whole = all; counted = counted_from n (read_all cs) all }

count-put : (c : Cell) (vs : Values) → count (put c vs) ≤ count vs + 1
count-put cell.Bottom vs = omega arith
count-put (cell.LVar x) vs = omega arith
count-put (cell.Lit l) vs = omega arith
count-put (cell.Con k n) vs = omega (arith, count-prefix-suffix n vs)
count-put (cell.Part h n) vs = omega (arith, count-prefix-suffix n vs)

-- each value has a cell
pub count_read_all : (cells : List Cell) → count (read_all cells) ≤ length cells
count_read_all [] = omega arith
count_read_all (c ∷ cs) = omega (arith, count-put c (read_all cs), count_read_all cs)

-- one value after others, in a walk that counts those to be passed
pub record Passed (cs : List Cell) (goal : Values) (pending : ℕ) : Type 0 where
  pub spelled : IsSpelled cs
  pub enough : pending ≤ count (read_all cs)
  pub others : suffix pending (read_all cs) ≡ goal

pub pass : (c : Cell) (cs rest : List Cell) (goal : Values) (q : ℕ) → rest ≡ c ∷ cs → Passed rest goal (suc q) → Passed cs goal (q + arity_of c)
pass c cs rest goal q e p =
    let spelled : IsSpelled (c ∷ cs) = subst (λ (x : List Cell). IsSpelled x) e p.spelled in
    let enough : suc q ≤ count (read_all (c ∷ cs)) = subst (λ (x : List Cell). suc q ≤ count (read_all x)) e p.enough in
    let others : suffix (suc q) (read_all (c ∷ cs)) ≡ goal = subst (λ (x : List Cell). suffix (suc q) (read_all x) ≡ goal) e p.others in
    let b : After c cs = after c cs spelled in
    record {
      spelled = b.others;
      enough = omega (arith, b.counted, enough);
      others = sym (suffix-put c (read_all cs) q) ∙ others;
    }

-- the cells of a value
pub read_all_one : (v : Value) → read_all (spell v) ≡ value.MoreValues v value.NoValue
read_all_one v = rw (← append-nil (spell v), read_all-spell v []) refl

pub spelled_one : (v : Value) → IsSpelled (spell v)
spelled_one v = rw (read_all_one v, append-nil (spell v)) refl

pub pass_at : (cells : List Cell) (i p : ℕ) (d : Cell) (goal : Values) → i < length cells → 0 < p → Passed (drop i cells) goal p
    → Passed (drop (i + 1) cells) goal (p - 1 + arity_of (get_or cells i d))
pass_at cells i p d goal within some passed =
    let one : p ≡ suc (p - 1) = omega arith in
    let before : Passed (drop i cells) goal (suc (p - 1)) = subst (λ (n : ℕ). Passed (drop i cells) goal n) one passed in
    rw (add-one i) (pass (get_or cells i d) (drop (suc i) cells) (drop i cells) goal (p - 1) (drop-cons cells i d within) before)

-- where something is left to be passed, there is a cell
pub room : (cells : List Cell) (i p : ℕ) (goal : Values) → Passed (drop i cells) goal p → p ≤ length cells - i
room cells i p goal passed = omega (arith, passed.enough, count_read_all (drop i cells), length-drop i cells)

pub count-put-some : (c : Cell) (vs : Values) → 1 ≤ count (put c vs)
count-put-some cell.Bottom vs = omega arith
count-put-some (cell.LVar x) vs = omega arith
count-put-some (cell.Lit l) vs = omega arith
count-put-some (cell.Con k n) vs = omega arith
count-put-some (cell.Part h n) vs = omega arith

-- where there is a cell, there is a value
pub some_value : (cells : List Cell) (i : ℕ) (d : Cell) → i < length cells → 1 ≤ count (read_all (drop i cells))
some_value cells i d within = rw (drop-cons cells i d within) (count-put-some (get_or cells i d) (read_all (drop (suc i) cells)))

-- where there is a value, there is a cell
pub some_cell : (cells : List Cell) (i : ℕ) → 1 ≤ count (read_all (drop i cells)) → i < length cells
some_cell cells i some = omega (arith, some, count_read_all (drop i cells), length-drop i cells)
