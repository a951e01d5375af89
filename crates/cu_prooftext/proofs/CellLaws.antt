-- What is said of the reader of values: its cells are those of one value.
use Rattle.std.proofs.Common.{◌≡◌, ℕ, zero, suc, ◌+◌, ◌-◌, ◌^◌, ◌<◌, ◌≤◌, List, [], ◌∷◌, ◌++◌, refl, ap, sym, ◌∙◌, subst, append_assoc, append-nil, arith, codes}
use Rattle.std.proofs.lemmas.Bool.Decides.{nat_tests}
use Rattle.std.specs.List.{flat_map}
use Rattle.cu_calculus.specs.Value as value
use Rattle.cu_calculus.specs.Value.{Value, Values, count}
use Rattle.cu_values.specs.Cells.{arity_of, first, prefix, read, read_all, spell, spell_all, suffix}
use Rattle.cu_values.specs.Spelling.{read-spell}
use Rattle.cu_values.specs.declared.cell.Cell.{Cell}
use Rattle.cu_values.specs.declared.cell.Cell.TheVariants as cell
use Rattle.cu_prooftext.specs.Format.{ValueInRange, ValuesInRange}
use Rattle.cu_prooftext.specs.Inside.Cells.{cell_after, cell_text, cells_text}
use Rattle.cu_prooftext.specs.Inside.Readers.{pair}
use Rattle.cu_prooftext.specs.Inside.Reading.{cell_at, cells_at, needed_after, needs, next_cell, value_at, value_of_cells}
use Rattle.cu_prooftext.specs.Text.{value_text}
use Rattle.cu_prooftext.proofs.CellTexts.{cells_of_value}
use Rattle.cu_prooftext.proofs.LoopLaws.{Chain, Loops, chain_starts, whole_reads}
use Rattle.cu_prooftext.proofs.NumberLaws.{no_digit}
use Rattle.cu_prooftext.proofs.ReaderLaws.{PairGood, Reads, after_reads, made_reads, pair_reads, pair_text}
use Rattle.cu_prooftext.proofs.ValueLaws.{CellInRange, cell_reads, same_reads}

-- ---- the loop over cells

abbrev pub CellNeeded : ℕ → Cell → Type 0
CellNeeded n c = (0 < n) × CellInRange c

abbrev pub NoneNeeded : ℕ → Type 0
NoneNeeded n = n ≡ 0

-- these are the cells of so many values
abbrev pub Fill : ℕ → List Cell → Type 0
Fill = Chain needed_after CellNeeded NoneNeeded

bottoms : (n : ℕ) → (cs : List Cell) × Fill n cs
bottoms zero = ([], refl)
bottoms (suc n) =
    let more = bottoms n in
    let same : n ≡ (suc n - 1) + 0 = omega arith in
    (cell.Bottom ∷ more.0, ((omega arith, tt), subst (λ (k : ℕ). Fill k more.0) same more.1))

pub next_cell_reads : (n : ℕ) → 0 < n → Reads no_digit (next_cell n) cell_after (CellNeeded n)
next_cell_reads n more =
    same_reads no_digit (next_cell n) cell_after cell_after CellInRange (CellNeeded n) (after_reads no_digit (codes " ") cell_at cell_text CellInRange cell_reads)
    (λ c g. (g.1, refl)) (λ c g. (more, g))

pub cell_loops : Loops no_digit no_digit needs next_cell needed_after cell_after CellNeeded NoneNeeded
cell_loops = record {
  reads = λ n bytes h. next_cell_reads n (grind (arith, nat_tests));
  starts = λ n c rest g. refl;
  goes = λ n c rest g. grind (arith, nat_tests);
  ends = λ n rest d e. grind (arith, nat_tests);
  weaker = λ rest e. e;
  done = λ n bytes h. grind (arith, nat_tests);
  alike = λ n b bs others. refl;
  longer = λ n c g. omega arith;
  finish = bottoms;
}

pub cells_reads : (n : ℕ) → Reads no_digit (cells_at n) (flat_map cell_after) (Fill n)
cells_reads n = whole_reads no_digit no_digit needs next_cell needed_after cell_after CellNeeded NoneNeeded cell_loops n

-- ---- from values to cells

mutual
  fill_one : (v : Value) (n : ℕ) (rest : List Cell) → ValueInRange v → Fill n rest → Fill (suc n) (spell v ++ rest)
  fill_one value.Bottom n rest g f = let same : n ≡ (suc n - 1) + 0 = omega arith in ((omega arith, tt), subst (λ (k : ℕ). Fill k rest) same f)
  fill_one (value.Variable x) n rest g f = let same : n ≡ (suc n - 1) + 0 = omega arith in ((omega arith, g), subst (λ (k : ℕ). Fill k rest) same f)
  fill_one (value.Literal l) n rest g f = let same : n ≡ (suc n - 1) + 0 = omega arith in ((omega arith, g), subst (λ (k : ℕ). Fill k rest) same f)
  fill_one (value.Constructed c vs) n rest g f =
      let same : count vs + n ≡ (suc n - 1) + count vs = omega arith in
      ((omega arith, (g.0, g.1)), subst (λ (k : ℕ). Fill k (spell_all vs ++ rest)) same (fill_all vs n rest g.2 f))
  fill_one (value.Partial h vs) n rest g f =
      let same : count vs + n ≡ (suc n - 1) + count vs = omega arith in
      ((omega arith, (g.0, g.1)), subst (λ (k : ℕ). Fill k (spell_all vs ++ rest)) same (fill_all vs n rest g.2 f))

  fill_all : (vs : Values) (n : ℕ) (rest : List Cell) → ValuesInRange vs → Fill n rest → Fill (count vs + n) (spell_all vs ++ rest)
  fill_all value.NoValue n rest g f = let same : n ≡ 0 + n = omega arith in subst (λ (k : ℕ). Fill k rest) same f
  fill_all (value.MoreValues v vs) n rest g f =
      let same : suc (count vs + n) ≡ (count vs + 1) + n = omega arith in
      subst (λ (k : ℕ). Fill k ((spell v ++ spell_all vs) ++ rest)) same
      (subst (Fill (suc (count vs + n))) (sym (append_assoc (spell v) (spell_all vs) rest))
      (fill_one v (count vs + n) (spell_all vs ++ rest) g.0 (fill_all vs n rest g.1 f)))

-- ---- from cells to values

pub record Filled (n : ℕ) (cs : List Cell) : Type 0 where
  pub count : count (read_all cs) ≡ n
  pub spelled : spell_all (read_all cs) ≡ cs
  pub in_range : ValuesInRange (read_all cs)

prefix_count : (k : ℕ) (vs : Values) → k ≤ count vs → count (prefix k vs) ≡ k
prefix_count zero vs h = refl
prefix_count (suc k) value.NoValue h = let never : ⊥ = omega arith in absurd never
prefix_count (suc k) (value.MoreValues v vs) h = let less = prefix_count k vs (omega arith) in omega (arith, less)

suffix_count : (k : ℕ) (vs : Values) → k ≤ count vs → count (suffix k vs) + k ≡ count vs
suffix_count zero vs h = omega arith
suffix_count (suc k) value.NoValue h = let never : ⊥ = omega arith in absurd never
suffix_count (suc k) (value.MoreValues v vs) h = let less = suffix_count k vs (omega arith) in omega (arith, less)

split_spelled : (k : ℕ) (vs : Values) → spell_all (prefix k vs) ++ spell_all (suffix k vs) ≡ spell_all vs
split_spelled zero vs = refl
split_spelled (suc k) value.NoValue = refl
split_spelled (suc k) (value.MoreValues v vs) =
    append_assoc (spell v) (spell_all (prefix k vs)) (spell_all (suffix k vs)) ∙ ap (λ (z : List Cell). spell v ++ z) (split_spelled k vs)

prefix_in_range : (k : ℕ) (vs : Values) → ValuesInRange vs → ValuesInRange (prefix k vs)
prefix_in_range zero vs g = tt
prefix_in_range (suc k) value.NoValue g = tt
prefix_in_range (suc k) (value.MoreValues v vs) g = (g.0, prefix_in_range k vs g.1)

suffix_in_range : (k : ℕ) (vs : Values) → ValuesInRange vs → ValuesInRange (suffix k vs)
suffix_in_range zero vs g = g
suffix_in_range (suc k) value.NoValue g = tt
suffix_in_range (suc k) (value.MoreValues v vs) g = suffix_in_range k vs g.1

filled_next : (n : ℕ) (c : Cell) (cs : List Cell) → CellNeeded n c → Filled (needed_after n c) cs → Filled n (c ∷ cs)
filled_next n cell.Bottom cs g f = record {
  count = let c = f.count in omega (arith, g.0, c);
  spelled = ap (λ (z : List Cell). cell.Bottom ∷ z) f.spelled;
  in_range = (tt, f.in_range);
}
filled_next n (cell.LVar x) cs g f = record {
  count = let c = f.count in omega (arith, g.0, c);
  spelled = ap (λ (z : List Cell). cell.LVar x ∷ z) f.spelled;
  in_range = (g.1, f.in_range);
}
filled_next n (cell.Lit l) cs g f = record {
  count = let c = f.count in omega (arith, g.0, c);
  spelled = ap (λ (z : List Cell). cell.Lit l ∷ z) f.spelled;
  in_range = (g.1, f.in_range);
}
filled_next n (cell.Con c k) cs g f =
    let vs = read_all cs in
    let total : count (read_all cs) ≡ (n - 1) + k = f.count in
    let enough : k ≤ count (read_all cs) = omega (arith, total) in
    let front = prefix_count k (read_all cs) enough in
    let back = suffix_count k (read_all cs) enough in
    record {
      count = omega (arith, g.0, total, back);
      spelled =
          ap (λ (m : ℕ). cell.Con c m ∷ (spell_all (prefix k (read_all cs)) ++ spell_all (suffix k (read_all cs)))) front
          ∙ ap (λ (z : List Cell). cell.Con c k ∷ z) (split_spelled k (read_all cs) ∙ f.spelled);
      in_range = (
        (g.1.0, subst (λ (m : ℕ). m < 2 ^ 32) (sym front) g.1.1, prefix_in_range k (read_all cs) f.in_range),
        suffix_in_range k (read_all cs) f.in_range,
      );
    }
filled_next n (cell.Part h k) cs g f =
    let total : count (read_all cs) ≡ (n - 1) + k = f.count in
    let enough : k ≤ count (read_all cs) = omega (arith, total) in
    let front = prefix_count k (read_all cs) enough in
    let back = suffix_count k (read_all cs) enough in
    record {
      count = omega (arith, g.0, total, back);
      spelled =
          ap (λ (m : ℕ). cell.Part h m ∷ (spell_all (prefix k (read_all cs)) ++ spell_all (suffix k (read_all cs)))) front
          ∙ ap (λ (z : List Cell). cell.Part h k ∷ z) (split_spelled k (read_all cs) ∙ f.spelled);
      in_range = (
        (g.1.0, subst (λ (m : ℕ). m < 2 ^ 32) (sym front) g.1.1, prefix_in_range k (read_all cs) f.in_range),
        suffix_in_range k (read_all cs) f.in_range,
      );
    }

pub filled : (cs : List Cell) (n : ℕ) → Fill n cs → Filled n cs
filled [] n f = record { count = sym f; spelled = refl; in_range = tt }
filled (c ∷ cs) n f = filled_next n c cs f.0 (filled cs (needed_after n c) f.1)

one_value : (vs : Values) → count vs ≡ 1 → vs ≡ value.MoreValues (first vs) value.NoValue
one_value value.NoValue h = let never : ⊥ = omega (arith, h) in absurd never
one_value (value.MoreValues v value.NoValue) h = refl
one_value (value.MoreValues v (value.MoreValues w ws)) h = let never : ⊥ = omega (arith, h) in absurd never

first_in_range : (vs : Values) → count vs ≡ 1 → ValuesInRange vs → ValueInRange (first vs)
first_in_range value.NoValue h g = let never : ⊥ = omega (arith, h) in absurd never
first_in_range (value.MoreValues v vs) h g = g.0

-- ---- values

head_cell : Value → Cell
head_cell value.Bottom = cell.Bottom
head_cell (value.Variable x) = cell.LVar x
head_cell (value.Literal l) = cell.Lit l
head_cell (value.Constructed c vs) = cell.Con c (count vs)
head_cell (value.Partial h vs) = cell.Part h (count vs)

arguments_filled : (vs : Values) → ValuesInRange vs → Fill (count vs) (spell_all vs)
arguments_filled vs g =
    let same : count vs + 0 ≡ count vs = omega arith in
    subst (λ (k : ℕ). Fill k (spell_all vs)) same (subst (Fill (count vs + 0)) (append-nil (spell_all vs)) (fill_all vs 0 [] g refl))

abbrev pub ValueCells : Cell × List Cell → Type 0
ValueCells = PairGood CellInRange (λ c. Fill (arity_of c))

value_onto : (v : Value) → ValueInRange v → (p : Cell × List Cell) × ValueCells p × (value_of_cells p ≡ v)
value_onto value.Bottom g = ((cell.Bottom, []), (tt, refl), refl)
value_onto (value.Variable x) g = ((cell.LVar x, []), (g, refl), refl)
value_onto (value.Literal l) g = ((cell.Lit l, []), (g, refl), refl)
value_onto (value.Constructed c vs) g =
    ((cell.Con c (count vs), spell_all vs), ((g.0, g.1), arguments_filled vs g.2), read-spell (value.Constructed c vs))
value_onto (value.Partial h vs) g =
    ((cell.Part h (count vs), spell_all vs), ((g.0, g.1), arguments_filled vs g.2), read-spell (value.Partial h vs))

-- cells that are read spell one value
pub one_spelled : (c : Cell) (cs : List Cell) → CellInRange c → Fill (arity_of c) cs → spell (read (c ∷ cs)) ≡ c ∷ cs
one_spelled c cs g fill =
    let needed : arity_of c ≡ (1 - 1) + arity_of c = omega arith in
    let one : Fill 1 (c ∷ cs) = ((omega arith, g), subst (λ (k : ℕ). Fill k cs) needed fill) in
    let f = filled (c ∷ cs) 1 one in
    let alone = one_value (read_all (c ∷ cs)) f.count in
    sym (append-nil (spell (first (read_all (c ∷ cs))))) ∙ sym (ap spell_all alone) ∙ f.spelled

value_into : (p : Cell × List Cell) → ValueCells p → ValueInRange (value_of_cells p) × (value_text (value_of_cells p) ≡ cell_text p.0 ++ flat_map cell_after p.1)
value_into p g =
    let needed : arity_of p.0 ≡ (1 - 1) + arity_of p.0 = omega arith in
    let one : Fill 1 (p.0 ∷ p.1) = ((omega arith, g.0), subst (λ (k : ℕ). Fill k p.1) needed g.1) in
    let f = filled (p.0 ∷ p.1) 1 one in
    let ws = read_all (p.0 ∷ p.1) in
    let alone = one_value (read_all (p.0 ∷ p.1)) f.count in
    let spelled : spell (first (read_all (p.0 ∷ p.1))) ≡ p.0 ∷ p.1 =
    sym (append-nil (spell (first (read_all (p.0 ∷ p.1))))) ∙ sym (ap spell_all alone) ∙ f.spelled in (
      first_in_range (read_all (p.0 ∷ p.1)) f.count f.in_range,
      sym (cells_of_value (first (read_all (p.0 ∷ p.1)))) ∙ ap cells_text spelled,
    )

value_parts : Reads no_digit (pair cell_at (λ c. cells_at (arity_of c))) (pair_text cell_text (λ c. flat_map cell_after)) ValueCells
value_parts =
    pair_reads no_digit no_digit cell_at (λ c. cells_at (arity_of c)) cell_text (λ c. flat_map cell_after) CellInRange (λ c. Fill (arity_of c)) cell_reads
    (λ c g. cells_reads (arity_of c))
    (λ c cs rest g f e. chain_starts no_digit no_digit needs next_cell needed_after cell_after CellNeeded NoneNeeded cell_loops (arity_of c) cs rest f e)

pub value_reads : Reads no_digit value_at value_text ValueInRange
value_reads =
    made_reads no_digit value_of_cells (pair cell_at (λ c. cells_at (arity_of c))) (pair_text cell_text (λ c. flat_map cell_after)) value_text ValueCells ValueInRange value_parts
    value_onto value_into
