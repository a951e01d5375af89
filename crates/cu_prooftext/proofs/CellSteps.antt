-- The loop over the cells of a value, step by step.
use Rattle.std.proofs.Common.{◌≡◌, ℕ, ◌+◌, ◌<◌, true, false, List, [], ◌∷◌, ◌++◌, Result, Ok, Err, length, refl, ap, sym, ◌∙◌, append_assoc, append-nil, arith, length-append, nat_lt, subst}
use Rattle.std.proofs.lemmas.Bool.Decides.{nat_tests}
use Rattle.cu_calculus.specs.Value.{Value}
use Rattle.cu_values.specs.Cells.{arity_of, read, spell}
use Rattle.cu_values.specs.declared.cell.Cell.{Cell}
use Rattle.cu_prooftext.specs.Inside.Cells.{cell_after}
use Rattle.cu_prooftext.specs.Inside.Loops.{with_first, with_front}
use Rattle.cu_prooftext.specs.Inside.Readers.{◌>>=◌, Reader, after, word_at}
use Rattle.cu_prooftext.specs.Inside.Reading.{cell_at, cells_at, needed_after, needs, next_cell, value_at, value_of_cells}
use Rattle.cu_prooftext.proofs.CellLaws.{CellNeeded, NoneNeeded, cell_loops, cells_reads, next_cell_reads, one_spelled}
use Rattle.cu_prooftext.proofs.FrameLaws.{pair_made, stands}
use Rattle.cu_prooftext.proofs.LoopLaws.{whole_end, whole_go}
use Rattle.cu_prooftext.proofs.NumberLaws.{no_digit}
use Rattle.cu_prooftext.proofs.ReaderLaws.{bind_at, bind_fails}
use Rattle.cu_prooftext.proofs.ValueLaws.{cell_reads}

pub after_is : {A : Type 0} (w bytes r1 rest : List ℕ) (r : Reader A) (x : A) → word_at w bytes ≡ Ok r1 → r r1 ≡ Ok (x, rest) → after w r bytes ≡ Ok (x, rest)
after_is {A} w bytes r1 rest r x e f =
    ap (λ (m : Result (List ℕ) ℕ). ((m >>= λ z. Ok (tt, z)) >>= λ (p : Unit {0} × List ℕ). r p.1 >>= λ q. Ok ((p.0, q.0), q.1)) >>= λ (p : (Unit {0} × A) × List ℕ). Ok (p.0.1, p.1)) e
    ∙ ap (λ (m : Result (A × List ℕ) ℕ). (m >>= λ q. Ok ((tt, q.0), q.1)) >>= λ (p : (Unit {0} × A) × List ℕ). Ok (p.0.1, p.1)) f

pub after_word_fails : {A : Type 0} (w bytes : List ℕ) (r : Reader A) (n : ℕ) → word_at w bytes ≡ Err n → after w r bytes ≡ Err n
after_word_fails {A} w bytes r n e =
    ap (λ (m : Result (List ℕ) ℕ). ((m >>= λ z. Ok (tt, z)) >>= λ (p : Unit {0} × List ℕ). r p.1 >>= λ q. Ok ((p.0, q.0), q.1)) >>= λ (p : (Unit {0} × A) × List ℕ). Ok (p.0.1, p.1)) e

pub after_fails : {A : Type 0} (w bytes r1 : List ℕ) (r : Reader A) (n : ℕ) → word_at w bytes ≡ Ok r1 → r r1 ≡ Err n → after w r bytes ≡ Err n
after_fails {A} w bytes r1 r n e f =
    ap (λ (m : Result (List ℕ) ℕ). ((m >>= λ z. Ok (tt, z)) >>= λ (p : Unit {0} × List ℕ). r p.1 >>= λ q. Ok ((p.0, q.0), q.1)) >>= λ (p : (Unit {0} × A) × List ℕ). Ok (p.0.1, p.1)) e
    ∙ ap (λ (m : Result (A × List ℕ) ℕ). (m >>= λ q. Ok ((tt, q.0), q.1)) >>= λ (p : (Unit {0} × A) × List ℕ). Ok (p.0.1, p.1)) f

pub front_first : {A : Type 0} (front : List A) (x : A) (m : Result (List A × List ℕ) ℕ) → with_front front (m >>= with_first x) ≡ with_front (front ++ x ∷ []) m
front_first {A} front x (Ok q) = ap (λ (z : List A). let m : Result (List A × List ℕ) ℕ = Ok (z, q.1) in m) (sym (append_assoc front (x ∷ []) q.0))
front_first front x (Err n) = refl

needed_go : (n : ℕ) → 0 < n → nat_lt 0 n ≡ true
needed_go n h = grind (arith, nat_tests)

-- a cell is read, and then the others
pub cells_go : (front all : List Cell) (n m : ℕ) (bytes rest : List ℕ) (c : Cell) (read : Result (List Cell × List ℕ) ℕ) → all ≡ front ++ c ∷ [] → m ≡ needed_after n c → 0 < n → next_cell n bytes ≡ Ok (c, rest)
    → with_front front (cells_at n bytes) ≡ read → with_front all (cells_at m rest) ≡ read
cells_go front all n m bytes rest c read e i more f whole =
    ap (λ (z : List Cell). with_front z (cells_at m rest)) e
    ∙ ap (λ (k : ℕ). with_front (front ++ c ∷ []) (cells_at k rest)) i
    ∙ sym (front_first front c (cells_at (needed_after n c) rest))
    ∙ ap (with_front front)
    (sym (whole_go no_digit no_digit needs next_cell needed_after cell_after CellNeeded NoneNeeded cell_loops n bytes (needed_go n more)
    ∙ bind_at (next_cell n bytes) (λ p. cells_at (needed_after n p.0) p.1 >>= with_first p.0) (c, rest) f))
    ∙ whole

pub cell_shorter : (n : ℕ) (bytes rest : List ℕ) (c : Cell) → 0 < n → next_cell n bytes ≡ Ok (c, rest) → length rest < length bytes
cell_shorter n bytes rest c more f =
    omega (arith, ap length ((next_cell_reads n more).takes bytes c rest f).splits, length-append (cell_after c) rest)

pub cells_fail : (front : List Cell) (n : ℕ) (bytes : List ℕ) (k : ℕ) → 0 < n → next_cell n bytes ≡ Err k → with_front front (cells_at n bytes) ≡ Err k
cells_fail front n bytes k more e =
    ap (with_front front)
    (whole_go no_digit no_digit needs next_cell needed_after cell_after CellNeeded NoneNeeded cell_loops n bytes (needed_go n more)
    ∙ bind_fails (next_cell n bytes) (λ p. cells_at (needed_after n p.0) p.1 >>= with_first p.0) k e)

pub cells_end : (front : List Cell) (n : ℕ) (bytes : List ℕ) → n ≡ 0 → with_front front (cells_at n bytes) ≡ Ok (front, bytes)
cells_end front n bytes e =
    let none : nat_lt 0 n ≡ false = grind (arith, nat_tests) in
    ap (with_front front) (whole_end needs next_cell needed_after n bytes none) ∙ ap (λ (z : List Cell). let m : Result (List Cell × List ℕ) ℕ = Ok (z, bytes) in m) (append-nil front)

-- what is read are the cells of one value
pub cells_spelled : (bytes r1 rest : List ℕ) (c : Cell) (cs : List Cell) → cell_at bytes ≡ Ok (c, r1) → cells_at (arity_of c) r1 ≡ Ok (cs, rest) → spell (read (c ∷ cs)) ≡ c ∷ cs
cells_spelled bytes r1 rest c cs e f =
    one_spelled c cs (cell_reads.takes bytes c r1 e).good ((cells_reads (arity_of c)).takes r1 cs rest f).good

-- ---- values

front_ok : {A : Type 0} (front : List A) (m : Result (List A × List ℕ) ℕ) (xs : List A) (rest : List ℕ) → with_front front m ≡ Ok (xs, rest)
    → (ys : List A) × (m ≡ Ok (ys, rest)) × (xs ≡ front ++ ys)
front_ok {A} front (Ok q) xs rest e =
    let same : (front ++ q.0, q.1) ≡ (xs, rest) = cc e in
    (q.0, ap (λ (p : List A × List ℕ). let m : Result (List A × List ℕ) ℕ = Ok (q.0, p.1) in m) same, sym (ap (λ (p : List A × List ℕ). p.0) same))
front_ok front (Err n) xs rest e = let never : ⊥ = cc e in absurd never

front_err : {A : Type 0} (front : List A) (m : Result (List A × List ℕ) ℕ) (n : ℕ) → with_front front m ≡ Err n → m ≡ Err n
front_err front (Ok q) n e = let never : ⊥ = cc e in absurd never
front_err {A} front (Err k) n e = let same : k ≡ n = cc e in ap (λ (j : ℕ). let m : Result (List A × List ℕ) ℕ = Err j in m) same

pub front_none : {A : Type 0} (m : Result (List A × List ℕ) ℕ) → with_front [] m ≡ m
front_none (Ok q) = refl
front_none (Err n) = refl

-- the cells that are read are those of one value
pub value_spelled : (bytes r1 rest : List ℕ) (c : Cell) (xs : List Cell) → cell_at bytes ≡ Ok (c, r1) → with_front (c ∷ []) (cells_at (arity_of c) r1) ≡ Ok (xs, rest) → spell (read xs) ≡ xs
value_spelled bytes r1 rest c xs e f =
    let o = front_ok (c ∷ []) (cells_at (arity_of c) r1) xs rest f in
    subst (λ (z : List Cell). spell (read z) ≡ z) (sym o.2) (cells_spelled bytes r1 rest c o.0 e o.1)

value_is : (bytes r1 : List ℕ) (c : Cell) → cell_at bytes ≡ Ok (c, r1) → value_at bytes ≡ (cells_at (arity_of c) r1 >>= stands (λ cs. read (c ∷ cs)))
value_is bytes r1 c e =
    pair_made value_of_cells cell_at (λ c. cells_at (arity_of c)) bytes
    ∙ bind_at (cell_at bytes) (λ p. cells_at (arity_of p.0) p.1 >>= stands (λ cs. value_of_cells (p.0, cs))) (c, r1) e

pub value_read : (bytes r1 rest : List ℕ) (c : Cell) (xs : List Cell) (v : Value) → cell_at bytes ≡ Ok (c, r1) → with_front (c ∷ []) (cells_at (arity_of c) r1) ≡ Ok (xs, rest) → v ≡ read xs
    → value_at bytes ≡ Ok (v, rest)
value_read bytes r1 rest c xs v e f i =
    let o = front_ok (c ∷ []) (cells_at (arity_of c) r1) xs rest f in
    value_is bytes r1 c e
    ∙ bind_at (cells_at (arity_of c) r1) (stands (λ cs. read (c ∷ cs))) (o.0, rest) o.1
    ∙ ap (λ (z : Value). let m : Result (Value × List ℕ) ℕ = Ok (z, rest) in m) (ap read (sym o.2) ∙ sym i)

pub value_stops : (bytes r1 : List ℕ) (c : Cell) (n : ℕ) → cell_at bytes ≡ Ok (c, r1) → with_front (c ∷ []) (cells_at (arity_of c) r1) ≡ Err n → value_at bytes ≡ Err n
value_stops bytes r1 c n e f =
    value_is bytes r1 c e ∙ bind_fails (cells_at (arity_of c) r1) (stands (λ cs. read (c ∷ cs))) n (front_err (c ∷ []) (cells_at (arity_of c) r1) n f)
