-- Pieces of work, one after the other, and how much there is in them.
use Rattle.std.proofs.Common.{◌≡◌, ℕ, zero, suc, ◌+◌, ◌*◌, ◌<◌, List, [], ◌∷◌, drop, length, max, get_or, Ok, Err, ap, sym, subst, arith}
use Rattle.std.specs.declared.alloc.Global.{Global}
use Rattle.std.specs.declared.boxed.Box.{Box}
use Rattle.cu_calculus.specs.Program.{Program}
use Rattle.cu_calculus.specs.Term as clean
use Rattle.cu_deftree.specs.Inside.NamesOf.{names_of}
use Rattle.cu_deftree.specs.Inside.RowsOf.{all_rows, row_of}
use Rattle.cu_deftree.specs.Inside.Tasks.{BothLower, TaskLowers, Within, both_of, both_size}
use Rattle.cu_deftree.specs.LoweredProgram.{size}
use Rattle.cu_deftree.specs.declared.rows.Row as code
use Rattle.cu_deftree.specs.declared.tasks.Stop.{Stop}
use Rattle.cu_deftree.specs.declared.tasks.Task.TheVariants as task
use Rattle.cu_deftree.specs.declared.tasks.Task.{Task}
use Rattle.cu_deftree.proofs.OneTree.{lowers_one}
use Rattle.cu_deftree.proofs.Passing.{stops}
use Rattle.cu_deftree.proofs.TreeNodes.{rows_one}
use Rattle.cu_deftree.proofs.Weights.{term_weight, terms_weight}
use Rattle.cu_kernel.specs.TermsOf.{term_of, terms_of}
use Rattle.cu_kernel.specs.declared.term.Term.{Term}

pub task_one : (program : Program) (t : Task) (a b : clean.Term) → TaskLowers program t a → TaskLowers program t b → a ≡ b
task_one program (task.Term scope t) a b p q = lowers_one program (names_of scope.names.now) scope.next (term_of t.now) a b p q
task_one program (task.Rows m matrix) a b p q = rows_one program m matrix.positions.now matrix.next (all_rows matrix.rows.now) a b p q

pub first_stops : (program : Program) (one two : Task) (old mid last : ℕ) (e : Stop) → Within term_of size (TaskLowers program one) old mid (Err e)
    → Within both_of both_size (BothLower program one two) old last (Err e)
first_stops program one two old mid last e h =
    stops both_of both_size (BothLower program one two) term_of size (TaskLowers program one) old old mid last e
    (λ y r. (y.0, r.0, omega arith)) h

pub second_stops : (program : Program) (one two : Task) (t : Term) (old mid new last : ℕ) (e : Stop) → Within term_of size (TaskLowers program one) old mid (Ok t)
    → Within term_of size (TaskLowers program two) mid new (Err e) → Within both_of both_size (BothLower program one two) old last (Err e)
second_stops program one two t old mid new last e first h =
    stops both_of both_size (BothLower program one two) term_of size (TaskLowers program two) old mid new last e
    (λ y r.
    let same = ap size (task_one program one y.0 (term_of t) r.0 first.0) in
    let spent = first.1 in
    (y.1, r.1, omega arith)) h

pub both_done : (program : Program) (one two : Task) (t u : Term) (a b : Box Term Global) (old mid new : ℕ) → Within term_of size (TaskLowers program one) old mid (Ok t)
    → Within term_of size (TaskLowers program two) mid new (Ok u) → a.value ≡ t → b.value ≡ u
    → Within both_of both_size (BothLower program one two) old new (Ok (a, b))
both_done program one two t u a b old mid new first second e f =
    let x = ap term_of e in
    let y = ap term_of f in
    let m = ap size x in
    let n = ap size y in
    let spent = first.1 in
    let later = second.1 in
    ((subst (λ (z : clean.Term). TaskLowers program one z) (sym x) first.0, subst (λ (z : clean.Term). TaskLowers program two z) (sym y) second.0), omega arith)

-- ---- rows, the first of which is known

pub first_row : (rows : List code.Row) (first : code.Row) → 0 < length rows → first ≡ get_or rows 0 first
    → all_rows rows ≡ row_of first ∷ all_rows (drop 1 rows)
first_row [] first some is = absurd (omega arith)
first_row (row ∷ rows) first some is = ap (λ (r : code.Row). row_of r ∷ all_rows rows) (sym is)

-- ---- weights

pub lighter_left : (a b w : ℕ) → a < w → b < w → 8 * max a b + 6 < 8 * w + 2
lighter_left a b w l m = omega arith

pub in_terms : (ts : List Term) (i : ℕ) (t : Term) → i < length ts → t ≡ get_or ts i t → term_weight (term_of t) < terms_weight (terms_of ts)
in_terms [] i t below is = absurd (omega arith)
in_terms (u ∷ ts) zero t below is = let same = ap (λ (x : Term). term_weight (term_of x)) is in omega arith
in_terms (u ∷ ts) (suc i) t below is = let rest = in_terms ts i t (omega arith) is in omega arith
