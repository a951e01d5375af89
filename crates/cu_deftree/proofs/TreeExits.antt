-- What the code makes of rows, by the values that it has at hand.
use Rattle.std.proofs.Common.{◌≡◌, ℕ, zero, suc, ◌+◌, ◌<◌, ◌≤◌, Bool, true, false, not, List, [], ◌∷◌, ◌++◌, drop, filter, length, map, get_or, Option, None, Some, slice_get, Result, refl, ap, ap₂, sym, ◌∙◌, subst, arith, add-one, drop-cons, eqb-true, length-drop, take, ◌-◌, true≢false}
use Rattle.std.specs.List.{list_any}
use denote.Ref.{Bor}
use Rattle.cu_calculus.specs.Choose.{AConstructor, ALiteral, Demand, Nothing, is_demanding, leftmost, not_literal, spliced, demands_literal}
use Rattle.cu_calculus.specs.Program.{Program}
use Rattle.cu_calculus.specs.Term as clean
use Rattle.cu_calculus.specs.declared.Mode.{Mode}
use Rattle.cu_deftree.specs.Inside.NamesOf.{names_of, names_of-WithAll}
use Rattle.cu_deftree.specs.Inside.RowsOf.{all_rows, choices, row_of, demands_choice}
use Rattle.cu_deftree.specs.Inside.Tasks.{BranchLowers, CaseLowers, FirstDemands, IsFree, IsMixed, IsOpened, IsSplit, MatrixLowers, RowsLower, TermLowers, Within, alternatives_in, both_size, branch_of, branch_pattern, branches_of, branch_size, opened_count}
use Rattle.cu_deftree.specs.LoweredProgram.{size}
use Rattle.cu_deftree.specs.Lowering.{Distinguishes, IsOperation, Lowers, Tree, failure, goes_on, is_variable, literal_case}
use Rattle.cu_deftree.specs.Lowering as lowering
use Rattle.std.specs.Bool.{◌==◌}
use Rattle.std.specs.declared.alloc.Global.{Global}
use Rattle.std.specs.declared.boxed.Box.{Box}
use Rattle.std.specs.declared.vec.Vec.{Vec}
use Rattle.cu_calculus.specs.declared.FunId.{FunId}
use Rattle.cu_calculus.specs.declared.Lit.{Lit}
use Rattle.cu_calculus.specs.declared.builtin.Primitive.TheVariants as prim
use Rattle.cu_deftree.specs.declared.tasks.Scope.{Scope}
use Rattle.cu_kernel.specs.declared.term.Term.TheVariants as terms
use Rattle.cu_deftree.specs.Rows.{Names, Row, constructors_at, demand_at, demanded_by_all, demands, literals_at, name_of, numbers, rows_of, siblings, specialize}
use Rattle.cu_deftree.specs.declared.names.Names.TheVariants as scopes
use Rattle.cu_deftree.specs.declared.patterns.Choice.{Choice}
use Rattle.cu_deftree.specs.declared.rows.Row as code
use Rattle.cu_calculus.specs.declared.ConId.{ConId}
use Rattle.cu_deftree.specs.declared.patterns.Choice.TheVariants as choice
use Rattle.cu_deftree.specs.declared.tasks.Manner.TheVariants as manner
use Rattle.cu_matrix.specs.Meaning.{patterns_at}
use Rattle.cu_deftree.proofs.Weights.{all_demanding, alternatives_lighter, alternatives_weight, demanding_lighter, leftmost_demands, not_literal_lighter, others_lighter, rows_weight, specialize_lighter, term_weight}
use Rattle.cu_deftree.specs.declared.tasks.Manner.{Manner}
use Rattle.cu_deftree.specs.declared.tasks.Matrix.{Matrix}
use Rattle.cu_deftree.specs.declared.tasks.Stop.{Stop}
use Rattle.cu_deftree.proofs.Nodes.{Two, term_case_node, variable_case_node}
use Rattle.cu_deftree.proofs.OneTree.{distinguishes_one, tree_one}
use Rattle.cu_deftree.proofs.Passing.{Node, through}
use Rattle.cu_deftree.proofs.TreeNodes.{AsCase, all_as_case, branch_node, first_as_case, literal_node, tree_as_case, overlap_node, rule_node, split_node, taken_node}
use Rattle.cu_kernel.specs.TermsOf.{alternatives_of, pattern_of, term_of, term_of-Case, term_of-Var}
use Rattle.cu_kernel.specs.declared.term.Pattern.{Pattern}
use Rattle.cu_kernel.specs.declared.term.Term.{Term}

pub get_at : (xs : List ℕ) (k : ℕ) → k < length xs → slice_get xs k ≡ Some (get_or xs k 0)
get_at [] k below = absurd (omega arith)
get_at (x ∷ xs) zero below = refl
get_at (x ∷ xs) (suc k) below = get_at xs k (omega arith)

pub some_free : (rows : List code.Row) → IsFree (all_rows rows) → 0 < length rows
some_free [] h = absurd h
some_free (r ∷ rows) h = omega arith

pub is_free : (rows : List code.Row) (d r : code.Row) (ps : List (Bor Pattern)) → 0 < length rows → r ≡ get_or rows 0 d → ps ≡ r.patterns.items
    → leftmost (patterns_at ps) ≡ None → IsFree (all_rows rows)
is_free [] d r ps some is same e = absurd (omega arith)
is_free (row ∷ rows) d r ps some is same e =
    sym (ap (λ (qs : List (Bor Pattern)). leftmost (patterns_at qs)) (same ∙ ap (λ (x : code.Row). x.patterns.items) is)) ∙ e

pub split_in : (program : Program) (positions : List ℕ) (next k : ℕ) (whole : List Row) (first second one two : List code.Row) → IsSplit k whole
    → one ≡ first → two ≡ second → all_rows first ≡ filter (demands k) whole → all_rows second ≡ filter (λ other. not (demands k other)) whole
    → Node (Two (Tree program positions next (all_rows one)) (Tree program positions next (all_rows two))) both_size (Tree program positions next whole) size
    (λ both. clean.Or both.0 both.1) 1
split_in program positions next k [] first second one two h e f a b = absurd h
split_in program positions next k (row ∷ rows) first second one two h e f a b =
    split_node program positions next k row rows (row ∷ rows) (all_rows one) (all_rows two) refl (ap all_rows e ∙ a) (ap all_rows f ∙ b) h.0 h.1

pub branch_in : (program : Program) (m : Manner) (v : Bool) (matrix : Matrix) (k : ℕ) (c : Choice) (new xs ys : List ℕ) (next : ℕ) (rows one : List code.Row)
    → new ≡ numbers matrix.next (opened_count program c) → ys ≡ spliced k new matrix.positions.now → xs ≡ ys → next ≡ matrix.next + opened_count program c
    → all_rows rows ≡ specialize k new (goes_on v (demands_choice c)) (all_rows matrix.rows.now) → one ≡ rows
    → Node (RowsLower program m xs next (all_rows one)) size (BranchLowers program m v matrix k c) branch_size
    (λ t. (branch_pattern c (numbers matrix.next (opened_count program c)), t)) 0
branch_in program m v matrix k c new xs ys next rows one is places same after opened equal =
    let n = opened_count program c in
    let all = numbers matrix.next n in
    let test = goes_on v (demands_choice c) in
    let p = same ∙ places ∙ ap (λ (zs : List ℕ). spliced k zs matrix.positions.now) is in
    let q = ap all_rows equal ∙ opened ∙ ap (λ (zs : List ℕ). specialize k zs test (all_rows matrix.rows.now)) is in
    subst (λ (zs : List ℕ). Node (RowsLower program m zs next (all_rows one)) size (BranchLowers program m v matrix k c) branch_size (λ t. (branch_pattern c all, t)) 0) (sym p)
    (subst (λ (i : ℕ). Node (RowsLower program m (spliced k all matrix.positions.now) i (all_rows one)) size (BranchLowers program m v matrix k c) branch_size (λ t. (branch_pattern c all, t)) 0) (sym after)
    (subst (λ (rs : List Row). Node (RowsLower program m (spliced k all matrix.positions.now) (matrix.next + n) rs) size (BranchLowers program m v matrix k c) branch_size (λ t. (branch_pattern c all, t)) 0) (sym q)
    (branch_node program m v matrix k c)))

pub as_case_out : (program : Program) (m : Manner) (v : Bool) (matrix : Matrix) (k : ℕ) (cs made : List Choice) (old new : ℕ) (r : Result Term Stop)
    → AsCase program m v matrix k cs → made ≡ cs → Within term_of size (CaseLowers program m v matrix k made) old new r
    → Within term_of size (MatrixLowers program m matrix) old new r
as_case_out program m v matrix k cs made old new r node e h =
    through term_of old new r node (subst (λ (xs : List Choice). Within term_of size (CaseLowers program m v matrix k xs) old new r) e h)

-- the right side of the first row
pub first_in : (program : Program) (mode : Mode) (positions : List ℕ) (next : ℕ) (rows : List code.Row) (d r : code.Row) (own : Bor (List (ℕ × ℕ)))
    → r ≡ get_or rows 0 d → own.now ≡ r.own.items → IsFree (all_rows rows)
    → Node (Lowers program (names_of (scopes.WithAll own r.around)) next (term_of r.body.now)) size (Distinguishes program mode positions next (all_rows rows)) size (λ t. t) 0
first_in program mode positions next [] d r own is same h = absurd h
first_in program mode positions next (row ∷ rows) d r own is same h =
    let names = names_of-WithAll own r.around ∙ ap (λ (ns : Names). ns ++ names_of r.around.now) same in
    subst (λ (ns : Names). Node (Lowers program ns next (term_of r.body.now)) size (Distinguishes program mode positions next (all_rows (row ∷ rows))) size (λ t. t) 0) (sym names)
    (taken_node program mode positions next (row_of r) (all_rows rows) (all_rows (row ∷ rows)) (ap (λ (x : code.Row). row_of x ∷ all_rows rows) (sym is))
    (ap (λ (x : code.Row). leftmost (patterns_at x.patterns.items)) is ∙ h))

pub rule_in : (program : Program) (positions : List ℕ) (next : ℕ) (rows : List code.Row) (d r : code.Row) (own : Bor (List (ℕ × ℕ)))
    → r ≡ get_or rows 0 d → own.now ≡ r.own.items → IsFree (all_rows rows) → length rows ≡ 1
    → Node (Lowers program (names_of (scopes.WithAll own r.around)) next (term_of r.body.now)) size (Tree program positions next (all_rows rows)) size (λ t. t) 0
rule_in program positions next [] d r own is same h one = absurd h
rule_in program positions next (row ∷ other ∷ rows) d r own is same h one = absurd (omega arith)
rule_in program positions next (row ∷ []) d r own is same h one =
    let names = names_of-WithAll own r.around ∙ ap (λ (ns : Names). ns ++ names_of r.around.now) same in
    subst (λ (ns : Names). Node (Lowers program ns next (term_of r.body.now)) size (Tree program positions next (all_rows (row ∷ []))) size (λ t. t) 0) (sym names)
    (rule_node program positions next (row_of r) (all_rows (row ∷ [])) (ap (λ (x : code.Row). row_of x ∷ []) (sym is))
    (ap (λ (x : code.Row). leftmost (patterns_at x.patterns.items)) is ∙ h))

-- ---- the first row at hand

pub known_row : (rows : List code.Row) (d r : code.Row) → 0 < length rows → r ≡ get_or rows 0 d → all_rows rows ≡ row_of r ∷ all_rows (drop 1 rows)
known_row [] d r some is = absurd (omega arith)
known_row (row ∷ rows) d r some is = ap (λ (x : code.Row). row_of x ∷ all_rows rows) (sym is)

pub some_mixed : (k : ℕ) (rows : List code.Row) → IsMixed k (all_rows rows) → 0 < length rows
some_mixed k [] h = absurd h
some_mixed k (r ∷ rows) h = omega arith

pub opened_mixed : (k : ℕ) (rows : List Row) → IsMixed k rows → IsOpened k rows
opened_mixed k [] h = h
opened_mixed k (row ∷ rows) h = leftmost_demands row k h.0

pub opened_common : (k : ℕ) (rows : List Row) → demanded_by_all rows ≡ Some k → IsOpened k rows
opened_common k [] h = let none : ⊥ = cc in none
opened_common k (row ∷ rows) h = all_demanding row rows k h

pub first_leftmost : (rows : List code.Row) (d r : code.Row) (ps : List (Bor Pattern)) (found : Option ℕ) → 0 < length rows → r ≡ get_or rows 0 d
    → ps ≡ r.patterns.items → leftmost (patterns_at ps) ≡ found → leftmost (row_of r).patterns ≡ found
first_leftmost rows d r ps found some is same e = sym (ap (λ (qs : List (Bor Pattern)). leftmost (patterns_at qs)) same) ∙ e

pub opened_first : (rows : List code.Row) (d r : code.Row) (ps : List (Bor Pattern)) (k : ℕ) → 0 < length rows → r ≡ get_or rows 0 d
    → ps ≡ r.patterns.items → leftmost (patterns_at ps) ≡ Some k → IsOpened k (all_rows rows)
opened_first rows d r ps k some is same e =
    subst (λ (rs : List Row). IsOpened k rs) (sym (known_row rows d r some is)) (leftmost_demands (row_of r) k (first_leftmost rows d r ps (Some k) some is same e))

pub split_first : (rows : List code.Row) (d r : code.Row) (ps : List (Bor Pattern)) (k : ℕ) → 0 < length rows → r ≡ get_or rows 0 d
    → ps ≡ r.patterns.items → leftmost (patterns_at ps) ≡ Some k → demanded_by_all (all_rows rows) ≡ None → IsSplit k (all_rows rows)
split_first rows d r ps k some is same e f =
    let known = known_row rows d r some is in
    subst (λ (rs : List Row). IsSplit k rs) (sym known)
    (first_leftmost rows d r ps (Some k) some is same e, sym (ap demanded_by_all known) ∙ f)

pub mixed_first : (rows : List code.Row) (d r : code.Row) (ps : List (Bor Pattern)) (k : ℕ) → 0 < length rows → r ≡ get_or rows 0 d
    → ps ≡ r.patterns.items → leftmost (patterns_at ps) ≡ Some k → list_any (λ row. not (demands k row)) (all_rows rows) ≡ true → IsMixed k (all_rows rows)
mixed_first rows d r ps k some is same e f =
    let known = known_row rows d r some is in
    subst (λ (rs : List Row). IsMixed k rs) (sym known)
    (first_leftmost rows d r ps (Some k) some is same e, sym (ap (λ (rs : List Row). list_any (λ row. not (demands k row)) rs) known) ∙ f)

pub demands_first : (rows : List code.Row) (d r : code.Row) (k : ℕ) (demand : Demand) → 0 < length rows → r ≡ get_or rows 0 d
    → demand_at k (row_of r) ≡ demand → FirstDemands k demand (all_rows rows)
demands_first rows d r k demand some is e = subst (λ (rs : List Row). FirstDemands k demand rs) (sym (known_row rows d r some is)) e

mixed_known : (rows : List code.Row) (d r : code.Row) (k : ℕ) → r ≡ get_or rows 0 d → IsMixed k (all_rows rows)
    → IsMixed k (row_of r ∷ all_rows (drop 1 rows))
mixed_known rows d r k is h = subst (λ (rs : List Row). IsMixed k rs) (known_row rows d r (some_mixed k rows h) is) h

pub never_nothing : (rows : List code.Row) (d r : code.Row) (k : ℕ) → r ≡ get_or rows 0 d → IsMixed k (all_rows rows)
    → demand_at k (row_of r) ≡ Nothing → ⊥
never_nothing rows d r k is h e =
    true≢false (sym (leftmost_demands (row_of r) k (mixed_known rows d r k is h).0) ∙ ap is_demanding e)

pub tree_case_in : (program : Program) (matrix : Matrix) (k : ℕ) (d r : code.Row) → 0 < length matrix.rows.now → r ≡ get_or matrix.rows.now 0 d
    → demanded_by_all (all_rows matrix.rows.now) ≡ Some k
    → AsCase program manner.Rules false matrix k (choices (constructors_at program k (all_rows matrix.rows.now)) (literals_at k (all_rows matrix.rows.now)))
tree_case_in program matrix k d r some is e =
    let known = known_row matrix.rows.now d r some is in
    tree_as_case program matrix k (row_of r) (all_rows (drop 1 matrix.rows.now)) known (sym (ap demanded_by_all known) ∙ e)

pub all_case_in : (program : Program) (mode : Mode) (matrix : Matrix) (k : ℕ) (d r : code.Row) (ps : List (Bor Pattern)) → 0 < length matrix.rows.now
    → r ≡ get_or matrix.rows.now 0 d → ps ≡ r.patterns.items → leftmost (patterns_at ps) ≡ Some k
    → list_any (λ row. not (demands k row)) (all_rows matrix.rows.now) ≡ false
    → AsCase program (manner.Alternatives mode) false matrix k (choices (constructors_at program k (all_rows matrix.rows.now)) (literals_at k (all_rows matrix.rows.now)))
all_case_in program mode matrix k d r ps some is same e f =
    let known = known_row matrix.rows.now d r some is in
    all_as_case program mode matrix k (row_of r) (all_rows (drop 1 matrix.rows.now)) known (first_leftmost matrix.rows.now d r ps (Some k) some is same e)
    (sym (ap (λ (rs : List Row). list_any (λ row. not (demands k row)) rs) known) ∙ f)

pub first_case_in : (program : Program) (mode : Mode) (matrix : Matrix) (k : ℕ) (c : ConId) (d r : code.Row) → r ≡ get_or matrix.rows.now 0 d
    → IsMixed k (all_rows matrix.rows.now) → demand_at k (row_of r) ≡ AConstructor c
    → AsCase program (manner.Alternatives mode) true matrix k (map choice.Constructor (siblings program c))
first_case_in program mode matrix k c d r is h e =
    let known = known_row matrix.rows.now d r (some_mixed k matrix.rows.now h) is in
    let mixed = mixed_known matrix.rows.now d r k is h in
    first_as_case program mode matrix k c (row_of r) (all_rows (drop 1 matrix.rows.now)) known mixed.0 mixed.1 e

pub overlap_in : (program : Program) (positions : List ℕ) (next : ℕ) (rows rest : List code.Row) (d r : code.Row) (own : Bor (List (ℕ × ℕ)))
    → r ≡ get_or rows 0 d → own.now ≡ r.own.items → IsFree (all_rows rows) → (length rows ≡ 1 → ⊥) → rest ≡ drop 1 rows
    → Node (Two (Lowers program (names_of (scopes.WithAll own r.around)) next (term_of r.body.now)) (Tree program positions next (all_rows rest))) both_size
    (Tree program positions next (all_rows rows)) size (λ both. clean.Or both.0 both.1) 1
overlap_in program positions next [] rest d r own is same h some e = absurd h
overlap_in program positions next (row ∷ []) rest d r own is same h some e = absurd (some refl)
overlap_in program positions next (row ∷ other ∷ rows) rest d r own is same h some e =
    let names = names_of-WithAll own r.around ∙ ap (λ (ns : Names). ns ++ names_of r.around.now) same in
    subst (λ (ns : Names). Node (Two (Lowers program ns next (term_of r.body.now)) (Tree program positions next (all_rows rest))) both_size
    (Tree program positions next (all_rows (row ∷ other ∷ rows))) size (λ both. clean.Or both.0 both.1) 1) (sym names)
    (overlap_node program positions next (row_of r) (row_of other) (all_rows rows) (all_rows (row ∷ other ∷ rows)) (all_rows rest)
    (ap (λ (x : code.Row). row_of x ∷ row_of other ∷ all_rows rows) (sym is)) (ap all_rows e)
    (ap (λ (x : code.Row). leftmost (patterns_at x.patterns.items)) is ∙ h))

-- ---- weights

pub opened_lighter : (rows one made : List code.Row) (k : ℕ) (new : List ℕ) (test : Demand → Bool) → IsOpened k (all_rows rows) → one ≡ made
    → all_rows made ≡ specialize k new test (all_rows rows) → rows_weight (all_rows one) < rows_weight (all_rows rows)
opened_lighter [] one made k new test h same e = absurd h
opened_lighter (row ∷ rows) one made k new test h same e =
    let less = specialize_lighter k new test (row_of row) (all_rows rows) h in
    let is = ap rows_weight (ap all_rows same ∙ e) in
    omega arith

pub body_lighter : (rows : List code.Row) (d r : code.Row) → 0 < length rows → r ≡ get_or rows 0 d → term_weight (term_of r.body.now) < rows_weight (all_rows rows)
body_lighter [] d r some is = absurd (omega arith)
body_lighter (row ∷ rows) d r some is = let same = ap (λ (x : code.Row). term_weight (term_of x.body.now)) is in omega arith

pub rest_lighter : (rows rest : List code.Row) → 0 < length rows → rest ≡ drop 1 rows → rows_weight (all_rows rest) < rows_weight (all_rows rows)
rest_lighter [] rest some e = absurd (omega arith)
rest_lighter (row ∷ rows) rest some e = let same = ap (λ (rs : List code.Row). rows_weight (all_rows rs)) e in omega arith

pub demanding_less : (rows one made : List code.Row) (k : ℕ) → IsSplit k (all_rows rows) → one ≡ made → all_rows made ≡ filter (demands k) (all_rows rows)
    → rows_weight (all_rows one) < rows_weight (all_rows rows)
demanding_less [] one made k h same e = absurd h
demanding_less (row ∷ rows) one made k h same e =
    let less = demanding_lighter (row_of row) (all_rows rows) k h.1 h.0 in let is = ap rows_weight (ap all_rows same ∙ e) in omega arith

pub others_less : (rows one made : List code.Row) (k : ℕ) → IsSplit k (all_rows rows) → one ≡ made
    → all_rows made ≡ filter (λ other. not (demands k other)) (all_rows rows) → rows_weight (all_rows one) < rows_weight (all_rows rows)
others_less [] one made k h same e = absurd h
others_less (row ∷ rows) one made k h same e =
    let less = others_lighter (row_of row) (all_rows rows) k h.0 in let is = ap rows_weight (ap all_rows same ∙ e) in omega arith

pub left_at : {X : Type 0} (xs : List X) (i : ℕ) (d : X) → i < length xs → drop i xs ≡ get_or xs i d ∷ drop (i + 1) xs
left_at xs i d below = rw add-one (drop-cons xs i d below)

pub all_taken : {A : Type 0} (n : ℕ) (xs : List A) → length xs ≤ n → take n xs ≡ xs
all_taken zero [] h = refl
all_taken zero (x ∷ xs) h = absurd (omega arith)
all_taken (suc n) [] h = refl
all_taken (suc n) (x ∷ xs) h = ap (λ rest. x ∷ rest) (all_taken n xs (omega arith))

pub rest_is : (rows : List code.Row) → take (length rows - 1) (drop 1 rows) ≡ drop 1 rows
rest_is rows = all_taken (length rows - 1) (drop 1 rows) (omega (arith, length-drop 1 rows))

-- ---- no rows

pub no_rows : (rows : List code.Row) → true ≡ (length rows == 0) → all_rows rows ≡ []
no_rows [] e = refl
no_rows (row ∷ rows) e = let none : suc (length rows) ≡ 0 = eqb-true (suc (length rows)) 0 (sym e) in absurd (omega arith)

pub failing_tree : (program : Program) (positions : List ℕ) (next : ℕ) (whole : List Row) (f : FunId) → whole ≡ [] → IsOperation program prim.Failed f
    → Node (λ (t : clean.Term). t ≡ failure f) size (Tree program positions next whole) size (λ t. t) 0
failing_tree program positions next whole f is op =
    subst (λ (rs : List Row). Node (λ (t : clean.Term). t ≡ failure f) size (Tree program positions next rs) size (λ t. t) 0) (sym is)
    (record {
      forth = λ t e. subst (λ (u : clean.Term). Tree program positions next [] u) (sym e) (lowering.no_rules positions next f op);
      converse = λ t h. (t, tree_one program positions next [] t (failure f) h (lowering.no_rules positions next f op), refl);
      more = λ t. omega arith;
    })

pub failing_cases : (program : Program) (mode : Mode) (positions : List ℕ) (next : ℕ) (whole : List Row) (f : FunId) → whole ≡ []
    → IsOperation program prim.Failed f
    → Node (λ (t : clean.Term). t ≡ failure f) size (Distinguishes program mode positions next whole) size (λ t. t) 0
failing_cases program mode positions next whole f is op =
    subst (λ (rs : List Row). Node (λ (t : clean.Term). t ≡ failure f) size (Distinguishes program mode positions next rs) size (λ t. t) 0) (sym is)
    (record {
      forth = λ t e. subst (λ (u : clean.Term). Distinguishes program mode positions next [] u) (sym e) (lowering.no_alternatives mode positions next f op);
      converse = λ t h. (t, distinguishes_one program mode positions next [] t (failure f) h (lowering.no_alternatives mode positions next f op), refl);
      more = λ t. omega arith;
    })

-- ---- case distinctions of terms

pub cases_less : (rows one : List code.Row) (names : Names) (position : ℕ) (alternatives : clean.Alternatives) → one ≡ rows
    → all_rows rows ≡ rows_of names position alternatives → rows_weight (all_rows one) ≤ alternatives_weight alternatives
cases_less rows one names position alternatives same e =
    let less = alternatives_lighter names position alternatives in
    let is = ap rows_weight (ap all_rows same ∙ e) in
    omega arith

pub variable_case_in : (program : Program) (scope : Scope) (mode : Mode) (x n : ℕ) (s : clean.Term) (alternatives : clean.Alternatives) (rows one : List code.Row)
    → s ≡ clean.Variable x → n ≡ name_of (names_of scope.names.now) x → all_rows rows ≡ rows_of (names_of scope.names.now) n alternatives → one ≡ rows
    → Node (Distinguishes program mode (n ∷ []) scope.next (all_rows one)) size (TermLowers program scope (clean.Case mode s alternatives)) size (λ t. t) 0
variable_case_in program scope mode x n s alternatives rows one is named e same =
    let names = names_of scope.names.now in
    let whole = ap all_rows same ∙ e in
    subst (λ (u : clean.Term). Node (Distinguishes program mode (n ∷ []) scope.next (all_rows one)) size (TermLowers program scope (clean.Case mode u alternatives)) size (λ t. t) 0) (sym is)
    (subst (λ (rs : List Row). Node (Distinguishes program mode (n ∷ []) scope.next rs) size (TermLowers program scope (clean.Case mode (clean.Variable x) alternatives)) size (λ t. t) 0) (sym whole)
    (subst (λ (m : ℕ). Node (Distinguishes program mode (m ∷ []) scope.next (rows_of names m alternatives)) size (TermLowers program scope (clean.Case mode (clean.Variable x) alternatives)) size (λ t. t) 0) (sym named)
    (variable_case_node program names scope.next x mode alternatives)))

pub term_case_in : (program : Program) (scope : Scope) (mode : Mode) (next : ℕ) (s : clean.Term) (alternatives : clean.Alternatives) (rows one : List code.Row)
    → is_variable s ≡ false → next ≡ scope.next + 1 → all_rows rows ≡ rows_of (names_of scope.names.now) scope.next alternatives → one ≡ rows
    → Node (Two (TermLowers program scope s) (Distinguishes program mode (scope.next ∷ []) next (all_rows one))) both_size
    (TermLowers program scope (clean.Case mode s alternatives)) size (λ both. clean.Let scope.next both.0 both.1) 1
term_case_in program scope mode next s alternatives rows one is after e same =
    let names = names_of scope.names.now in
    let whole = ap all_rows same ∙ e in
    let follows : suc scope.next ≡ next = omega arith in
    subst (λ (rs : List Row). Node (Two (TermLowers program scope s) (Distinguishes program mode (scope.next ∷ []) next rs)) both_size
    (TermLowers program scope (clean.Case mode s alternatives)) size (λ both. clean.Let scope.next both.0 both.1) 1) (sym whole)
    (subst (λ (m : ℕ). Node (Two (TermLowers program scope s) (Distinguishes program mode (scope.next ∷ []) m (rows_of names scope.next alternatives))) both_size
    (TermLowers program scope (clean.Case mode s alternatives)) size (λ both. clean.Let scope.next both.0 both.1) 1) follows
    (term_case_node program names scope.next mode s alternatives is))

written_branches : (bs : List (Pattern × Term)) → alternatives_of bs ≡ alternatives_in (map branch_of bs)
written_branches [] = refl
written_branches (b ∷ bs) = ap (clean.MoreAlternatives (pattern_of b.0) (term_of b.1)) (written_branches bs)

pub case_written : (made mode : Mode) (b : Box Term Global) (v : Vec (Pattern × Term) Global) (x : ℕ) → made ≡ mode → b.value ≡ terms.Var x
    → term_of (terms.Case made b v) ≡ clean.Case mode (clean.Variable x) (alternatives_in (branches_of v))
case_written made mode b v x is e =
    term_of-Case made b v
    ∙ ap₂ (λ (m : Mode) (t : clean.Term). clean.Case m t (alternatives_of v.items)) is (ap term_of e ∙ term_of-Var x)
    ∙ ap (clean.Case mode (clean.Variable x)) (written_branches v.items)

-- ---- the test for a literal

pub literal_in : (program : Program) (mode : Mode) (positions xs ys new : List ℕ) (next after k position : ℕ) (equal : FunId) (l : Lit) (whole : List Row)
    (rows one others two : List code.Row) → IsMixed k whole → FirstDemands k (ALiteral l) whole → slice_get positions k ≡ Some position
    → IsOperation program prim.Equal equal → new ≡ [] → ys ≡ spliced k new positions → xs ≡ ys → after ≡ next + 0
    → all_rows rows ≡ specialize k new (goes_on true (demands_literal l)) whole → one ≡ rows
    → all_rows others ≡ filter (λ r. not_literal l (demand_at k r)) whole → two ≡ others
    → Node (Two (Distinguishes program mode xs after (all_rows one)) (Distinguishes program mode positions next (all_rows two))) both_size
    (Distinguishes program mode positions next whole) size (λ both. literal_case program equal position l both.0 both.1) 4
literal_in program mode positions xs ys new next after k position equal l [] rows one others two h d there op none places same later e f g i = absurd h
literal_in program mode positions xs ys new next after k position equal l (row ∷ all) rows one others two h d there op none places same later e f g i =
    literal_node program mode positions xs next after k position equal l row all (row ∷ all) (all_rows one) (all_rows two) refl
    (same ∙ places ∙ ap (λ (zs : List ℕ). spliced k zs positions) none) later
    (ap all_rows f ∙ e ∙ ap (λ (zs : List ℕ). specialize k zs (goes_on true (demands_literal l)) (row ∷ all)) none) (ap all_rows i ∙ g) h.0 there h.1 d op

pub other_literals_less : (whole : List Row) (one made : List code.Row) (k : ℕ) (l : Lit) → FirstDemands k (ALiteral l) whole → one ≡ made
    → all_rows made ≡ filter (λ r. not_literal l (demand_at k r)) whole → rows_weight (all_rows one) < rows_weight whole
other_literals_less [] one made k l d same e = absurd d
other_literals_less (row ∷ rows) one made k l d same e =
    let less = not_literal_lighter row rows k l d in let is = ap rows_weight (ap all_rows same ∙ e) in omega arith
