-- What rows are lowered to, node by node.
use Rattle.std.proofs.Common.{◌≡◌, ℕ, ◌+◌, Bool, true, false, not, ◌||◌, ◌&&◌, cond, List, [], ◌∷◌, filter, map, append-nil, Option, None, Some, slice_get, refl, ap, ap₂, sym, ◌∙◌, subst, arith}
use Rattle.std.specs.List.{list_any}
use Rattle.cu_calculus.specs.declared.ConId.{ConId}
use Rattle.cu_calculus.specs.declared.FunId.{FunId}
use Rattle.cu_calculus.specs.declared.Lit.{Lit}
use Rattle.cu_calculus.specs.declared.Mode.TheVariants.{Flex}
use Rattle.cu_calculus.specs.declared.Mode.{Mode}
use Rattle.cu_calculus.specs.declared.builtin.Primitive.TheVariants as prim
use Rattle.cu_calculus.specs.Choose.{ALiteral, AConstructor, Demand, leftmost, not_literal, spliced, demands_constructor, demands_literal, demands_nothing}
use Rattle.cu_calculus.specs.Program.{Program}
use Rattle.cu_calculus.specs.Term as clean
use Rattle.cu_deftree.specs.Inside.RowsOf.{all_rows, choices, demands_choice}
use Rattle.cu_deftree.specs.Inside.Tasks.{BranchLowers, CaseLowers, Each, MatrixLowers, OpenedLower, RowsLower, alternatives_in, both_size, branch_pattern, branch_size, mode_of, opened_count, total}
use Rattle.cu_deftree.specs.LoweredProgram.{branch_sizes, size}
use Rattle.cu_deftree.specs.Lowering as lowering
use Rattle.cu_deftree.specs.Lowering.{Branches, Cases, Distinguishes, IsOperation, Lowers, Tree, goes_on, literal_case, variables}
use Rattle.cu_deftree.specs.Rows.{Row, constructor_arity, constructors_at, demand_at, demanded_by_all, demands, literals_at, numbers, siblings, specialize, specialized}
use Rattle.cu_deftree.specs.declared.patterns.Choice.TheVariants as choice
use Rattle.cu_deftree.specs.declared.patterns.Choice.{Choice}
use Rattle.cu_deftree.specs.declared.tasks.Manner.TheVariants as manner
use Rattle.cu_deftree.specs.declared.tasks.Manner.{Manner}
use Rattle.cu_deftree.specs.declared.tasks.Matrix.{Matrix}
use Rattle.cu_deftree.proofs.Nodes.{Two}
use Rattle.cu_deftree.proofs.OneTree.{distinguishes_one, operation_one, tree_one}
use Rattle.cu_deftree.proofs.Passing.{Node}
use Rattle.cu_deftree.proofs.TreeViews.{all_demanded, branches_converse, by_constructor, by_literal, cases_converse, first_taken, tree_case, tree_overlap, tree_rule, tree_split}

-- ---- tests

filter_same : (p q : Row → Bool) → ((r : Row) → p r ≡ q r) → (rows : List Row) → filter p rows ≡ filter q rows
filter_same p q h [] = refl
filter_same p q h (r ∷ rows) =
    ap (λ (b : Bool). cond b (r ∷ filter p rows) (filter p rows)) (h r) ∙ ap (λ (rs : List Row). cond (q r) (r ∷ rs) rs) (filter_same p q h rows)

or_none : (a b : Bool) → (a || (false && b)) ≡ a
or_none true b = refl
or_none false b = refl

pub plain : (k : ℕ) (new : List ℕ) (test : Demand → Bool) (rows : List Row) → specialize k new (goes_on false test) rows ≡ specialize k new test rows
plain k new test rows =
    ap (map (specialized k new)) (filter_same (λ r. goes_on false test (demand_at k r)) (λ r. test (demand_at k r)) (λ r. or_none (test (demand_at k r)) (demands_nothing (demand_at k r))) rows)

no_more : (n : ℕ) → n + 0 ≡ n
no_more n = omega arith

-- ---- branches in a list

abbrev EachBranch : Program → Manner → Bool → Matrix → ℕ → List ConId → List Lit → List (clean.Pattern × clean.Term) → Type 0
EachBranch program m v matrix k cs ls bs = Each (BranchLowers program m v matrix k) (choices cs ls) bs

cases_forth : (program : Program) (mode : Mode) (v : Bool) (matrix : Matrix) (k : ℕ) (cs : List ConId) (ls : List Lit) (bs : List (clean.Pattern × clean.Term))
    → EachBranch program (manner.Alternatives mode) v matrix k cs ls bs
    → Cases program mode v matrix.positions.now matrix.next k (all_rows matrix.rows.now) cs ls (alternatives_in bs)
cases_forth program mode v matrix k [] [] bs h =
    subst (λ (xs : List (clean.Pattern × clean.Term)). Cases program mode v matrix.positions.now matrix.next k (all_rows matrix.rows.now) [] [] (alternatives_in xs)) (sym h)
    (lowering.no_case mode v matrix.positions.now matrix.next k (all_rows matrix.rows.now))
cases_forth program mode v matrix k [] (l ∷ ls) bs h =
    let positions = matrix.positions.now in
    let rows = all_rows matrix.rows.now in
    subst (λ (a : clean.Alternatives). Cases program mode v positions matrix.next k rows [] (l ∷ ls) a)
    (ap (λ (p : clean.Pattern). clean.MoreAlternatives p h.0.1 (alternatives_in h.1)) (sym h.2.0) ∙ sym (ap alternatives_in h.4))
    (lowering.literal_of_case mode v positions matrix.next k rows l ls h.0.1 (alternatives_in h.1)
    (subst (λ (n : ℕ). Distinguishes program mode (spliced k [] positions) n (specialize k [] (goes_on v (demands_literal l)) rows) h.0.1) (no_more matrix.next) h.2.1)
    (cases_forth program mode v matrix k [] ls h.1 h.3))
cases_forth program mode v matrix k (c ∷ cs) ls bs h =
    let positions = matrix.positions.now in
    let rows = all_rows matrix.rows.now in
    let n = constructor_arity program c in
    subst (λ (a : clean.Alternatives). Cases program mode v positions matrix.next k rows (c ∷ cs) ls a)
    (ap (λ (p : clean.Pattern). clean.MoreAlternatives p h.0.1 (alternatives_in h.1)) (sym h.2.0) ∙ sym (ap alternatives_in h.4))
    (lowering.constructor_case mode v positions matrix.next k n (numbers matrix.next n) rows c cs ls h.0.1 (alternatives_in h.1) refl refl h.2.1
    (cases_forth program mode v matrix k cs ls h.1 h.3))

abbrev Spelled : Program → Manner → Bool → Matrix → ℕ → List ConId → List Lit → clean.Alternatives → Type 0
Spelled program m v matrix k cs ls a =
    (bs : List (clean.Pattern × clean.Term)) × EachBranch program m v matrix k cs ls bs × (a ≡ alternatives_in bs)

cases_spelled : (program : Program) (mode : Mode) (v : Bool) (matrix : Matrix) (k : ℕ) (cs : List ConId) (ls : List Lit) (a : clean.Alternatives)
    → Cases program mode v matrix.positions.now matrix.next k (all_rows matrix.rows.now) cs ls a
    → Spelled program (manner.Alternatives mode) v matrix k cs ls a
cases_spelled program mode v matrix k [] [] a h =
    ([], refl, cases_converse program mode v matrix.positions.now matrix.next k (all_rows matrix.rows.now) [] [] a h)
cases_spelled program mode v matrix k [] (l ∷ ls) a h =
    let positions = matrix.positions.now in
    let rows = all_rows matrix.rows.now in
    let b = cases_converse program mode v positions matrix.next k rows [] (l ∷ ls) a h in
    let rest = cases_spelled program mode v matrix k [] ls b.1 b.3 in
    let low = subst (λ (n : ℕ). Distinguishes program mode (spliced k [] positions) n (specialize k [] (goes_on v (demands_literal l)) rows) b.0) (sym (no_more matrix.next)) b.2 in (
      (clean.Exactly l, b.0) ∷ rest.0,
      ((clean.Exactly l, b.0), rest.0, (refl, low), rest.1, refl),
      b.4 ∙ ap (clean.MoreAlternatives (clean.Exactly l) b.0) rest.2,
    )
cases_spelled program mode v matrix k (c ∷ cs) ls a h =
    let b = cases_converse program mode v matrix.positions.now matrix.next k (all_rows matrix.rows.now) (c ∷ cs) ls a h in
    let rest = cases_spelled program mode v matrix k cs ls b.1 b.3 in
    let p = clean.Built c (variables (numbers matrix.next (constructor_arity program c))) in
    ((p, b.0) ∷ rest.0, ((p, b.0), rest.0, (refl, b.2), rest.1, refl), b.4 ∙ ap (clean.MoreAlternatives p b.0) rest.2)

branches_forth : (program : Program) (matrix : Matrix) (k : ℕ) (cs : List ConId) (ls : List Lit) (bs : List (clean.Pattern × clean.Term))
    → EachBranch program manner.Rules false matrix k cs ls bs
    → Branches program matrix.positions.now matrix.next k (all_rows matrix.rows.now) cs ls (alternatives_in bs)
branches_forth program matrix k [] [] bs h =
    subst (λ (xs : List (clean.Pattern × clean.Term)). Branches program matrix.positions.now matrix.next k (all_rows matrix.rows.now) [] [] (alternatives_in xs)) (sym h)
    (lowering.no_branch matrix.positions.now matrix.next k (all_rows matrix.rows.now))
branches_forth program matrix k [] (l ∷ ls) bs h =
    let positions = matrix.positions.now in
    let rows = all_rows matrix.rows.now in
    subst (λ (a : clean.Alternatives). Branches program positions matrix.next k rows [] (l ∷ ls) a)
    (ap (λ (p : clean.Pattern). clean.MoreAlternatives p h.0.1 (alternatives_in h.1)) (sym h.2.0) ∙ sym (ap alternatives_in h.4))
    (lowering.literal_branch positions matrix.next k rows l ls h.0.1 (alternatives_in h.1)
    (subst (λ (rs : List Row). Tree program (spliced k [] positions) matrix.next rs h.0.1) (plain k [] (demands_literal l) rows)
    (subst (λ (n : ℕ). Tree program (spliced k [] positions) n (specialize k [] (goes_on false (demands_literal l)) rows) h.0.1) (no_more matrix.next) h.2.1))
    (branches_forth program matrix k [] ls h.1 h.3))
branches_forth program matrix k (c ∷ cs) ls bs h =
    let positions = matrix.positions.now in
    let rows = all_rows matrix.rows.now in
    let n = constructor_arity program c in
    subst (λ (a : clean.Alternatives). Branches program positions matrix.next k rows (c ∷ cs) ls a)
    (ap (λ (p : clean.Pattern). clean.MoreAlternatives p h.0.1 (alternatives_in h.1)) (sym h.2.0) ∙ sym (ap alternatives_in h.4))
    (lowering.constructor_branch positions matrix.next k n (numbers matrix.next n) rows c cs ls h.0.1 (alternatives_in h.1) refl refl
    (subst (λ (rs : List Row). Tree program (spliced k (numbers matrix.next n) positions) (matrix.next + n) rs h.0.1) (plain k (numbers matrix.next n) (demands_constructor c) rows) h.2.1)
    (branches_forth program matrix k cs ls h.1 h.3))

branches_spelled : (program : Program) (matrix : Matrix) (k : ℕ) (cs : List ConId) (ls : List Lit) (a : clean.Alternatives)
    → Branches program matrix.positions.now matrix.next k (all_rows matrix.rows.now) cs ls a
    → Spelled program manner.Rules false matrix k cs ls a
branches_spelled program matrix k [] [] a h =
    ([], refl, branches_converse program matrix.positions.now matrix.next k (all_rows matrix.rows.now) [] [] a h)
branches_spelled program matrix k [] (l ∷ ls) a h =
    let positions = matrix.positions.now in
    let rows = all_rows matrix.rows.now in
    let b = branches_converse program positions matrix.next k rows [] (l ∷ ls) a h in
    let rest = branches_spelled program matrix k [] ls b.1 b.3 in
    let low = subst (λ (n : ℕ). Tree program (spliced k [] positions) n (specialize k [] (goes_on false (demands_literal l)) rows) b.0) (sym (no_more matrix.next))
    (subst (λ (rs : List Row). Tree program (spliced k [] positions) matrix.next rs b.0) (sym (plain k [] (demands_literal l) rows)) b.2) in (
      (clean.Exactly l, b.0) ∷ rest.0,
      ((clean.Exactly l, b.0), rest.0, (refl, low), rest.1, refl),
      b.4 ∙ ap (clean.MoreAlternatives (clean.Exactly l) b.0) rest.2,
    )
branches_spelled program matrix k (c ∷ cs) ls a h =
    let positions = matrix.positions.now in
    let rows = all_rows matrix.rows.now in
    let n = constructor_arity program c in
    let b = branches_converse program positions matrix.next k rows (c ∷ cs) ls a h in
    let rest = branches_spelled program matrix k cs ls b.1 b.3 in
    let p = clean.Built c (variables (numbers matrix.next n)) in
    let low = subst (λ (rs : List Row). Tree program (spliced k (numbers matrix.next n) positions) (matrix.next + n) rs b.0) (sym (plain k (numbers matrix.next n) (demands_constructor c) rows)) b.2 in
    ((p, b.0) ∷ rest.0, ((p, b.0), rest.0, (refl, low), rest.1, refl), b.4 ∙ ap (clean.MoreAlternatives p b.0) rest.2)

-- ---- one result

pub rows_one : (program : Program) (m : Manner) (positions : List ℕ) (next : ℕ) (rows : List Row) (t u : clean.Term)
    → RowsLower program m positions next rows t → RowsLower program m positions next rows u → t ≡ u
rows_one program manner.Rules positions next rows t u p q = tree_one program positions next rows t u p q
rows_one program (manner.Alternatives mode) positions next rows t u p q = distinguishes_one program mode positions next rows t u p q

pub branch_one : (program : Program) (m : Manner) (v : Bool) (matrix : Matrix) (k : ℕ) (c : Choice) (a b : clean.Pattern × clean.Term)
    → BranchLowers program m v matrix k c a → BranchLowers program m v matrix k c b → b ≡ a
branch_one program m v matrix k c a b p q =
    let n = opened_count program c in
    let new = numbers matrix.next n in
    let same = rows_one program m (spliced k new matrix.positions.now) (matrix.next + n) (specialize k new (goes_on v (demands_choice c)) (all_rows matrix.rows.now)) b.1 a.1 q.1 p.1 in
    ap₂ (λ (x : clean.Pattern) (y : clean.Term). (x, y)) (q.0 ∙ sym p.0) same

-- ---- nodes

pub branch_node : (program : Program) (m : Manner) (v : Bool) (matrix : Matrix) (k : ℕ) (c : Choice)
    → Node (OpenedLower program m v matrix k c (numbers matrix.next (opened_count program c)) (opened_count program c)) size
    (BranchLowers program m v matrix k c) branch_size (λ t. (branch_pattern c (numbers matrix.next (opened_count program c)), t)) 0
branch_node program m v matrix k c = record {
  forth = λ t h. (refl, h);
  converse = λ b h. (b.1, h.1, ap (λ (p : clean.Pattern). (p, b.1)) h.0);
  more = λ t. omega arith;
}

total_branches : (bs : List (clean.Pattern × clean.Term)) → branch_sizes (alternatives_in bs) ≡ total branch_size bs
total_branches [] = refl
total_branches (b ∷ bs) = ap (λ (n : ℕ). size b.1 + n) (total_branches bs)

pub case_node : (program : Program) (m : Manner) (v : Bool) (matrix : Matrix) (k : ℕ) (cs : List Choice) (position : ℕ)
    → slice_get matrix.positions.now k ≡ Some position
    → Node (Each (BranchLowers program m v matrix k) cs) (total branch_size) (CaseLowers program m v matrix k cs) size
    (λ bs. clean.Case (mode_of m) (clean.Variable position) (alternatives_in bs)) 2
case_node program m v matrix k cs position there = record {
  forth = λ bs each. record { position = position; branches = bs; there = there; each = each; is = refl };
  converse = λ t h.
      let same : h.position ≡ position = one_position (slice_get matrix.positions.now k) h.position position h.there there in
      (h.branches, h.each, h.is ∙ ap (λ (x : ℕ). clean.Case (mode_of m) (clean.Variable x) (alternatives_in h.branches)) same);
  more = λ bs. let sum = total_branches bs in omega arith;
}
  where
    one_position : (found : Option ℕ) (x y : ℕ) → found ≡ Some x → found ≡ Some y → x ≡ y
    one_position found x y e f = cc

-- rows as a case distinction
abbrev pub AsCase : Program → Manner → Bool → Matrix → ℕ → List Choice → Type 0
AsCase program m v matrix k cs = Node (CaseLowers program m v matrix k cs) size (MatrixLowers program m matrix) size (λ t. t) 0

pub tree_as_case : (program : Program) (matrix : Matrix) (k : ℕ) (row : Row) (rows : List Row) → all_rows matrix.rows.now ≡ row ∷ rows
    → demanded_by_all (row ∷ rows) ≡ Some k
    → AsCase program manner.Rules false matrix k (choices (constructors_at program k (all_rows matrix.rows.now)) (literals_at k (all_rows matrix.rows.now)))
tree_as_case program matrix k row rows is f =
    let all = all_rows matrix.rows.now in
    let positions = matrix.positions.now in
    record {
      forth = λ t h.
          let branches = branches_forth program matrix k (constructors_at program k all) (literals_at k all) h.branches h.each in
          let moved = subst (λ (rs : List Row). Branches program positions matrix.next k rs (constructors_at program k rs) (literals_at k rs) (alternatives_in h.branches)) is branches in
          subst (λ (rs : List Row). Tree program positions matrix.next rs t) (sym is)
          (subst (λ (u : clean.Term). Tree program positions matrix.next (row ∷ rows) u) (sym h.is)
          (lowering.branch positions matrix.next k h.position row rows (alternatives_in h.branches) f h.there moved));
      converse = λ t h.
          let view = tree_case program positions matrix.next row rows k t f (subst (λ (rs : List Row). Tree program positions matrix.next rs t) is h) in
          let branches = subst (λ (rs : List Row). Branches program positions matrix.next k rs (constructors_at program k rs) (literals_at k rs) view.1) (sym is) view.3 in
          let bs = branches_spelled program matrix k (constructors_at program k all) (literals_at k all) view.1 branches in
          (t, record { position = view.0; branches = bs.0; there = view.2; each = bs.1; is = view.4 ∙ ap (clean.Case Flex (clean.Variable view.0)) bs.2 }, refl);
      more = λ t. omega arith;
    }

pub all_as_case : (program : Program) (mode : Mode) (matrix : Matrix) (k : ℕ) (row : Row) (rows : List Row) → all_rows matrix.rows.now ≡ row ∷ rows
    → leftmost row.patterns ≡ Some k → list_any (λ other. not (demands k other)) (row ∷ rows) ≡ false
    → AsCase program (manner.Alternatives mode) false matrix k (choices (constructors_at program k (all_rows matrix.rows.now)) (literals_at k (all_rows matrix.rows.now)))
all_as_case program mode matrix k row rows is f g =
    let all = all_rows matrix.rows.now in
    let positions = matrix.positions.now in
    record {
      forth = λ t h.
          let cases = cases_forth program mode false matrix k (constructors_at program k all) (literals_at k all) h.branches h.each in
          let moved = subst (λ (rs : List Row). Cases program mode false positions matrix.next k rs (constructors_at program k rs) (literals_at k rs) (alternatives_in h.branches)) is cases in
          subst (λ (rs : List Row). Distinguishes program mode positions matrix.next rs t) (sym is)
          (subst (λ (u : clean.Term). Distinguishes program mode positions matrix.next (row ∷ rows) u) (sym h.is)
          (lowering.all_demand mode positions matrix.next k h.position row rows (alternatives_in h.branches) f h.there g moved));
      converse = λ t h.
          let view = all_demanded program mode positions matrix.next row rows k t f g (subst (λ (rs : List Row). Distinguishes program mode positions matrix.next rs t) is h) in
          let cases = subst (λ (rs : List Row). Cases program mode false positions matrix.next k rs (constructors_at program k rs) (literals_at k rs) view.1) (sym is) view.3 in
          let bs = cases_spelled program mode false matrix k (constructors_at program k all) (literals_at k all) view.1 cases in
          (t, record { position = view.0; branches = bs.0; there = view.2; each = bs.1; is = view.4 ∙ ap (clean.Case mode (clean.Variable view.0)) bs.2 }, refl);
      more = λ t. omega arith;
    }

constructors_alone : (cs : List ConId) → choices cs [] ≡ map choice.Constructor cs
constructors_alone cs = append-nil (map choice.Constructor cs)

pub first_as_case : (program : Program) (mode : Mode) (matrix : Matrix) (k : ℕ) (c : ConId) (row : Row) (rows : List Row) → all_rows matrix.rows.now ≡ row ∷ rows
    → leftmost row.patterns ≡ Some k → list_any (λ other. not (demands k other)) (row ∷ rows) ≡ true → demand_at k row ≡ AConstructor c
    → AsCase program (manner.Alternatives mode) true matrix k (map choice.Constructor (siblings program c))
first_as_case program mode matrix k c row rows is f g d =
    let all = all_rows matrix.rows.now in
    let positions = matrix.positions.now in
    subst (λ (cs : List Choice). AsCase program (manner.Alternatives mode) true matrix k cs) (constructors_alone (siblings program c))
    (record {
      forth = λ t h.
          let cases = cases_forth program mode true matrix k (siblings program c) [] h.branches h.each in
          let moved = subst (λ (rs : List Row). Cases program mode true positions matrix.next k rs (siblings program c) [] (alternatives_in h.branches)) is cases in
          subst (λ (rs : List Row). Distinguishes program mode positions matrix.next rs t) (sym is)
          (subst (λ (u : clean.Term). Distinguishes program mode positions matrix.next (row ∷ rows) u) (sym h.is)
          (lowering.first_constructor mode positions matrix.next k h.position c row rows (alternatives_in h.branches) f h.there g d moved));
      converse = λ t h.
          let view = by_constructor program mode positions matrix.next row rows k c t f g d (subst (λ (rs : List Row). Distinguishes program mode positions matrix.next rs t) is h) in
          let cases = subst (λ (rs : List Row). Cases program mode true positions matrix.next k rs (siblings program c) [] view.1) (sym is) view.3 in
          let bs = cases_spelled program mode true matrix k (siblings program c) [] view.1 cases in
          (t, record { position = view.0; branches = bs.0; there = view.2; each = bs.1; is = view.4 ∙ ap (clean.Case mode (clean.Variable view.0)) bs.2 }, refl);
      more = λ t. omega arith;
    })

-- ---- other rows

pub rule_node : (program : Program) (positions : List ℕ) (next : ℕ) (row : Row) (whole : List Row) → whole ≡ row ∷ [] → leftmost row.patterns ≡ None
    → Node (Lowers program row.names next row.body) size (Tree program positions next whole) size (λ t. t) 0
rule_node program positions next row whole is e =
    subst (λ (rs : List Row). Node (Lowers program row.names next row.body) size (Tree program positions next rs) size (λ t. t) 0) (sym is)
    (record {
      forth = λ t h. lowering.rule positions next row t e h;
      converse = λ t h. (t, tree_rule program positions next row t e h, refl);
      more = λ t. omega arith;
    })

pub overlap_node : (program : Program) (positions : List ℕ) (next : ℕ) (row other : Row) (rows whole rest : List Row) → whole ≡ row ∷ other ∷ rows
    → rest ≡ other ∷ rows → leftmost row.patterns ≡ None
    → Node (Two (Lowers program row.names next row.body) (Tree program positions next rest)) both_size (Tree program positions next whole) size
    (λ both. clean.Or both.0 both.1) 1
overlap_node program positions next row other rows whole rest is same e =
    subst (λ (rs : List Row). Node (Two (Lowers program row.names next row.body) (Tree program positions next rest)) both_size (Tree program positions next rs) size
    (λ both. clean.Or both.0 both.1) 1) (sym is)
    (subst (λ (rs : List Row). Node (Two (Lowers program row.names next row.body) (Tree program positions next rs)) both_size
    (Tree program positions next (row ∷ other ∷ rows)) size (λ both. clean.Or both.0 both.1) 1) (sym same)
    (record {
      forth = λ both h. lowering.overlap positions next row other rows both.0 both.1 e h.0 h.1;
      converse = λ t h. let v = tree_overlap program positions next row other rows t e h in ((v.0, v.1), (v.2, v.3), v.4);
      more = λ both. omega arith;
    }))

pub split_node : (program : Program) (positions : List ℕ) (next k : ℕ) (row : Row) (rows whole first second : List Row) → whole ≡ row ∷ rows
    → first ≡ filter (demands k) whole → second ≡ filter (λ other. not (demands k other)) whole
    → leftmost row.patterns ≡ Some k → demanded_by_all (row ∷ rows) ≡ None
    → Node (Two (Tree program positions next first) (Tree program positions next second)) both_size (Tree program positions next whole) size
    (λ both. clean.Or both.0 both.1) 1
split_node program positions next k row rows whole first second is one two e f = record {
  forth = λ both h.
      let a = subst (λ (rs : List Row). Tree program positions next rs both.0) (one ∙ ap (filter (demands k)) is) h.0 in
      let b = subst (λ (rs : List Row). Tree program positions next rs both.1) (two ∙ ap (filter (λ other. not (demands k other))) is) h.1 in
      subst (λ (rs : List Row). Tree program positions next rs (clean.Or both.0 both.1)) (sym is)
      (lowering.split positions next k row rows both.0 both.1 f e a b);
  converse = λ t h.
      let v = tree_split program positions next row rows k t e f (subst (λ (rs : List Row). Tree program positions next rs t) is h) in
      let a = subst (λ (rs : List Row). Tree program positions next rs v.0) (sym (one ∙ ap (filter (demands k)) is)) v.2 in
      let b = subst (λ (rs : List Row). Tree program positions next rs v.1) (sym (two ∙ ap (filter (λ other. not (demands k other))) is)) v.3 in
      ((v.0, v.1), (a, b), v.4);
  more = λ both. omega arith;
}

pub taken_node : (program : Program) (mode : Mode) (positions : List ℕ) (next : ℕ) (row : Row) (rows whole : List Row) → whole ≡ row ∷ rows
    → leftmost row.patterns ≡ None
    → Node (Lowers program row.names next row.body) size (Distinguishes program mode positions next whole) size (λ t. t) 0
taken_node program mode positions next row rows whole is e =
    subst (λ (rs : List Row). Node (Lowers program row.names next row.body) size (Distinguishes program mode positions next rs) size (λ t. t) 0) (sym is)
    (record {
      forth = λ t h. lowering.taken mode positions next row rows t e h;
      converse = λ t h. (t, first_taken program mode positions next row rows t e h, refl);
      more = λ t. omega arith;
    })

pub literal_node : (program : Program) (mode : Mode) (positions opened : List ℕ) (next after k position : ℕ) (equal : FunId) (l : Lit) (row : Row)
    (rows whole first second : List Row) → whole ≡ row ∷ rows → opened ≡ spliced k [] positions → after ≡ next + 0
    → first ≡ specialize k [] (goes_on true (demands_literal l)) whole → second ≡ filter (λ one. not_literal l (demand_at k one)) whole
    → leftmost row.patterns ≡ Some k → slice_get positions k ≡ Some position → list_any (λ one. not (demands k one)) (row ∷ rows) ≡ true
    → demand_at k row ≡ ALiteral l → IsOperation program prim.Equal equal
    → Node (Two (Distinguishes program mode opened after first) (Distinguishes program mode positions next second)) both_size
    (Distinguishes program mode positions next whole) size (λ both. literal_case program equal position l both.0 both.1) 4
literal_node program mode positions opened next after k position equal l row rows whole first second is places later one two e there some d op =
    let follows = later ∙ no_more next in
    let test = goes_on true (demands_literal l) in
    let keep = λ (r : Row). not_literal l (demand_at k r) in
    let begun = one ∙ ap (specialize k [] test) is in
    let rest = two ∙ ap (filter keep) is in
    record {
      forth = λ both h.
          let a = subst (λ (rs : List Row). Distinguishes program mode (spliced k [] positions) next rs both.0) begun
          (subst (λ (n : ℕ). Distinguishes program mode (spliced k [] positions) n first both.0) follows
          (subst (λ (xs : List ℕ). Distinguishes program mode xs after first both.0) places h.0)) in
          let b = subst (λ (rs : List Row). Distinguishes program mode positions next rs both.1) rest h.1 in
          subst (λ (rs : List Row). Distinguishes program mode positions next rs (literal_case program equal position l both.0 both.1)) (sym is)
          (lowering.first_literal mode positions next k position equal l row rows both.0 both.1 e there some d op a b);
      converse = λ t h.
          let v = by_literal program mode positions next row rows k l t e some d (subst (λ (rs : List Row). Distinguishes program mode positions next rs t) is h) in
          let a = subst (λ (xs : List ℕ). Distinguishes program mode xs after first v.2) (sym places)
          (subst (λ (n : ℕ). Distinguishes program mode (spliced k [] positions) n first v.2) (sym follows)
          (subst (λ (rs : List Row). Distinguishes program mode (spliced k [] positions) next rs v.2) (sym begun) v.6)) in
          let b = subst (λ (rs : List Row). Distinguishes program mode positions next rs v.3) (sym rest) v.7 in (
            (v.2, v.3),
            (a, b),
            v.8 ∙ same_test v.1 equal v.0 position v.2 v.3 (operation_one program prim.Equal v.1 equal v.5 op)
                (same_place (slice_get positions k) v.0 position v.4 there),
          );
      more = λ both. omega arith;
    }
  where
    same_place : (found : Option ℕ) (x y : ℕ) → found ≡ Some x → found ≡ Some y → x ≡ y
    same_place found x y f g = cc

    same_test : (f g : FunId) (x y : ℕ) (a b : clean.Term) → f ≡ g → x ≡ y → literal_case program f x l a b ≡ literal_case program g y l a b
    same_test f g x y a b p q = ap₂ (λ (h : FunId) (z : ℕ). literal_case program h z l a b) p q
