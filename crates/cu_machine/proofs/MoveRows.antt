-- Each graph that a move gives comes by a row, where the node has its arguments and the heads that
-- the row looks at are there.
use Rattle.std.proofs.Common.{◌≡◌, ◌≢◌, ℕ, suc, ◌+◌, ◌<◌, ◌≤◌, inl, inr, Bool, true, false, ◌&&◌, ◌||◌, List, [], ◌∷◌, ◌++◌, Option, None, Some, if◌then◌else◌, refl, ap, ap₂, sym, ◌∙◌, subst, true≢false, length, map, nat_eq, nat_lt, ℤ, pos, negsuc, arith, lt-ltb, ltb-false, ltb-true, eq-eqb, eqb-true, length-append}
use Rattle.std.specs.List.{list_all, zip}
use Rattle.std.specs.Ordering.{int_eq}
use Rattle.std.specs.Prelude.{◌+ℤ◌, ◌-ℤ◌, ◌*ℤ◌, int_lt, int_le}
use Rattle.cu_calculus.specs.declared.ConId.{ConId}
use Rattle.cu_calculus.specs.declared.FunId.{FunId}
use Rattle.cu_calculus.specs.declared.Head.{Head}
use Rattle.cu_calculus.specs.declared.Lit.{Lit}
use Rattle.cu_calculus.specs.declared.Lit.TheVariants.{Char, Int}
use Rattle.cu_calculus.specs.declared.Mode.{Mode}
use Rattle.cu_calculus.specs.declared.Mode.TheVariants.{Flex, Rigid}
use Rattle.cu_calculus.specs.declared.builtin.Primitive.{Primitive}
use Rattle.cu_calculus.specs.declared.builtin.Primitive.TheVariants as prim
use Rattle.cu_int.specs.Integers.{floor_quotient, floor_rest}
use Rattle.cu_calculus.specs.Code as code
use Rattle.cu_calculus.specs.Code.{Body, Branch, Code, Expr, arity_of, body_of, expr_of, function_arity}
use Rattle.cu_int.specs.Integers.{is_integer}
use Rattle.cu_calculus.specs.Literal.{is_scalar, same_literal}
use Rattle.cu_calculus.specs.Match.{same_constructor}
use Rattle.cu_calculus.specs.Shape.{are_data, takes_more}
use Rattle.cu_calculus.specs.Value.{values_of}
use Rattle.cu_calculus.specs.WellFormed.{bound_by, is_allowed, same_mode}
use Rattle.cu_machine.specs.declared.Kind.{Kind}
use Rattle.cu_machine.specs.declared.Kind.TheVariants as kind
use Rattle.cu_machine.specs.Among.{Among}
use Rattle.cu_machine.specs.Build.{Scope, kind_of_whole, write}
use Rattle.cu_machine.specs.Graph.{Graph, Node, alone, head_at, head_of, node_at, put, renaming}
use Rattle.cu_machine.specs.Need.{At, Throughout, is_head, need_all}
use Rattle.cu_machine.specs.Rewrite.{Become, Collect, Move, Overflows, alone_follows, application_step, arithmetic_step, binding_step, bound_to, branch_for, branch_step, call_step, case_step, character_step, choice_step, comparison_step, decomposition_step, extended, failing_step, imitation_step, integer_step, is_true, literal_step, move, narrowing_step, occurs_in, operation_step, pairwise_comparison_step, pairwise_step, replacement_step, rewrite_step, scrutinee_step, set_call_step, stuck_step, takes_constructor, takes_literal, truth_step, unification_step}
use Rattle.cu_machine.specs.Spell.{spelled}
use Rattle.cu_machine.specs.State as state
use Rattle.cu_machine.specs.State.{Idle, numbers}
use Rattle.cu_machine.specs.Steps as row
use Rattle.cu_machine.specs.Steps.{CaseAt, FreeBeside, Steps, are_mixed, are_operands, divides, failing, imitating, is_on_integers, is_on_literals, is_partial, kinds_of, node, number_of, on_the_left, on_the_right, telling, test_of}
use Rattle.cu_machine.specs.Validity.{IsValid, has_arguments, is_call, is_case}
use Rattle.cu_machine.proofs.Depth.{among_map}
use Rattle.cu_machine.proofs.Equations.{node_whole}
use Rattle.cu_machine.proofs.Fuel.{left_true, right_true}
use Rattle.cu_machine.proofs.NeedPlaces.{has_bound_head, has_head, is_bound, is_ready, is_ready_for, need_at_redex}
use Rattle.cu_machine.proofs.RowMoves.{if_false}

abbrev Came : Code → Graph → ℕ → Move → Type 0
Came program graph id what = (graphs : List Graph) (after : Graph) → what ≡ Become graphs → Among after graphs → Steps program graph id after

pub not_two : (n : ℕ) → nat_eq n 2 ≡ true → n ≢ 2 → ⊥
not_two n whole other = other (eqb-true n 2 whole)

pub two_args : (args : List ℕ) → nat_eq (length args) 2 ≡ true → (a : ℕ) × (b : ℕ) × (args ≡ a ∷ b ∷ [])
two_args (a ∷ b ∷ []) whole = (a, b, refl)
two_args [] whole = absurd (not_two 0 whole (λ same. omega arith))
two_args (a ∷ []) whole = absurd (not_two 1 whole (λ same. omega arith))
two_args (a ∷ b ∷ c ∷ rest) whole = absurd (not_two (suc (suc (suc (length rest)))) whole (λ same. omega arith))

pub both_first : (a b : Bool) → (a && (b && true)) ≡ true → (a && b) ≡ true
both_first true true h = refl
both_first true false h = h
both_first false b h = h

pub two_needed : (n : ℕ) → nat_eq 2 n ≡ true → nat_eq n 2 ≡ true
two_needed n same = eq-eqb n 2 (sym (eqb-true 2 n same))

pub mode_is : (mode other : Mode) → same_mode mode other ≡ true → other ≡ mode
mode_is Rigid Rigid same = refl
mode_is Flex Flex same = refl
mode_is Rigid Flex same = let none_left : ⊥ = true≢false (sym same) in absurd none_left
mode_is Flex Rigid same = let none_left : ⊥ = true≢false (sym same) in absurd none_left

module _ (program : Code) (graph : Graph) (id : ℕ) where
  came_alone : (what : Graph) → ((after : Graph) → after ≡ what → Steps program graph id after) → Came program graph id (alone_follows what)
  came_alone what step graphs after same m =
      let is : what ∷ [] ≡ graphs = cc in
      elim (subst (λ (gs : List Graph). Among after gs) (sym is) m) [ inl here ↦ step after (sym here) | inr nowhere ↦ absurd nowhere ]

  came_if : (b : Bool) (one two : Move) → (b ≡ true → Came program graph id one) → (b ≡ false → Came program graph id two)
      → Came program graph id (if b then one else two)
  came_if true one two a c = a refl
  came_if false one two a c = c refl

  -- pairs of arguments are alone
  came_pairs : (each joint : Kind) (g : Graph) (pairs : List (ℕ × ℕ)) → ((after : Graph) → pairwise_step program.special each joint g id pairs ≡ alone_follows after → Steps program graph id after)
      → Came program graph id (pairwise_step program.special each joint g id pairs)
  came_pairs each joint g [] step graphs after same m =
      came_alone (put g id (alone (kind.Cons program.special.truth))) (λ x is. step x (ap alone_follows (sym is))) graphs after same m
  came_pairs each joint g (pair ∷ pairs) step graphs after same m =
      came_alone _ (λ x is. step x (ap alone_follows (sym is))) graphs after same m

  -- ---- calls and choices

  came_unfolded : (f : FunId) (args : List ℕ) (o : Option Body) (arity : Option ℕ) → node_at graph id ≡ node (kind.Call f) args → body_of program f ≡ o
      → is_call arity o (length args) ≡ true → Came program graph id (call_step program graph id args o)
  came_unfolded f args (Some (code.Rule params body)) arity is has whole =
      came_alone (write program (zip params args) graph id body) (λ after same. row.call f args params body is has same)
  came_unfolded f args (Some (code.External operation)) arity is has whole = let none_left : ⊥ = true≢false (sym whole) in absurd none_left
  came_unfolded f args None arity is has whole = let none_left : ⊥ = true≢false (sym whole) in absurd none_left

  came_chosen : (one two : ℕ) → node_at graph id ≡ node kind.Or (one ∷ two ∷ []) → Came program graph id (choice_step graph id (one ∷ two ∷ []))
  came_chosen one two is graphs after same m =
      let listed : put graph id (renaming one) ∷ put graph id (renaming two) ∷ [] ≡ graphs = cc in
      elim (subst (λ (gs : List Graph). Among after gs) (sym listed) m) [
        | inl here ↦ row.left one two is (sym here)
        | inr rest ↦ elim rest [ inl there ↦ row.right one two is (sym there) | inr nowhere ↦ absurd nowhere ]
      ]

  -- ---- case distinctions

  came_literal : (mode : Mode) (scrutinee : ℕ) (scope : Scope) (branches : List Branch) (l : Lit) (args : List ℕ) (o : Option Branch) → CaseAt program graph id mode scrutinee scope branches
      → head_at graph scrutinee ≡ node (kind.Lit l) args → branch_for (takes_literal l) branches ≡ o → Came program graph id (branch_step program scope graph id [] o)
  came_literal mode s scope branches l args None at head found = came_alone (failing graph id) (λ after same. row.no_literal_branch mode s scope branches l args at head found same)
  came_literal mode s scope branches l args (Some branch) at head found =
      came_alone (write program (scope ++ zip (bound_by branch.pattern) []) graph id branch.body)
      (λ after same. row.literal_branch mode s scope branches l args branch at head found same)

  came_constructor : (mode : Mode) (scrutinee : ℕ) (scope : Scope) (branches : List Branch) (c : ConId) (args : List ℕ) (o : Option Branch) → CaseAt program graph id mode scrutinee scope branches
      → head_at graph scrutinee ≡ node (kind.Cons c) args → branch_for (takes_constructor c) branches ≡ o
      → Came program graph id (branch_step program scope graph id args o)
  came_constructor mode s scope branches c args None at head found =
      came_alone (failing graph id) (λ after same. row.no_constructor_branch mode s scope branches c args at head found same)
  came_constructor mode s scope branches c args (Some branch) at head found =
      came_alone (write program (scope ++ zip (bound_by branch.pattern) args) graph id branch.body)
      (λ after same. row.constructor_branch mode s scope branches c args branch at head found same)

  came_narrows : (scrutinee : ℕ) (scope : Scope) (branches : List Branch) (args : List ℕ) → CaseAt program graph id Flex scrutinee scope branches
      → head_at graph scrutinee ≡ node kind.Free args → Came program graph id (narrowing_step graph (head_of graph scrutinee) branches)
  came_narrows s scope branches args at head graphs after same m =
      let f = λ (branch : Branch). bound_to graph (head_of graph s) branch.pattern in
      let listed : map f branches ≡ graphs = cc in
      let found = among_map f after branches (subst (λ (gs : List Graph). Among after gs) (sym listed) m) in
      row.narrowing s scope branches args found.0 at head found.1 (sym found.2)

  came_distinguished : (mode : Mode) (scrutinee : ℕ) (scope : Scope) (branches : List Branch) (k : Kind) (args : List ℕ)
      → CaseAt program graph id mode scrutinee scope branches → head_at graph scrutinee ≡ node k args → is_ready_for mode k ≡ true
      → Came program graph id (scrutinee_step program scope graph id branches (head_of graph scrutinee) k args)
  came_distinguished mode s scope branches (kind.Lit l) args at head there = came_literal mode s scope branches l args (branch_for (takes_literal l) branches) at head refl
  came_distinguished mode s scope branches (kind.Cons c) args at head there = came_constructor mode s scope branches c args (branch_for (takes_constructor c) branches) at head refl
  came_distinguished mode s scope branches (kind.Part h) args at head there =
      came_alone (failing graph id) (λ after same. row.no_partial_branch mode s scope branches h args at head same)
  came_distinguished Flex s scope branches kind.Free args at head there = came_narrows s scope branches args at head
  came_distinguished Rigid s scope branches kind.Free args at head there = let none_left : ⊥ = true≢false (sym there) in absurd none_left
  came_distinguished Flex s scope branches _ args at head there = let none_left : ⊥ = true≢false (sym there) in absurd none_left
  came_distinguished Rigid s scope branches _ args at head there = let none_left : ⊥ = true≢false (sym there) in absurd none_left

  came_case : (mode : Mode) (e scrutinee : ℕ) (values : List ℕ) (o : Option Expr) → node_at graph id ≡ node (kind.Case mode e) (scrutinee ∷ values)
      → expr_of program (record { 0 = e }) ≡ o → is_case mode o (suc (length values)) ≡ true → is_ready graph (kind.Case mode e) (scrutinee ∷ values) ≡ true
      → Came program graph id (case_step program graph id scrutinee values o)
  came_case mode e scrutinee values (Some (code.Case other kept inner branches)) is has whole ready =
      let one_mode : other ≡ mode = mode_is mode other (left_true (same_mode mode other) (nat_eq (suc (length values)) (suc (length kept))) whole) in
      came_distinguished mode scrutinee (zip kept values) branches (head_at graph scrutinee).kind (head_at graph scrutinee).args
      (record {
        number = e;
        inner = inner;
        kept = kept;
        values = values;
        node_is = is;
        code_is = has ∙ ap (λ (m : Mode). Some (code.Case m kept inner branches)) one_mode;
        scope_is = refl;
      })
      refl ready
  came_case mode e scrutinee values _ is has whole ready = let none_left : ⊥ = true≢false (sym whole) in absurd none_left

  -- ---- applications

  came_extended : (function argument : ℕ) (h : Head) (args : List ℕ) (arity : ℕ) (b : Bool) → node_at graph id ≡ node kind.Apply (function ∷ argument ∷ [])
      → head_at graph function ≡ node (kind.Part h) args → arity_of program h ≡ Some arity → length args < arity → nat_lt (length (args ++ argument ∷ [])) arity ≡ b
      → Came program graph id (replacement_step graph id (if b then node (kind.Part h) (args ++ argument ∷ []) else node (kind_of_whole program h) (args ++ argument ∷ [])))
  came_extended function argument h args arity true is head has fewer less =
      came_alone (put graph id (node (kind.Part h) (args ++ argument ∷ [])))
      (λ after same. row.still_partial function argument h args arity is head has (ltb-true (length (args ++ argument ∷ [])) arity less) same)
  came_extended function argument h args arity false is head has fewer less =
      let past : arity ≤ length (args ++ argument ∷ []) = ltb-false (length (args ++ argument ∷ [])) arity less in
      let one : length (args ++ argument ∷ []) ≡ length args + 1 = length-append args (argument ∷ []) in
      let full : arity ≡ length (args ++ argument ∷ []) = omega arith in
      came_alone (put graph id (node (kind_of_whole program h) (args ++ argument ∷ [])))
      (λ after same. row.whole function argument h args is head (has ∙ ap Some full) same)

  came_partial : (function argument : ℕ) (h : Head) (args : List ℕ) (o : Option ℕ) → node_at graph id ≡ node kind.Apply (function ∷ argument ∷ [])
      → head_at graph function ≡ node (kind.Part h) args → arity_of program h ≡ o → takes_more o (length args) ≡ true
      → Came program graph id (replacement_step graph id (extended program h (args ++ argument ∷ []) o))
  came_partial function argument h args None is head has more_needed = let none_left : ⊥ = true≢false (sym more_needed) in absurd none_left
  came_partial function argument h args (Some arity) is head has more_needed =
      came_extended function argument h args arity (nat_lt (length (args ++ argument ∷ [])) arity) is head has (ltb-true (length args) arity more_needed) refl

  came_unlike_partial : (function argument : ℕ) (k : Kind) (args : List ℕ) → node_at graph id ≡ node kind.Apply (function ∷ argument ∷ [])
      → head_at graph function ≡ node k args → is_partial k ≡ false → Came program graph id (alone_follows (failing graph id))
  came_unlike_partial function argument k args is head plain =
      came_alone (failing graph id) (λ after same. row.not_applicable function argument is (ap (λ (m : Node). is_partial m.kind) head ∙ plain) same)

  came_applied : (function argument : ℕ) (k : Kind) (args : List ℕ) → node_at graph id ≡ node kind.Apply (function ∷ argument ∷ [])
      → head_at graph function ≡ node k args → has_arguments program k (length args) ≡ true → Came program graph id (application_step program graph id argument k args)
  came_applied function argument (kind.Part h) args is head whole =
      came_partial function argument h args (arity_of program h) is head refl (right_true (is_allowed program h) (takes_more (arity_of program h) (length args)) whole)
  came_applied function argument k args is head whole = came_unlike_partial function argument k args is head refl

  -- ---- operations on literals

  came_counted : (operation : Primitive) (args : List ℕ) (m n result : ℤ) → node_at graph id ≡ node (kind.Prim operation) args
      → kinds_of graph args ≡ kind.Lit (Int m) ∷ kind.Lit (Int n) ∷ [] → number_of operation m n ≡ Some result
      → Came program graph id (integer_step graph id operation m n result)
  came_counted operation args m n result is kinds has =
      came_if (is_integer result) (replacement_step graph id (alone (kind.Lit (Int result)))) (Overflows operation m n)
      (λ fit. came_alone (put graph id (alone (kind.Lit (Int result)))) (λ after same. row.number operation args m n result is kinds has fit same))
      (λ large graphs after same m. let none_left : ⊥ = cc in absurd none_left)

  came_divided : (operation : Primitive) (args : List ℕ) (m n result : ℤ) → node_at graph id ≡ node (kind.Prim operation) args
      → kinds_of graph args ≡ kind.Lit (Int m) ∷ kind.Lit (Int n) ∷ [] → divides operation ≡ true
      → number_of operation m n ≡ (if int_eq n (pos 0) then None else Some result)
      → Came program graph id (if int_eq n (pos 0) then failing_step graph id else integer_step graph id operation m n result)
  came_divided operation args m n result is kinds div has =
      came_if (int_eq n (pos 0)) (failing_step graph id) (integer_step graph id operation m n result)
      (λ zero_is. came_alone (failing graph id) (λ after same. row.division_by_zero operation args m n is kinds div zero_is same))
      (λ other. came_counted operation args m n result is kinds (has ∙ if_false (int_eq n (pos 0)) None (Some result) other))

  came_told : (operation : Primitive) (args : List ℕ) (m n : ℤ) (answer : Bool) → node_at graph id ≡ node (kind.Prim operation) args
      → kinds_of graph args ≡ kind.Lit (Int m) ∷ kind.Lit (Int n) ∷ [] → test_of operation m n ≡ Some answer → Came program graph id (truth_step program.special graph id answer)
  came_told operation args m n answer is kinds has =
      came_alone (telling program graph id answer) (λ after same. row.test operation args m n answer is kinds has same)

  came_no_operands : (operation : Primitive) (args : List ℕ) (ks : List Kind) → node_at graph id ≡ node (kind.Prim operation) args
      → is_on_literals operation ≡ true → kinds_of graph args ≡ ks → are_operands operation ks ≡ false → Came program graph id (failing_step graph id)
  came_no_operands operation args ks is on kinds unfit =
      came_alone (failing graph id) (λ after same. row.no_operands operation args is on (ap (are_operands operation) kinds ∙ unfit) same)

  came_calculated : (operation : Primitive) (args : List ℕ) (m n : ℤ) → node_at graph id ≡ node (kind.Prim operation) args → is_on_literals operation ≡ true
      → kinds_of graph args ≡ kind.Lit (Int m) ∷ kind.Lit (Int n) ∷ [] → Came program graph id (arithmetic_step program.special graph id operation m n)
  came_calculated prim.Add args m n is on kinds = came_counted prim.Add args m n (m +ℤ n) is kinds refl
  came_calculated prim.Sub args m n is on kinds = came_counted prim.Sub args m n (m -ℤ n) is kinds refl
  came_calculated prim.Mul args m n is on kinds = came_counted prim.Mul args m n (m *ℤ n) is kinds refl
  came_calculated prim.Div args m n is on kinds = came_divided prim.Div args m n (floor_quotient m n) is kinds refl refl
  came_calculated prim.Mod args m n is on kinds = came_divided prim.Mod args m n (floor_rest m n) is kinds refl refl
  came_calculated prim.Less args m n is on kinds = came_told prim.Less args m n (int_lt m n) is kinds refl
  came_calculated prim.AtMost args m n is on kinds = came_told prim.AtMost args m n (int_le m n) is kinds refl
  came_calculated prim.Greater args m n is on kinds = came_told prim.Greater args m n (int_lt n m) is kinds refl
  came_calculated prim.AtLeast args m n is on kinds = came_told prim.AtLeast args m n (int_le n m) is kinds refl
  came_calculated prim.Ord args m n is on kinds = came_no_operands prim.Ord args (kind.Lit (Int m) ∷ kind.Lit (Int n) ∷ []) is on kinds refl
  came_calculated prim.Chr args m n is on kinds = came_no_operands prim.Chr args (kind.Lit (Int m) ∷ kind.Lit (Int n) ∷ []) is on kinds refl
  came_calculated _ args m n is on kinds = let none_left : ⊥ = true≢false (sym on) in absurd none_left

  came_character : (args : List ℕ) (n : ℤ) → node_at graph id ≡ node (kind.Prim prim.Chr) args → kinds_of graph args ≡ kind.Lit (Int n) ∷ []
      → Came program graph id (character_step graph id n)
  came_character args (pos c) is kinds =
      came_if (is_scalar c) (replacement_step graph id (alone (kind.Lit (Char c)))) (failing_step graph id)
      (λ scalar. came_alone (put graph id (alone (kind.Lit (Char c)))) (λ after same. row.character args c is kinds scalar same))
      (λ other. came_alone (failing graph id) (λ after same. row.no_character args (pos c) is kinds (λ d alike. let codes_are : c ≡ d = cc in ap is_scalar (sym codes_are) ∙ other) same))
  came_character args (negsuc c) is kinds =
      came_alone (failing graph id) (λ after same. row.no_character args (negsuc c) is kinds (λ d alike. let none_left : ⊥ = cc in absurd none_left) same)

  came_computed : (operation : Primitive) (args : List ℕ) (ks : List Kind) → node_at graph id ≡ node (kind.Prim operation) args → is_on_literals operation ≡ true
      → kinds_of graph args ≡ ks → Came program graph id (literal_step program.special graph id operation ks)
  came_computed operation args (kind.Lit (Int m) ∷ kind.Lit (Int n) ∷ []) is on kinds = came_calculated operation args m n is on kinds
  came_computed prim.Ord args (kind.Lit (Char c) ∷ []) is on kinds =
      came_alone (put graph id (alone (kind.Lit (Int (pos c))))) (λ after same. row.code_point args c is kinds same)
  came_computed prim.Chr args (kind.Lit (Int n) ∷ []) is on kinds = came_character args n is kinds
  came_computed operation args ks is on kinds = came_no_operands operation args ks is on kinds refl

  -- ---- comparisons

  came_compared : (a b : ℕ) (k l : Kind) (us vs : List ℕ) → node_at graph id ≡ node (kind.Prim prim.Equal) (a ∷ b ∷ []) → head_at graph a ≡ node k us
      → head_at graph b ≡ node l vs → (is_bound k && is_bound l) ≡ true → Came program graph id (comparison_step program.special graph id k us l vs)
  came_compared a b (kind.Cons c) (kind.Cons d) us vs is one two bound =
      came_if (same_constructor c d) (pairwise_comparison_step program.special graph id (zip us vs)) (truth_step program.special graph id false)
      (λ alike. came_pairs (kind.Prim prim.Equal) (kind.Call program.special.both) graph (zip us vs) (λ after same. row.compared_alike a b c d us vs is one two alike same))
      (λ unlike. came_alone (telling program graph id false) (λ after same. row.compared_unlike a b c d us vs is one two unlike same))
  came_compared a b (kind.Lit l) (kind.Lit m) us vs is one two bound =
      came_alone (telling program graph id (same_literal l m)) (λ after same. row.compared_literals a b l m us vs is one two same)
  came_compared a b (kind.Lit l) (kind.Cons d) us vs is one two bound =
      came_alone (telling program graph id false) (λ after same. row.compared_mixed a b is (ap₂ (λ (m o : Node). are_mixed m.kind o.kind) one two) same)
  came_compared a b (kind.Cons c) (kind.Lit m) us vs is one two bound =
      came_alone (telling program graph id false) (λ after same. row.compared_mixed a b is (ap₂ (λ (m o : Node). are_mixed m.kind o.kind) one two) same)
  came_compared a b (kind.Part h) l us vs is one two bound =
      came_alone (failing graph id)
      (λ after same. row.compared_partial a b is (ap₂ (λ (m o : Node). is_partial m.kind || is_partial o.kind) one two) same)
  came_compared a b (kind.Cons c) (kind.Part h) us vs is one two bound =
      came_alone (failing graph id)
      (λ after same. row.compared_partial a b is (ap₂ (λ (m o : Node). is_partial m.kind || is_partial o.kind) one two) same)
  came_compared a b (kind.Lit l) (kind.Part h) us vs is one two bound =
      came_alone (failing graph id)
      (λ after same. row.compared_partial a b is (ap₂ (λ (m o : Node). is_partial m.kind || is_partial o.kind) one two) same)
  came_compared a b _ _ us vs is one two bound = let none_left : ⊥ = true≢false (sym bound) in absurd none_left

  -- ---- equations

  came_imitates : (a b v other : ℕ) (c : ConId) (args : List ℕ) → node_at graph id ≡ node (kind.Prim prim.Unify) (a ∷ b ∷ [])
      → FreeBeside graph a b v other (kind.Cons c) args → Came program graph id (imitation_step program.special graph id v other c args)
  came_imitates a b v other c [] is sides =
      came_alone (telling program (put graph v (renaming other)) id true) (λ after same. row.bound_to_constant a b v other c is sides same)
  came_imitates a b v other c (arg ∷ args) is sides =
      came_if (occurs_in graph v (arg ∷ args)) (failing_step graph id)
      (decomposition_step program.special (imitating graph v c (length args + 1)) id (zip (numbers (length graph) (length args + 1)) (arg ∷ args)))
      (λ found. came_alone (failing graph id) (λ after same. row.occurs a b v other c arg args is sides found same))
      (λ absent. came_pairs (kind.Prim prim.Unify) (kind.Prim prim.And) (imitating graph v c (length args + 1)) (zip (numbers (length graph) (length args + 1)) (arg ∷ args))
      (λ after same. row.imitation a b v other c arg args is sides absent same))

  came_renames : (a b v other : ℕ) (l : Lit) (args : List ℕ) → node_at graph id ≡ node (kind.Prim prim.Unify) (a ∷ b ∷ [])
      → FreeBeside graph a b v other (kind.Lit l) args → Came program graph id (binding_step program.special graph id v other)
  came_renames a b v other l args is sides =
      came_alone (telling program (put graph v (renaming other)) id true) (λ after same. row.bound_to_literal a b v other l args is sides same)

  came_with_partial : (a b : ℕ) (k l : Kind) (us vs : List ℕ) → node_at graph id ≡ node (kind.Prim prim.Unify) (a ∷ b ∷ []) → head_at graph a ≡ node k us
      → head_at graph b ≡ node l vs → (is_partial k || is_partial l) ≡ true → Came program graph id (failing_step graph id)
  came_with_partial a b k l us vs is one two partial =
      came_alone (failing graph id)
      (λ after same. row.with_partial a b is (ap₂ (λ (m o : Node). is_partial m.kind || is_partial o.kind) one two ∙ partial) same)

  came_mixed : (a b : ℕ) (k l : Kind) (us vs : List ℕ) → node_at graph id ≡ node (kind.Prim prim.Unify) (a ∷ b ∷ []) → head_at graph a ≡ node k us
      → head_at graph b ≡ node l vs → are_mixed k l ≡ true → Came program graph id (failing_step graph id)
  came_mixed a b k l us vs is one two unlike =
      came_alone (failing graph id) (λ after same. row.mixed a b is (ap₂ (λ (m o : Node). are_mixed m.kind o.kind) one two ∙ unlike) same)

  came_equated : (a b : ℕ) (k l : Kind) (us vs : List ℕ) → node_at graph id ≡ node (kind.Prim prim.Unify) (a ∷ b ∷ []) → head_at graph a ≡ node k us
      → head_at graph b ≡ node l vs → (is_head k && is_head l) ≡ true
      → Came program graph id (unification_step program.special graph id (head_of graph a) k us (head_of graph b) l vs)
  came_equated a b kind.Free kind.Free us vs is one two heads =
      came_if (nat_eq (head_of graph a) (head_of graph b)) (truth_step program.special graph id true) (binding_step program.special graph id (head_of graph a) (head_of graph b))
      (λ alike. came_alone (telling program graph id true)
      (λ after same. row.same_variable a b us vs is one two (eqb-true (head_of graph a) (head_of graph b) alike) same))
      (λ unlike. came_alone (telling program (put graph (head_of graph a) (renaming (head_of graph b))) id true)
      (λ after same. row.two_variables a b us vs is one two (λ places. true≢false (sym (eq-eqb (head_of graph a) (head_of graph b) places) ∙ unlike)) same))
  came_equated a b kind.Free (kind.Lit m) us vs is one two heads = came_renames a b (head_of graph a) (head_of graph b) m vs is (on_the_left us refl one refl two)
  came_equated a b (kind.Lit l) kind.Free us vs is one two heads = came_renames a b (head_of graph b) (head_of graph a) l us is (on_the_right vs refl two refl one)
  came_equated a b kind.Free (kind.Cons d) us vs is one two heads = came_imitates a b (head_of graph a) (head_of graph b) d vs is (on_the_left us refl one refl two)
  came_equated a b (kind.Cons c) kind.Free us vs is one two heads = came_imitates a b (head_of graph b) (head_of graph a) c us is (on_the_right vs refl two refl one)
  came_equated a b (kind.Cons c) (kind.Cons d) us vs is one two heads =
      came_if (same_constructor c d) (decomposition_step program.special graph id (zip us vs)) (failing_step graph id)
      (λ alike. came_pairs (kind.Prim prim.Unify) (kind.Prim prim.And) graph (zip us vs) (λ after same. row.decomposition a b c d us vs is one two alike same))
      (λ unlike. came_alone (failing graph id) (λ after same. row.clash a b c d us vs is one two unlike same))
  came_equated a b (kind.Lit l) (kind.Lit m) us vs is one two heads =
      came_if (same_literal l m) (truth_step program.special graph id true) (failing_step graph id)
      (λ alike. came_alone (telling program graph id true) (λ after same. row.equal_literals a b l m us vs is one two alike same))
      (λ unlike. came_alone (failing graph id) (λ after same. row.unlike_literals a b l m us vs is one two unlike same))
  came_equated a b (kind.Lit l) (kind.Cons d) us vs is one two heads = came_mixed a b (kind.Lit l) (kind.Cons d) us vs is one two refl
  came_equated a b (kind.Cons c) (kind.Lit m) us vs is one two heads = came_mixed a b (kind.Cons c) (kind.Lit m) us vs is one two refl
  came_equated a b (kind.Part h) l us vs is one two heads = came_with_partial a b (kind.Part h) l us vs is one two refl
  came_equated a b kind.Free (kind.Part h) us vs is one two heads = came_with_partial a b kind.Free (kind.Part h) us vs is one two refl
  came_equated a b (kind.Lit l) (kind.Part h) us vs is one two heads = came_with_partial a b (kind.Lit l) (kind.Part h) us vs is one two refl
  came_equated a b (kind.Cons c) (kind.Part h) us vs is one two heads = came_with_partial a b (kind.Cons c) (kind.Part h) us vs is one two refl
  came_equated a b _ _ us vs is one two heads = let none_left : ⊥ = true≢false (sym heads) in absurd none_left

  -- ---- built-in operations

  came_equal : (a b : ℕ) → node_at graph id ≡ node (kind.Prim prim.Equal) (a ∷ b ∷ []) → list_all (has_bound_head graph) (a ∷ b ∷ []) ≡ true
      → Came program graph id (operation_step program.special graph id prim.Equal (a ∷ b ∷ []))
  came_equal a b is ready =
      came_compared a b (head_at graph a).kind (head_at graph b).kind (head_at graph a).args (head_at graph b).args is refl refl
      (both_first (has_bound_head graph a) (has_bound_head graph b) ready)

  came_unify : (a b : ℕ) → node_at graph id ≡ node (kind.Prim prim.Unify) (a ∷ b ∷ []) → list_all (has_head graph) (a ∷ b ∷ []) ≡ true
      → Came program graph id (operation_step program.special graph id prim.Unify (a ∷ b ∷ []))
  came_unify a b is ready =
      came_equated a b (head_at graph a).kind (head_at graph b).kind (head_at graph a).args (head_at graph b).args is refl refl
      (both_first (has_head graph a) (has_head graph b) ready)

  came_and : (a b : ℕ) → node_at graph id ≡ node (kind.Prim prim.And) (a ∷ b ∷ []) → Came program graph id (operation_step program.special graph id prim.And (a ∷ b ∷ []))
  came_and a b is =
      came_if (is_true program.special (head_at graph a).kind && is_true program.special (head_at graph b).kind) (truth_step program.special graph id true) (failing_step graph id)
      (λ holds. came_alone (telling program graph id true) (λ after same. row.both_true a b is holds same))
      (λ fails_it. came_alone (failing graph id) (λ after same. row.not_both_true a b is fails_it same))

  came_on_literals : (operation : Primitive) (args : List ℕ) → node_at graph id ≡ node (kind.Prim operation) args → is_on_literals operation ≡ true
      → Came program graph id (literal_step program.special graph id operation (kinds_of graph args))
  came_on_literals operation args is on = came_computed operation args (kinds_of graph args) is on refl

  came_operated : (operation : Primitive) (args : List ℕ) → node_at graph id ≡ node (kind.Prim operation) args
      → has_arguments program (kind.Prim operation) (length args) ≡ true → is_ready graph (kind.Prim operation) args ≡ true
      → Came program graph id (operation_step program.special graph id operation args)
  came_operated prim.Equal args is whole ready =
      let two = two_args args (two_needed (length args) whole) in
      subst (λ (xs : List ℕ). Came program graph id (operation_step program.special graph id prim.Equal xs)) (sym two.2)
      (came_equal two.0 two.1 (subst (λ (xs : List ℕ). node_at graph id ≡ node (kind.Prim prim.Equal) xs) two.2 is)
      (subst (λ (xs : List ℕ). list_all (has_bound_head graph) xs ≡ true) two.2 ready))
  came_operated prim.Unify args is whole ready =
      let two = two_args args (two_needed (length args) whole) in
      subst (λ (xs : List ℕ). Came program graph id (operation_step program.special graph id prim.Unify xs)) (sym two.2)
      (came_unify two.0 two.1 (subst (λ (xs : List ℕ). node_at graph id ≡ node (kind.Prim prim.Unify) xs) two.2 is)
      (subst (λ (xs : List ℕ). list_all (has_head graph) xs ≡ true) two.2 ready))
  came_operated prim.And args is whole ready =
      let two = two_args args (two_needed (length args) whole) in
      subst (λ (xs : List ℕ). Came program graph id (operation_step program.special graph id prim.And xs)) (sym two.2)
      (came_and two.0 two.1 (subst (λ (xs : List ℕ). node_at graph id ≡ node (kind.Prim prim.And) xs) two.2 is))
  came_operated prim.Failed args is whole ready = let none_left : ⊥ = true≢false (sym whole) in absurd none_left
  came_operated operation args is whole ready = came_on_literals operation args is refl

  -- ---- all rows

  came_collects : (f : FunId) (args : List ℕ) → node_at graph id ≡ node (kind.SetCall f) args → Came program graph id (set_call_step graph id f (values_of (map (spelled graph) args)))
  came_collects f args is =
      came_if (are_data (values_of (map (spelled graph) args))) (Collect f (values_of (map (spelled graph) args))) (stuck_step graph id)
      (λ there graphs after same m. let none_left : ⊥ = cc in absurd none_left)
      (λ partial. came_alone (put graph id (alone kind.Stuck)) (λ after same. row.set_of_partial f args is partial same))

  came_rewritten : (k : Kind) (args : List ℕ) → node_at graph id ≡ node k args → has_arguments program k (length args) ≡ true
      → ((x : ℕ) → has_arguments program (node_at graph x).kind (length (node_at graph x).args) ≡ true) → is_ready graph k args ≡ true
      → Came program graph id (rewrite_step program graph id k args)
  came_rewritten (kind.Call f) args is whole wholes ready = came_unfolded f args (body_of program f) (function_arity program f) is refl whole
  came_rewritten kind.Or args is whole wholes ready =
      let two = two_args args whole in
      subst (λ (xs : List ℕ). Came program graph id (choice_step graph id xs)) (sym two.2)
      (came_chosen two.0 two.1 (subst (λ (xs : List ℕ). node_at graph id ≡ node kind.Or xs) two.2 is))
  came_rewritten (kind.Case mode e) (scrutinee ∷ values) is whole wholes ready =
      came_case mode e scrutinee values (expr_of program (record { 0 = e })) is refl whole ready
  came_rewritten kind.Apply (function ∷ argument ∷ []) is whole wholes ready =
      came_applied function argument (head_at graph function).kind (head_at graph function).args is refl (wholes (head_of graph function))
  came_rewritten kind.Apply (function ∷ []) is whole wholes ready = absurd (not_two 1 whole (λ same. omega arith))
  came_rewritten kind.Apply (a ∷ b ∷ c ∷ rest) is whole wholes ready = absurd (not_two (suc (suc (suc (length rest)))) whole (λ same. omega arith))
  came_rewritten (kind.Prim operation) args is whole wholes ready = came_operated operation args is whole ready
  came_rewritten (kind.SetCall f) args is whole wholes ready = came_collects f args is
  came_rewritten _ args is whole wholes ready = let none_left : ⊥ = true≢false (sym ready) in absurd none_left

pub moves_row : (program : Code) (graph after : Graph) (root id : ℕ) (goals : List ℕ) (graphs : List Graph) → IsValid program (state.Branch graph root goals Idle)
    → need_all program.special.truth graph root ≡ At id → move program graph id ≡ Become graphs → Among after graphs → Steps program graph id after
unfolding IsValid
moves_row program graph after root id goals graphs valid needed same m =
    let branch = valid.0 in
    let redex = need_at_redex (length graph) program.special.truth graph Throughout root id branch.arguments (lt-ltb root (length graph) branch.root_there) needed in
    came_rewritten program graph id (node_at graph id).kind (node_at graph id).args refl (node_whole program graph branch.nodes id)
    (node_whole program graph branch.nodes) redex.2 graphs after same m
