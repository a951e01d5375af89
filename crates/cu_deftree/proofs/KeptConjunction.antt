-- The flat program's `&&` is the case distinction that its two rules, or that distinction itself, are lowered to.
use Rattle.std.proofs.Common.{◌≡◌, ◌≢◌, ℕ, zero, suc, ◌+◌, ◌<◌, ◌≤◌, Bool, true, false, ◌||◌, List, [], ◌∷◌, cond, if◌then◌else◌, filter, length, map, nat_eq, refl, ap, sym, ◌∙◌, subst, arith, eq-eqb, eqb-true, true≢false}
use Rattle.cu_calculus.specs.declared.ConId.{ConId}
use Rattle.cu_calculus.specs.declared.Head.TheVariants as head
use Rattle.cu_calculus.specs.declared.Mode.TheVariants.{Flex}
use Rattle.cu_calculus.specs.declared.builtin.Special.{Special}
use Rattle.cu_calculus.specs.Choose.{demands_constructor}
use Rattle.cu_calculus.specs.Program.{Function, Program, Rule, Rules}
use Rattle.cu_calculus.specs.Term as term
use Rattle.cu_calculus.specs.Term.{Alternatives, Pattern, Term}
use Rattle.cu_calculus.specs.Valid as valid
use Rattle.cu_calculus.specs.Valid.{IsConjunction}
use Rattle.cu_deftree.specs.Lowering as lowering
use Rattle.cu_deftree.specs.Lowering.{Branches, Cases, Distinguishes, Lowers, Tree, goes_on, variables}
use Rattle.cu_deftree.specs.LoweredProgram as lowered
use Rattle.cu_deftree.specs.LoweredProgram.{FunctionLowers}
use Rattle.cu_deftree.specs.Rows.{Names, Row, constructor_arity, constructor_ids, constructors_at, demand_at, name_of, numbers, row_of_rule, rows_of, specialize, specialized}
use Rattle.cu_deftree.proofs.OneTree.{function_one, with_rule}

-- ---- the two constructors among all

abbrev pub numbered : ℕ → ConId
numbered n = record { 0 = n }

abbrev pub either : ℕ → ℕ → ConId → Bool
either f t c = nat_eq c.0 f || (nat_eq c.0 t || false)

differ : (x y : ℕ) → x < y → nat_eq x y ≡ false
differ x y l = by (nat_eq x y) refl
  where
    by : (b : Bool) → nat_eq x y ≡ b → b ≡ false
    by true e = let same = eqb-true x y e in absurd (omega arith)
    by false e = refl

differ_swapped : (x y : ℕ) → y < x → nat_eq x y ≡ false
differ_swapped x y l = by (nat_eq x y) refl
  where
    by : (b : Bool) → nat_eq x y ≡ b → b ≡ false
    by true e = let same = eqb-true x y e in absurd (omega arith)
    by false e = refl

or_false : (a b : Bool) → a ≡ false → b ≡ false → (a || (b || false)) ≡ false
or_false true b e f = let no : ⊥ = cc in absurd no
or_false false true e f = let no : ⊥ = cc in absurd no
or_false false false e f = refl

or_left : (a b : Bool) → a ≡ true → (a || (b || false)) ≡ true
or_left true b e = refl
or_left false b e = let no : ⊥ = cc in absurd no

or_right : (a b : Bool) → b ≡ true → (a || (b || false)) ≡ true
or_right true b e = refl
or_right false true e = refl
or_right false false e = let no : ⊥ = cc in absurd no

take_by : (test : ConId → Bool) (c : ConId) (cs found : List ConId) (b : Bool) → test c ≡ b → filter test cs ≡ found
    → filter test (c ∷ cs) ≡ cond b (c ∷ found) found
take_by test c cs found b e f =
    ap (λ (x : Bool). cond x (c ∷ filter test cs) (filter test cs)) e ∙ ap (λ (xs : List ConId). cond b (c ∷ xs) xs) f

abbrev pub Passes : (test : ConId → Bool) (f t : ℕ) → Type 0
Passes test f t = (c : ConId) → test c ≡ either f t c

none_after : (test : ConId → Bool) (f t from n : ℕ) → Passes test f t → f < t → t < from → filter test (map numbered (numbers from n)) ≡ []
none_after test f t from zero passes l m = refl
none_after test f t from (suc n) passes l m =
    take_by test (numbered from) (map numbered (numbers (suc from) n)) [] false
    (passes (numbered from) ∙ or_false (nat_eq from f) (nat_eq from t) (differ_swapped from f (omega arith)) (differ_swapped from t m))
    (none_after test f t (suc from) n passes l (omega arith))

one_from : (test : ConId → Bool) (f t from n : ℕ) → Passes test f t → f < t → f < from → from ≤ t → t < from + n
    → filter test (map numbered (numbers from n)) ≡ numbered t ∷ []
one_from test f t from zero passes l m a b = absurd (omega arith)
one_from test f t from (suc n) passes l m a b = by (nat_eq from t) refl (one_from test f t (suc from) n passes l (omega arith))
  where
    rest : List ConId
    rest = map numbered (numbers (suc from) n)

    by : (c : Bool) → nat_eq from t ≡ c → (suc from ≤ t → t < suc from + n → filter test rest ≡ numbered t ∷ [])
        → filter test (numbered from ∷ rest) ≡ numbered t ∷ []
    by true e later =
        let same = eqb-true from t e in
        take_by test (numbered from) rest [] true (passes (numbered from) ∙ or_right (nat_eq from f) (nat_eq from t) e)
        (none_after test f t (suc from) n passes l (omega arith))
        ∙ ap (λ (x : ℕ). let all : List ConId = numbered x ∷ [] in all) same
    by false e later =
        let less : suc from ≤ t = above (nat_eq from t) refl e in
        take_by test (numbered from) rest (numbered t ∷ []) false
        (passes (numbered from) ∙ or_false (nat_eq from f) (nat_eq from t) (differ_swapped from f m) e) (later less (omega arith))
      where
        above : (d : Bool) → nat_eq from t ≡ d → d ≡ false → suc from ≤ t
        above d g h = not_same (λ (same : from ≡ t). true≢false (sym (eq-eqb from t same) ∙ g ∙ h))
          where
            not_same : (from ≡ t → ⊥) → suc from ≤ t
            not_same apart = omega (arith, apart)

pub two_from : (test : ConId → Bool) (f t from n : ℕ) → Passes test f t → f < t → from ≤ f → t < from + n
    → filter test (map numbered (numbers from n)) ≡ numbered f ∷ numbered t ∷ []
two_from test f t from zero passes l a b = absurd (omega arith)
two_from test f t from (suc n) passes l a b = by (nat_eq from f) refl (two_from test f t (suc from) n passes l)
  where
    rest : List ConId
    rest = map numbered (numbers (suc from) n)

    by : (c : Bool) → nat_eq from f ≡ c → (suc from ≤ f → t < suc from + n → filter test rest ≡ numbered f ∷ numbered t ∷ [])
        → filter test (numbered from ∷ rest) ≡ numbered f ∷ numbered t ∷ []
    by true e later =
        let same = eqb-true from f e in
        take_by test (numbered from) rest (numbered t ∷ []) true (passes (numbered from) ∙ or_left (nat_eq from f) (nat_eq from t) e)
        (one_from test f t (suc from) n passes l (omega arith) (omega arith) (omega arith))
        ∙ ap (λ (x : ℕ). let all : List ConId = numbered x ∷ numbered t ∷ [] in all) same
    by false e later =
        let less : suc from ≤ f = above (λ (same : from ≡ f). true≢false (sym (eq-eqb from f same) ∙ e)) in
        take_by test (numbered from) rest (numbered f ∷ numbered t ∷ []) false
        (passes (numbered from) ∙ or_false (nat_eq from f) (nat_eq from t) e (differ from t (omega arith))) (later less (omega arith))
      where
        above : (from ≡ f → ⊥) → suc from ≤ f
        above apart = omega (arith, apart)

-- ---- one of two rows

second_only : (test : Row → Bool) (a b : Row) → test a ≡ false → test b ≡ true → filter test (a ∷ b ∷ []) ≡ b ∷ []
second_only test a b e f =
    ap (λ (x : Bool). cond x (a ∷ filter test (b ∷ [])) (filter test (b ∷ []))) e ∙ ap (λ (x : Bool). cond x (b ∷ []) []) f

first_only : (test : Row → Bool) (a b : Row) → test a ≡ true → test b ≡ false → filter test (a ∷ b ∷ []) ≡ a ∷ []
first_only test a b e f =
    ap (λ (x : Bool). cond x (a ∷ filter test (b ∷ [])) (filter test (b ∷ []))) e
    ∙ ap (λ (x : Bool). let rows : List Row = a ∷ cond x (b ∷ []) [] in rows) f

or_no : (a : Bool) → a ≡ false → (a || false) ≡ false
or_no true e = e
or_no false e = refl

or_yes : (a : Bool) → a ≡ true → (a || false) ≡ true
or_yes true e = refl
or_yes false e = e

swap_or : (a b : Bool) → (a || (b || false)) ≡ (b || (a || false))
swap_or true true = refl
swap_or true false = refl
swap_or false true = refl
swap_or false false = refl

own_name : (x z : ℕ) (names : Names) → name_of ((x, z) ∷ names) x ≡ z
own_name x z names = ap (λ (b : Bool). if b then z else name_of names x) (eq-eqb x x refl)

other_name : (x y z : ℕ) (names : Names) → x ≢ y → name_of ((x, z) ∷ names) y ≡ name_of names y
other_name x y z names apart = by (nat_eq x y) refl
  where
    by : (b : Bool) → nat_eq x y ≡ b → (if b then z else name_of names y) ≡ name_of names y
    by true e = absurd (apart (eqb-true x y e))
    by false e = refl

-- ---- the case distinction

-- the branches for False and for True
abbrev both_branches : Special → Alternatives
both_branches special =
    term.MoreAlternatives (term.Built special.falsity term.NoPattern) (term.Whole (head.Con special.falsity) term.NoTerm)
    (term.MoreAlternatives (term.Built special.truth term.NoPattern) (term.Variable 2) term.NoAlternative)

abbrev both_case : Special → Term
both_case special = term.Case Flex (term.Variable 1) (both_branches special)

pub record Booleans (program : Program) : Type 0 where
  pub ordered : program.special.falsity.0 < program.special.truth.0
  pub falsity : constructor_arity program program.special.falsity ≡ 0
  pub truth : constructor_arity program program.special.truth ≡ 0
  pub there : program.special.truth.0 < length program.constructors

module _ (program : Program) (booleans : Booleans program) where
  same_falsity : nat_eq program.special.falsity.0 program.special.falsity.0 ≡ true
  same_falsity = eq-eqb program.special.falsity.0 program.special.falsity.0 refl

  same_truth : nat_eq program.special.truth.0 program.special.truth.0 ≡ true
  same_truth = eq-eqb program.special.truth.0 program.special.truth.0 refl

  false_not_true : nat_eq program.special.falsity.0 program.special.truth.0 ≡ false
  false_not_true = differ program.special.falsity.0 program.special.truth.0 booleans.ordered

  true_not_false : nat_eq program.special.truth.0 program.special.falsity.0 ≡ false
  true_not_false = differ_swapped program.special.truth.0 program.special.falsity.0 booleans.ordered

  -- the two constructors, where they are what is looked for
  two_looked_for : (test : ConId → Bool) → Passes test program.special.falsity.0 program.special.truth.0
      → filter test (constructor_ids program) ≡ program.special.falsity ∷ program.special.truth ∷ []
  two_looked_for test passes =
      two_from test program.special.falsity.0 program.special.truth.0 0 (length program.constructors) passes booleans.ordered (omega arith)
      (let l = booleans.there in omega arith)

  -- ---- from its two rules

  abbrev true_row : ℕ → Row
  true_row x = record {
    patterns = term.Built program.special.truth term.NoPattern ∷ term.Any x ∷ [];
    names = (x, 2) ∷ [];
    body = term.Variable x;
  }

  abbrev false_row : ℕ → Row
  false_row y = record {
    patterns = term.Built program.special.falsity term.NoPattern ∷ term.Any y ∷ [];
    names = (y, 2) ∷ [];
    body = term.Whole (head.Con program.special.falsity) term.NoTerm;
  }

  rules_tree : (x y : ℕ) → Tree program (1 ∷ 2 ∷ []) 3 (true_row x ∷ false_row y ∷ []) (both_case program.special)
  rules_tree x y =
      lowering.branch (1 ∷ 2 ∷ []) 3 0 1 (true_row x) (false_row y ∷ []) (both_branches program.special) refl refl
      (subst (λ (cs : List ConId). Branches program (1 ∷ 2 ∷ []) 3 0 (true_row x ∷ false_row y ∷ []) cs [] (both_branches program.special))
      (sym looked_for) branches)
    where
      rows : List Row
      rows = true_row x ∷ false_row y ∷ []

      looked_for : constructors_at program 0 (true_row x ∷ false_row y ∷ []) ≡ program.special.falsity ∷ program.special.truth ∷ []
      looked_for = two_looked_for _ (λ c. swap_or (nat_eq c.0 program.special.truth.0) (nat_eq c.0 program.special.falsity.0))

      for_false : specialize 0 [] (demands_constructor program.special.falsity) (true_row x ∷ false_row y ∷ [])
          ≡ record { patterns = term.Any y ∷ []; names = (y, 2) ∷ []; body = term.Whole (head.Con program.special.falsity) term.NoTerm } ∷ []
      for_false =
          ap (λ (rs : List Row). map (specialized 0 []) rs)
          (second_only (λ row. demands_constructor program.special.falsity (demand_at 0 row)) (true_row x) (false_row y) false_not_true same_falsity)

      for_true : specialize 0 [] (demands_constructor program.special.truth) (true_row x ∷ false_row y ∷ [])
          ≡ record { patterns = term.Any x ∷ []; names = (x, 2) ∷ []; body = term.Variable x } ∷ []
      for_true =
          ap (λ (rs : List Row). map (specialized 0 []) rs)
          (first_only (λ row. demands_constructor program.special.truth (demand_at 0 row)) (true_row x) (false_row y) same_truth true_not_false)

      one : Tree program (2 ∷ []) 3 (specialize 0 [] (demands_constructor program.special.falsity) (true_row x ∷ false_row y ∷ []))
          (term.Whole (head.Con program.special.falsity) term.NoTerm)
      one =
          subst (λ (rs : List Row). Tree program (2 ∷ []) 3 rs (term.Whole (head.Con program.special.falsity) term.NoTerm)) (sym for_false)
          (lowering.rule (2 ∷ []) 3 _ _ refl (lowering.whole _ 3 (head.Con program.special.falsity) term.NoTerm term.NoTerm (lowering.no_term _ 3)))

      two : Tree program (2 ∷ []) 3 (specialize 0 [] (demands_constructor program.special.truth) (true_row x ∷ false_row y ∷ [])) (term.Variable 2)
      two =
          subst (λ (rs : List Row). Tree program (2 ∷ []) 3 rs (term.Variable 2)) (sym for_true)
          (lowering.rule (2 ∷ []) 3 _ _ refl
          (subst (λ (z : ℕ). Lowers program ((x, 2) ∷ []) 3 (term.Variable x) (term.Variable z)) (own_name x 2 []) (lowering.variable ((x, 2) ∷ []) 3 x)))

      branches : Branches program (1 ∷ 2 ∷ []) 3 0 (true_row x ∷ false_row y ∷ []) (program.special.falsity ∷ program.special.truth ∷ []) []
          (both_branches program.special)
      branches =
          lowering.constructor_branch (1 ∷ 2 ∷ []) 3 0 0 [] (true_row x ∷ false_row y ∷ []) program.special.falsity (program.special.truth ∷ []) []
          (term.Whole (head.Con program.special.falsity) term.NoTerm) _ (sym booleans.falsity) refl one
          (lowering.constructor_branch (1 ∷ 2 ∷ []) 3 0 0 [] (true_row x ∷ false_row y ∷ []) program.special.truth [] []
          (term.Variable 2) term.NoAlternative (sym booleans.truth) refl two (lowering.no_branch (1 ∷ 2 ∷ []) 3 0 (true_row x ∷ false_row y ∷ [])))

  -- ---- from its case distinction

  abbrev both_names : ℕ → ℕ → Names
  both_names x y = (x, 1) ∷ (y, 2) ∷ []

  abbrev false_alternative : ℕ → ℕ → Row
  false_alternative x y = record {
    patterns = term.Built program.special.falsity term.NoPattern ∷ [];
    names = both_names x y;
    body = term.Whole (head.Con program.special.falsity) term.NoTerm;
  }

  abbrev true_alternative : ℕ → ℕ → Row
  true_alternative x y = record {
    patterns = term.Built program.special.truth term.NoPattern ∷ [];
    names = both_names x y;
    body = term.Variable y;
  }

  case_lowers : (x y : ℕ) → x ≢ y
      → Distinguishes program Flex (1 ∷ []) 3 (false_alternative x y ∷ true_alternative x y ∷ []) (both_case program.special)
  case_lowers x y apart =
      lowering.all_demand Flex (1 ∷ []) 3 0 1 (false_alternative x y) (true_alternative x y ∷ []) (both_branches program.special) refl refl refl
      (subst (λ (cs : List ConId). Cases program Flex false (1 ∷ []) 3 0 (false_alternative x y ∷ true_alternative x y ∷ []) cs []
      (both_branches program.special)) (sym looked_for) branches)
    where
      looked_for : constructors_at program 0 (false_alternative x y ∷ true_alternative x y ∷ []) ≡ program.special.falsity ∷ program.special.truth ∷ []
      looked_for = two_looked_for _ (λ c. refl)

      for_false : specialize 0 [] (goes_on false (demands_constructor program.special.falsity)) (false_alternative x y ∷ true_alternative x y ∷ [])
          ≡ record { patterns = []; names = both_names x y; body = term.Whole (head.Con program.special.falsity) term.NoTerm } ∷ []
      for_false =
          ap (λ (rs : List Row). map (specialized 0 []) rs)
          (first_only (λ row. goes_on false (demands_constructor program.special.falsity) (demand_at 0 row)) (false_alternative x y) (true_alternative x y)
          (or_yes (nat_eq program.special.falsity.0 program.special.falsity.0) same_falsity)
          (or_no (nat_eq program.special.falsity.0 program.special.truth.0) false_not_true))

      for_true : specialize 0 [] (goes_on false (demands_constructor program.special.truth)) (false_alternative x y ∷ true_alternative x y ∷ [])
          ≡ record { patterns = []; names = both_names x y; body = term.Variable y } ∷ []
      for_true =
          ap (λ (rs : List Row). map (specialized 0 []) rs)
          (second_only (λ row. goes_on false (demands_constructor program.special.truth) (demand_at 0 row)) (false_alternative x y) (true_alternative x y)
          (or_no (nat_eq program.special.truth.0 program.special.falsity.0) true_not_false)
          (or_yes (nat_eq program.special.truth.0 program.special.truth.0) same_truth))

      name : name_of (both_names x y) y ≡ 2
      name = other_name x y 1 ((y, 2) ∷ []) apart ∙ own_name y 2 []

      one : Distinguishes program Flex [] 3
          (specialize 0 [] (goes_on false (demands_constructor program.special.falsity)) (false_alternative x y ∷ true_alternative x y ∷ []))
          (term.Whole (head.Con program.special.falsity) term.NoTerm)
      one =
          subst (λ (rs : List Row). Distinguishes program Flex [] 3 rs (term.Whole (head.Con program.special.falsity) term.NoTerm)) (sym for_false)
          (lowering.taken Flex [] 3 _ [] _ refl
          (lowering.whole _ 3 (head.Con program.special.falsity) term.NoTerm term.NoTerm (lowering.no_term _ 3)))

      two : Distinguishes program Flex [] 3
          (specialize 0 [] (goes_on false (demands_constructor program.special.truth)) (false_alternative x y ∷ true_alternative x y ∷ [])) (term.Variable 2)
      two =
          subst (λ (rs : List Row). Distinguishes program Flex [] 3 rs (term.Variable 2)) (sym for_true)
          (lowering.taken Flex [] 3 _ [] _ refl
          (subst (λ (z : ℕ). Lowers program (both_names x y) 3 (term.Variable y) (term.Variable z)) name (lowering.variable (both_names x y) 3 y)))

      branches : Cases program Flex false (1 ∷ []) 3 0 (false_alternative x y ∷ true_alternative x y ∷ [])
          (program.special.falsity ∷ program.special.truth ∷ []) [] (both_branches program.special)
      branches =
          lowering.constructor_case Flex false (1 ∷ []) 3 0 0 [] (false_alternative x y ∷ true_alternative x y ∷ []) program.special.falsity
          (program.special.truth ∷ []) [] (term.Whole (head.Con program.special.falsity) term.NoTerm) _ (sym booleans.falsity) refl one
          (lowering.constructor_case Flex false (1 ∷ []) 3 0 0 [] (false_alternative x y ∷ true_alternative x y ∷ []) program.special.truth [] []
          (term.Variable 2) term.NoAlternative (sym booleans.truth) refl two
          (lowering.no_case Flex false (1 ∷ []) 3 0 (false_alternative x y ∷ true_alternative x y ∷ [])))

  abbrev source_branches : ℕ → Alternatives
  source_branches y =
      term.MoreAlternatives (term.Built program.special.falsity term.NoPattern) (term.Whole (head.Con program.special.falsity) term.NoTerm)
      (term.MoreAlternatives (term.Built program.special.truth term.NoPattern) (term.Variable y) term.NoAlternative)

  case_tree : (x y : ℕ) → x ≢ y → Tree program (1 ∷ 2 ∷ []) 3
      (record {
        patterns = term.Any x ∷ term.Any y ∷ [];
        names = both_names x y;
        body = term.Case Flex (term.Variable x) (source_branches y);
      } ∷ []) (both_case program.special)
  case_tree x y apart =
      lowering.rule (1 ∷ 2 ∷ []) 3 _ (both_case program.special) refl
      (lowering.on_variable (both_names x y) 3 x Flex (source_branches y) (both_case program.special)
      (subst (λ (z : ℕ). Distinguishes program Flex (z ∷ []) 3 (rows_of (both_names x y) z (source_branches y)) (both_case program.special))
      (sym (own_name x 1 ((y, 2) ∷ []))) (case_lowers x y apart)))

  -- ---- the function

  by_one : (lowered : Function) → lowered ≡ with_rule 2 (1 ∷ 2 ∷ []) (both_case program.special) → IsConjunction program.special lowered.body
  by_one lowered e = valid.by_case lowered.body 1 2 (λ same. let none : ⊥ = omega arith in none) (ap (λ (f : Function). f.body) e)

  from_tree : (function lowered : Function) (rules : List Rule) → function.arity ≡ 2 → function.body ≡ Rules rules
      → Tree program (1 ∷ 2 ∷ []) 3 (map (row_of_rule (1 ∷ 2 ∷ [])) rules) (both_case program.special) → FunctionLowers program function lowered
      → IsConjunction program.special lowered.body
  from_tree function low rules e b tree lowers =
      by_one low
      (function_one program function low (with_rule 2 (1 ∷ 2 ∷ []) (both_case program.special)) lowers
      (lowered.by_tree rules (1 ∷ 2 ∷ []) (both_case program.special) (with_rule 2 (1 ∷ 2 ∷ []) (both_case program.special)) b
      (sym (ap (numbers 1) e))
      (subst (λ (n : ℕ). Tree program (1 ∷ 2 ∷ []) (suc n) (map (row_of_rule (1 ∷ 2 ∷ [])) rules) (both_case program.special)) (sym e) tree)
      (ap (λ (n : ℕ). with_rule n (1 ∷ 2 ∷ []) (both_case program.special)) (sym e))))

  pub conjunction_kept : (function lowered : Function) → function.arity ≡ 2 → IsConjunction program.special function.body
      → FunctionLowers program function lowered → IsConjunction program.special lowered.body
  conjunction_kept function lowered e (valid.by_rules _ x y b) lowers = from_tree function lowered _ e b (rules_tree x y) lowers
  conjunction_kept function lowered e (valid.by_case _ x y apart b) lowers = from_tree function lowered _ e b (case_tree x y apart) lowers
