-- What lowering gives is flat: parameters are different variables, and no two branches look for the same constructor or literal.
use Rattle.std.proofs.Common.{◌≡◌, ℕ, zero, suc, ◌+◌, ◌<◌, ◌≤◌, Bool, true, false, not, ◌&&◌, ◌||◌, List, [], ◌∷◌, cond, filter, length, map, nat_eq, Some, slice_get, refl, ap, ◌∙◌, arith, eqb-true}
use Rattle.std.specs.List.{flat_map, list_all, list_any}
use Rattle.std.proofs.lemmas.Bool.{and_from, or_from, or_parts}
use Rattle.cu_calculus.specs.declared.ConId.{ConId}
use Rattle.cu_calculus.specs.declared.Lit.{Lit}
use Rattle.cu_calculus.specs.declared.Mode.{Mode}
use Rattle.cu_calculus.specs.declared.Mode.TheVariants.{Flex}
use Rattle.cu_calculus.specs.Choose.{ALiteral, AConstructor, Demand, same_type, demands_constructor}
use Rattle.cu_calculus.specs.Flat.{all_differ, are_flat_alternatives, are_flat_terms, are_variables, demands_of, is_flat, is_flat_body, is_flat_term, same_demand}
use Rattle.cu_calculus.specs.Literal.{same_literal}
use Rattle.cu_calculus.specs.Match.{same_constructor}
use Rattle.cu_calculus.specs.Program.{Function, Program}
use Rattle.cu_calculus.specs.Term as term
use Rattle.cu_calculus.specs.Term.{Alternatives, Term, Terms}
use Rattle.cu_calculus.specs.Valid.{all_variables, is_linear}
use Rattle.cu_deftree.specs.Lowering as lowering
use Rattle.cu_deftree.specs.Lowering.{AllLower, Branches, Cases, Distinguishes, Lowers, Tree, variables}
use Rattle.cu_deftree.specs.LoweredProgram as lowered
use Rattle.cu_deftree.specs.LoweredProgram.{Flattens, FunctionLowers}
use Rattle.cu_deftree.specs.Rows.{Names, Row, constructor_ids, constructors_at, demand_at, first_occurrences, literal_in, literals_at, numbers, siblings}
use Rattle.cu_deftree.proofs.Converse.{negated, numbers_linear, variables_are}
use Rattle.cu_deftree.proofs.Levels.{stands_too}

-- ---- rising constructors

abbrev AllFrom : ℕ → List ConId → Type 0
AllFrom n [] = Unit {0}
AllFrom n (c ∷ cs) = (n ≤ c.0) × AllFrom n cs

abbrev Rising : List ConId → Type 0
Rising [] = Unit {0}
Rising (c ∷ cs) = AllFrom (suc c.0) cs × Rising cs

from_filter : (n : ℕ) (test : ConId → Bool) (cs : List ConId) → AllFrom n cs → AllFrom n (filter test cs)
from_filter n test [] h = tt
from_filter n test (c ∷ cs) h = by (test c) (from_filter n test cs h.1)
  where
    by : (b : Bool) → AllFrom n (filter test cs) → AllFrom n (cond b (c ∷ filter test cs) (filter test cs))
    by true rest = (h.0, rest)
    by false rest = rest

rising_filter : (test : ConId → Bool) (cs : List ConId) → Rising cs → Rising (filter test cs)
rising_filter test [] h = tt
rising_filter test (c ∷ cs) h = by (test c) (rising_filter test cs h.1)
  where
    by : (b : Bool) → Rising (filter test cs) → Rising (cond b (c ∷ filter test cs) (filter test cs))
    by true rest = (from_filter (suc c.0) test cs h.0, rest)
    by false rest = rest

abbrev numbered : ℕ → ConId
numbered n = record { 0 = n }

ids_from : (low from n : ℕ) → low ≤ from → AllFrom low (map numbered (numbers from n))
ids_from low from zero l = tt
ids_from low from (suc n) l = (l, ids_from low (suc from) n (omega arith))

ids_rise : (from n : ℕ) → Rising (map numbered (numbers from n))
ids_rise from zero = tt
ids_rise from (suc n) = (ids_from (suc from) (suc from) n (omega arith), ids_rise (suc from) n)

-- ---- different demands

-- what branches for these constructors and literals demand
abbrev demanded : List ConId → List Lit → List Demand
demanded [] [] = []
demanded [] (l ∷ ls) = ALiteral l ∷ demanded [] ls
demanded (c ∷ cs) ls = AConstructor c ∷ demanded cs ls

abbrev Different : List Lit → Type 0
Different [] = Unit {0}
Different (l ∷ ls) = (list_any (same_literal l) ls ≡ false) × Different ls

differs_from : (n m : ℕ) → suc n ≤ m → nat_eq n m ≡ false
differs_from n m l = by (nat_eq n m) refl
  where
    by : (b : Bool) → nat_eq n m ≡ b → b ≡ false
    by true e = let same = eqb-true n m e in absurd (omega arith)
    by false e = refl

no_literal_there : (c : ConId) (ls : List Lit) → list_any (same_demand (AConstructor c)) (demanded [] ls) ≡ false
no_literal_there c [] = refl
no_literal_there c (l ∷ ls) = no_literal_there c ls

no_constructor_there : (c : ConId) (cs : List ConId) (ls : List Lit) → AllFrom (suc c.0) cs
    → list_any (same_demand (AConstructor c)) (demanded cs ls) ≡ false
no_constructor_there c [] ls h = no_literal_there c ls
no_constructor_there c (d ∷ cs) ls h =
    or_from (same_constructor c d) (list_any (same_demand (AConstructor c)) (demanded cs ls)) (differs_from c.0 d.0 h.0)
    (no_constructor_there c cs ls h.1)

same_literals : (l : Lit) (ls : List Lit) → list_any (same_literal l) ls ≡ false → list_any (same_demand (ALiteral l)) (demanded [] ls) ≡ false
same_literals l [] h = refl
same_literals l (m ∷ ls) h =
    let parts = or_parts (same_literal l m) (list_any (same_literal l) ls) h in
    or_from (same_literal l m) (list_any (same_demand (ALiteral l)) (demanded [] ls)) parts.0 (same_literals l ls parts.1)

demands_differ : (cs : List ConId) (ls : List Lit) → Rising cs → Different ls → all_differ (demanded cs ls) ≡ true
demands_differ [] [] r d = refl
demands_differ [] (l ∷ ls) r d =
    and_from (not (list_any (same_demand (ALiteral l)) (demanded [] ls))) (all_differ (demanded [] ls))
    (negated (list_any (same_demand (ALiteral l)) (demanded [] ls)) (same_literals l ls d.0)) (demands_differ [] ls tt d.1)
demands_differ (c ∷ cs) ls r d =
    and_from (not (list_any (same_demand (AConstructor c)) (demanded cs ls))) (all_differ (demanded cs ls))
    (negated (list_any (same_demand (AConstructor c)) (demanded cs ls)) (no_constructor_there c cs ls r.0)) (demands_differ cs ls r.1 d)

any_filtered : (l : Lit) (test : Lit → Bool) (ls : List Lit) → list_any (same_literal l) ls ≡ false → list_any (same_literal l) (filter test ls) ≡ false
any_filtered l test [] h = refl
any_filtered l test (m ∷ ls) h =
    let parts = or_parts (same_literal l m) (list_any (same_literal l) ls) h in
    by (test m) parts.0 (any_filtered l test ls parts.1)
  where
    by : (b : Bool) → same_literal l m ≡ false → list_any (same_literal l) (filter test ls) ≡ false
        → list_any (same_literal l) (cond b (m ∷ filter test ls) (filter test ls)) ≡ false
    by true here rest = or_from (same_literal l m) (list_any (same_literal l) (filter test ls)) here rest
    by false here rest = rest

different_filtered : (test : Lit → Bool) (ls : List Lit) → Different ls → Different (filter test ls)
different_filtered test [] h = tt
different_filtered test (l ∷ ls) h = by (test l) (different_filtered test ls h.1)
  where
    by : (b : Bool) → Different (filter test ls) → Different (cond b (l ∷ filter test ls) (filter test ls))
    by true rest = (any_filtered l test ls h.0, rest)
    by false rest = rest

none_left : (l : Lit) (ls : List Lit) → list_any (same_literal l) (filter (λ m. not (same_literal l m)) ls) ≡ false
none_left l [] = refl
none_left l (m ∷ ls) = by (same_literal l m) refl (none_left l ls)
  where
    by : (b : Bool) → same_literal l m ≡ b → list_any (same_literal l) (filter (λ n. not (same_literal l n)) ls) ≡ false
        → list_any (same_literal l) (cond (not b) (m ∷ filter (λ n. not (same_literal l n)) ls) (filter (λ n. not (same_literal l n)) ls)) ≡ false
    by true e rest = rest
    by false e rest = or_from (same_literal l m) (list_any (same_literal l) (filter (λ n. not (same_literal l n)) ls)) e rest

occurrences_differ : (ls : List Lit) → Different (first_occurrences ls)
occurrences_differ [] = tt
occurrences_differ (l ∷ ls) =
    (none_left l (first_occurrences ls), different_filtered (λ m. not (same_literal l m)) (first_occurrences ls) (occurrences_differ ls))

constructors_rise : (program : Program) (k : ℕ) (rows : List Row) → Rising (constructors_at program k rows)
constructors_rise program k rows =
    rising_filter (λ c. list_any (λ row. demands_constructor c (demand_at k row)) rows) (constructor_ids program)
    (ids_rise 0 (length program.constructors))

siblings_rise : (program : Program) (c : ConId) → Rising (siblings program c)
siblings_rise program c = rising_filter (same_type program c) (constructor_ids program) (ids_rise 0 (length program.constructors))

literals_differ : (k : ℕ) (rows : List Row) → Different (literals_at k rows)
literals_differ k rows = occurrences_differ (flat_map (λ row. literal_in (demand_at k row)) rows)

-- ---- terms

are_variables_of : (xs : List ℕ) → are_variables (variables xs) ≡ true
are_variables_of [] = refl
are_variables_of (x ∷ xs) = are_variables_of xs

branches_demand : (program : Program) (positions : List ℕ) (next k : ℕ) (rows : List Row) (cs : List ConId) (ls : List Lit) (a : Alternatives)
    → Branches program positions next k rows cs ls a → demands_of a ≡ demanded cs ls
branches_demand program _ _ _ _ _ _ _ (lowering.no_branch positions next k rows) = refl
branches_demand program _ _ _ _ _ _ _ (lowering.constructor_branch positions next k n xs rows c cs ls t a e f p q) =
    ap (λ ds. AConstructor c ∷ ds) (branches_demand program positions next k rows cs ls a q)
branches_demand program _ _ _ _ _ _ _ (lowering.literal_branch positions next k rows l ls t a p q) =
    ap (λ ds. ALiteral l ∷ ds) (branches_demand program positions next k rows [] ls a q)

cases_demand : (program : Program) (mode : Mode) (v : Bool) (positions : List ℕ) (next k : ℕ) (rows : List Row) (cs : List ConId) (ls : List Lit)
    (a : Alternatives) → Cases program mode v positions next k rows cs ls a → demands_of a ≡ demanded cs ls
cases_demand program _ _ _ _ _ _ _ _ _ (lowering.no_case mode v positions next k rows) = refl
cases_demand program _ _ _ _ _ _ _ _ _ (lowering.constructor_case mode v positions next k n xs rows c cs ls t a e f p q) =
    ap (λ ds. AConstructor c ∷ ds) (cases_demand program mode v positions next k rows cs ls a q)
cases_demand program _ _ _ _ _ _ _ _ _ (lowering.literal_of_case mode v positions next k rows l ls t a p q) =
    ap (λ ds. ALiteral l ∷ ds) (cases_demand program mode v positions next k rows [] ls a q)

case_is_flat : (mode : Mode) (x : ℕ) (a : Alternatives) → all_differ (demands_of a) ≡ true → are_flat_alternatives a ≡ true
    → is_flat_term (term.Case mode (term.Variable x) a) ≡ true
case_is_flat mode x a e f = and_from (true && all_differ (demands_of a)) (are_flat_alternatives a) e f

-- the branches for True and for False differ
literal_demands_differ : (b : Bool) → b ≡ false → (true && (not (b || false) && (not false && true))) ≡ true
literal_demands_differ true e = let no : ⊥ = cc in absurd no
literal_demands_differ false e = refl

branch_is_flat : (xs : List ℕ) (c : ConId) (t : Term) (a : Alternatives) → is_flat_term t ≡ true → are_flat_alternatives a ≡ true
    → are_flat_alternatives (term.MoreAlternatives (term.Built c (variables xs)) t a) ≡ true
branch_is_flat xs c t a e f =
    and_from (are_variables (variables xs) && is_flat_term t) (are_flat_alternatives a)
    (and_from (are_variables (variables xs)) (is_flat_term t) (are_variables_of xs) e) f

module _ (program : Program) (apart : same_constructor program.special.truth program.special.falsity ≡ false) where
  mutual
    lowers_flat : (names : Names) (next : ℕ) (t u : Term) → Lowers program names next t u → is_flat_term u ≡ true
    lowers_flat _ _ _ _ (lowering.variable names next x) = refl
    lowers_flat _ _ _ _ (lowering.literal names next l) = refl
    lowers_flat _ _ _ _ (lowering.whole names next h ts us p) = all_lower_flat names next ts us p
    lowers_flat _ _ _ _ (lowering.part names next h ts us p) = all_lower_flat names next ts us p
    lowers_flat _ _ _ _ (lowering.applied names next f a g b p q) =
        and_from (is_flat_term g) (is_flat_term b) (lowers_flat names next f g p) (lowers_flat names next a b q)
    lowers_flat _ _ _ _ (lowering.bound names next x a b c d p q) =
        and_from (is_flat_term c) (is_flat_term d) (lowers_flat names next a c p) (lowers_flat ((x, next) ∷ names) (suc next) b d q)
    lowers_flat _ _ _ _ (lowering.free names next x a b p) = lowers_flat ((x, next) ∷ names) (suc next) a b p
    lowers_flat _ _ _ _ (lowering.either names next a b c d p q) =
        and_from (is_flat_term c) (is_flat_term d) (lowers_flat names next a c p) (lowers_flat names next b d q)
    lowers_flat _ _ _ u (lowering.on_variable names next x mode alternatives _ p) = distinguishes_flat mode _ next _ u p
    lowers_flat _ _ _ _ (lowering.on_term names next mode a b alternatives t is p q) =
        and_from (is_flat_term b) (is_flat_term t) (lowers_flat names next a b p) (distinguishes_flat mode _ (suc next) _ t q)

    all_lower_flat : (names : Names) (next : ℕ) (ts us : Terms) → AllLower program names next ts us → are_flat_terms us ≡ true
    all_lower_flat _ _ _ _ (lowering.no_term names next) = refl
    all_lower_flat _ _ _ _ (lowering.more_terms names next t u ts us p ps) =
        and_from (is_flat_term u) (are_flat_terms us) (lowers_flat names next t u p) (all_lower_flat names next ts us ps)

    pub tree_flat : (positions : List ℕ) (next : ℕ) (rows : List Row) (t : Term) → Tree program positions next rows t → is_flat_term t ≡ true
    tree_flat _ _ _ _ (lowering.no_rules positions next f is) = refl
    tree_flat _ _ _ t (lowering.rule positions next row _ e p) = lowers_flat row.names next row.body t p
    tree_flat _ _ _ _ (lowering.overlap positions next row other rows a b e p q) =
        and_from (is_flat_term a) (is_flat_term b) (lowers_flat row.names next row.body a p) (tree_flat positions next (other ∷ rows) b q)
    tree_flat _ _ _ _ (lowering.branch positions next k x row rows a e f p) =
        case_is_flat Flex x a
        (ap all_differ (branches_demand program positions next k (row ∷ rows) _ _ a p)
        ∙ demands_differ (constructors_at program k (row ∷ rows)) (literals_at k (row ∷ rows)) (constructors_rise program k (row ∷ rows))
        (literals_differ k (row ∷ rows))) (branches_flat positions next k (row ∷ rows) _ _ a p)
    tree_flat _ _ _ _ (lowering.split positions next k row rows a b e f p q) =
        and_from (is_flat_term a) (is_flat_term b) (tree_flat positions next _ a p) (tree_flat positions next _ b q)

    branches_flat : (positions : List ℕ) (next k : ℕ) (rows : List Row) (cs : List ConId) (ls : List Lit) (a : Alternatives)
        → Branches program positions next k rows cs ls a → are_flat_alternatives a ≡ true
    branches_flat _ _ _ _ _ _ _ (lowering.no_branch positions next k rows) = refl
    branches_flat _ _ _ _ _ _ _ (lowering.constructor_branch positions next k n xs rows c cs ls t a e f p q) =
        branch_is_flat xs c t a (tree_flat _ (next + n) _ t p) (branches_flat positions next k rows cs ls a q)
    branches_flat _ _ _ _ _ _ _ (lowering.literal_branch positions next k rows l ls t a p q) =
        and_from (is_flat_term t) (are_flat_alternatives a) (tree_flat _ next _ t p) (branches_flat positions next k rows [] ls a q)

    pub distinguishes_flat : (mode : Mode) (positions : List ℕ) (next : ℕ) (rows : List Row) (t : Term)
        → Distinguishes program mode positions next rows t → is_flat_term t ≡ true
    distinguishes_flat _ _ _ _ _ (lowering.no_alternatives mode positions next f is) = refl
    distinguishes_flat _ _ _ _ t (lowering.taken mode positions next row rows _ e p) = lowers_flat row.names next row.body t p
    distinguishes_flat _ _ _ _ _ (lowering.all_demand mode positions next k x row rows a e f g p) =
        case_is_flat mode x a
        (ap all_differ (cases_demand program mode false positions next k (row ∷ rows) _ _ a p)
        ∙ demands_differ (constructors_at program k (row ∷ rows)) (literals_at k (row ∷ rows)) (constructors_rise program k (row ∷ rows))
        (literals_differ k (row ∷ rows))) (cases_flat mode false positions next k (row ∷ rows) _ _ a p)
    distinguishes_flat _ _ _ _ _ (lowering.first_constructor mode positions next k x c row rows a e f g h p) =
        case_is_flat mode x a
        (ap all_differ (cases_demand program mode true positions next k (row ∷ rows) _ _ a p)
        ∙ demands_differ (siblings program c) [] (siblings_rise program c) tt) (cases_flat mode true positions next k (row ∷ rows) _ _ a p)
    distinguishes_flat _ _ _ _ _ (lowering.first_literal mode positions next k x equal l row rows a b e f g h is p q) =
        and_from _ (is_flat_term a && (is_flat_term b && true)) (literal_demands_differ (same_constructor program.special.truth program.special.falsity) apart)
        (and_from (is_flat_term a) (is_flat_term b && true) (distinguishes_flat mode _ next _ a p)
        (and_from (is_flat_term b) true (distinguishes_flat mode positions next _ b q) refl))

    cases_flat : (mode : Mode) (v : Bool) (positions : List ℕ) (next k : ℕ) (rows : List Row) (cs : List ConId) (ls : List Lit) (a : Alternatives)
        → Cases program mode v positions next k rows cs ls a → are_flat_alternatives a ≡ true
    cases_flat _ _ _ _ _ _ _ _ _ (lowering.no_case mode v positions next k rows) = refl
    cases_flat _ _ _ _ _ _ _ _ _ (lowering.constructor_case mode v positions next k n xs rows c cs ls t a e f p q) =
        branch_is_flat xs c t a (distinguishes_flat mode _ (next + n) _ t p) (cases_flat mode v positions next k rows cs ls a q)
    cases_flat _ _ _ _ _ _ _ _ _ (lowering.literal_of_case mode v positions next k rows l ls t a p q) =
        and_from (is_flat_term t) (are_flat_alternatives a) (distinguishes_flat mode _ next _ t p)
        (cases_flat mode v positions next k rows [] ls a q)

  function_flat : (function low : Function) → FunctionLowers program function low → is_flat_body low.body ≡ true
  function_flat function _ (lowered.external operation low e f) =
      ap (λ (x : Function). is_flat_body x.body) f ∙ ap is_flat_body e
  function_flat function _ (lowered.by_tree rules xs t low e f p g) =
      let linear : is_linear (all_variables (variables xs)) ≡ true =
      ap is_linear (variables_are xs ∙ f) ∙ numbers_linear 1 function.arity in
      ap (λ (x : Function). is_flat_body x.body) g
      ∙ and_from (are_variables (variables xs) && is_linear (all_variables (variables xs))) (is_flat_term t)
      (and_from (are_variables (variables xs)) (is_linear (all_variables (variables xs))) (are_variables_of xs) linear)
      (tree_flat xs (suc function.arity) _ t p)

pub all_from_each : (test : Function → Bool) (fs : List Function) → ((k : ℕ) (f : Function) → slice_get fs k ≡ Some f → test f ≡ true)
    → list_all test fs ≡ true
all_from_each test [] h = refl
all_from_each test (f ∷ fs) h = and_from (test f) (list_all test fs) (h 0 f refl) (all_from_each test fs (λ k g e. h (suc k) g e))

pub swapped : (m n : ℕ) → n < m → nat_eq m n ≡ false
swapped m n l = by (nat_eq m n) refl
  where
    by : (b : Bool) → nat_eq m n ≡ b → b ≡ false
    by true e = let same = eqb-true m n e in absurd (omega arith)
    by false e = refl

pub flattens_flat : (program flat : Program) → Flattens program flat → program.special.falsity.0 < program.special.truth.0 → is_flat flat ≡ true
flattens_flat program flat flattens ordered =
    all_from_each (λ f. is_flat_body f.body) flat.functions (λ k low e.
    let found = stands_too flat.functions program.functions k low flattens.each e in
    function_flat program (swapped program.special.truth.0 program.special.falsity.0 ordered) found.0 low (flattens.functions k found.0 low found.1 e))
