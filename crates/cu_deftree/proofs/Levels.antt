-- The least levels of a program are levels of its flat program: lowering mentions nothing new but built-in operations, whose
-- least level is 0.
use Rattle.std.proofs.Common.{◌≡◌, ℕ, zero, suc, ◌+◌, ◌<◌, ◌≤◌, ◌⊎◌, inl, inr, Bool, true, false, not, cond, List, [], ◌∷◌, ◌++◌, filter, flat_map, length, map, Option, Some, slice_get, slice_index, refl, ap, sym, ◌∙◌, subst, arith}
use Rattle.std.proofs.lemmas.Bool.{cases_order}
use Rattle.cu_calculus.specs.declared.ConId.{ConId}
use Rattle.cu_calculus.specs.declared.FunId.{FunId}
use Rattle.cu_calculus.specs.declared.Lit.{Lit}
use Rattle.cu_calculus.specs.declared.Mode.{Mode}
use Rattle.cu_calculus.specs.declared.builtin.Primitive.{Primitive}
use Rattle.cu_calculus.specs.Choose.{Demand, not_literal, demands_constructor, demands_literal}
use Rattle.cu_calculus.specs.Claims.{Allows, AreLeastLevels, AreLevels, Collected, Mention, Plain, all_mentions, alternative_mentions, body_mentions, head_mentions, level_of, mentions}
use Rattle.cu_calculus.specs.Program.{Body, External, Function, Program, Rule, Rules}
use Rattle.cu_calculus.specs.Term as term
use Rattle.cu_calculus.specs.Term.{Alternatives, Term, Terms}
use Rattle.cu_deftree.specs.Lowering as lowering
use Rattle.cu_deftree.specs.Lowering.{AllLower, Branches, Cases, Distinguishes, IsOperation, Lowers, Tree, goes_on}
use Rattle.cu_deftree.specs.LoweredProgram as lowered
use Rattle.cu_deftree.specs.LoweredProgram.{Flattens, FunctionLowers}
use Rattle.cu_deftree.specs.Rows.{Names, Row, demand_at, demands, row_of_rule, rows_of, specialize, specialized}

-- ---- mentions that a level allows

abbrev pub AllAllowed : List ℕ → ℕ → List Mention → Type 0
AllAllowed levels level [] = Unit {0}
AllAllowed levels level (m ∷ ms) = Allows levels level m × AllAllowed levels level ms

allowed_append : (levels : List ℕ) (level : ℕ) (xs ys : List Mention) → AllAllowed levels level xs → AllAllowed levels level ys
    → AllAllowed levels level (xs ++ ys)
allowed_append levels level [] ys h k = k
allowed_append levels level (x ∷ xs) ys h k = (h.0, allowed_append levels level xs ys h.1 k)

allowed_parts : (levels : List ℕ) (level : ℕ) (xs ys : List Mention) → AllAllowed levels level (xs ++ ys)
    → AllAllowed levels level xs × AllAllowed levels level ys
allowed_parts levels level [] ys h = (tt, h)
allowed_parts levels level (x ∷ xs) ys h = let rest = allowed_parts levels level xs ys h.1 in ((h.0, rest.0), rest.1)

allowed_from : (levels : List ℕ) (level : ℕ) (ms : List Mention) → ((k : ℕ) (m : Mention) → slice_get ms k ≡ Some m → Allows levels level m)
    → AllAllowed levels level ms
allowed_from levels level [] h = tt
allowed_from levels level (m ∷ ms) h = (h 0 m refl, allowed_from levels level ms (λ k n e. h (suc k) n e))

allowed_at : (levels : List ℕ) (level : ℕ) (ms : List Mention) (k : ℕ) (m : Mention) → AllAllowed levels level ms → slice_get ms k ≡ Some m
    → Allows levels level m
allowed_at levels level [] k m h e = let no : ⊥ = cc in absurd no
allowed_at levels level (n ∷ ms) zero m h e = let same : n ≡ m = cc in subst (λ (x : Mention). Allows levels level x) same h.0
allowed_at levels level (n ∷ ms) (suc k) m h e = allowed_at levels level ms k m h.1 e

-- rows whose right sides a level allows
abbrev pub RowsAllowed : List ℕ → ℕ → List Row → Type 0
RowsAllowed levels level [] = Unit {0}
RowsAllowed levels level (row ∷ rows) = AllAllowed levels level (mentions row.body) × RowsAllowed levels level rows

kept_allowed : (levels : List ℕ) (level : ℕ) (b : Bool) (row : Row) (kept : List Row) → AllAllowed levels level (mentions row.body)
    → RowsAllowed levels level kept → RowsAllowed levels level (cond b (row ∷ kept) kept)
kept_allowed levels level true row kept h k = (h, k)
kept_allowed levels level false row kept h k = k

filter_allowed : (levels : List ℕ) (level : ℕ) (test : Row → Bool) (rows : List Row) → RowsAllowed levels level rows
    → RowsAllowed levels level (filter test rows)
filter_allowed levels level test [] h = tt
filter_allowed levels level test (row ∷ rows) h =
    kept_allowed levels level (test row) row (filter test rows) h.0 (filter_allowed levels level test rows h.1)

specialized_allowed : (levels : List ℕ) (level k : ℕ) (positions : List ℕ) (rows : List Row) → RowsAllowed levels level rows
    → RowsAllowed levels level (map (specialized k positions) rows)
specialized_allowed levels level k positions [] h = tt
specialized_allowed levels level k positions (row ∷ rows) h = (h.0, specialized_allowed levels level k positions rows h.1)

specialize_allowed : (levels : List ℕ) (level k : ℕ) (positions : List ℕ) (test : Demand → Bool) (rows : List Row)
    → RowsAllowed levels level rows → RowsAllowed levels level (specialize k positions test rows)
specialize_allowed levels level k positions test rows h =
    specialized_allowed levels level k positions (filter (λ row. test (demand_at k row)) rows)
    (filter_allowed levels level (λ row. test (demand_at k row)) rows h)

alternatives_allowed : (levels : List ℕ) (level : ℕ) (names : Names) (position : ℕ) (alternatives : Alternatives)
    → AllAllowed levels level (alternative_mentions alternatives) → RowsAllowed levels level (rows_of names position alternatives)
alternatives_allowed levels level names position term.NoAlternative h = tt
alternatives_allowed levels level names position (term.MoreAlternatives p t alternatives) h =
    let parts = allowed_parts levels level (mentions t) (alternative_mentions alternatives) h in
    (parts.0, alternatives_allowed levels level names position alternatives parts.1)

rules_allowed : (levels : List ℕ) (level : ℕ) (positions : List ℕ) (rules : List Rule)
    → AllAllowed levels level (flat_map (λ rule. mentions rule.body) rules) → RowsAllowed levels level (map (row_of_rule positions) rules)
rules_allowed levels level positions [] h = tt
rules_allowed levels level positions (rule ∷ rules) h =
    let parts = allowed_parts levels level (mentions rule.body) (flat_map (λ r. mentions r.body) rules) h in
    (parts.0, rules_allowed levels level positions rules parts.1)

-- ---- what is lowered

-- built-in operations have level 0
abbrev pub AreLowest : Program → List ℕ → Type 0
AreLowest program levels = (operation : Primitive) (f : FunId) → IsOperation program operation f → level_of levels f ≡ 0

lowest : (levels : List ℕ) (level : ℕ) (f : FunId) → level_of levels f ≡ 0 → Allows levels level (Plain f)
lowest levels level f e = let low : 0 ≤ level = omega arith in subst (λ (n : ℕ). n ≤ level) (sym e) low

module _ (program : Program) (levels : List ℕ) (level : ℕ) (lowest_of : AreLowest program levels) where
  -- two terms that are allowed
  two : (xs ys us ws : List Mention) → (AllAllowed levels level xs → AllAllowed levels level us)
      → (AllAllowed levels level ys → AllAllowed levels level ws) → AllAllowed levels level (xs ++ ys) → AllAllowed levels level (us ++ ws)
  two xs ys us ws h k all =
      let parts = allowed_parts levels level xs ys all in allowed_append levels level us ws (h parts.0) (k parts.1)

  mutual
    pub lowers_allowed : (names : Names) (next : ℕ) (t u : Term) → Lowers program names next t u → AllAllowed levels level (mentions t)
        → AllAllowed levels level (mentions u)
    lowers_allowed _ _ _ _ (lowering.variable names next x) h = tt
    lowers_allowed _ _ _ _ (lowering.literal names next l) h = tt
    lowers_allowed _ _ _ _ (lowering.whole names next k ts us p) h =
        two (head_mentions k) (all_mentions ts) (head_mentions k) (all_mentions us) (λ a. a) (all_lower_allowed names next ts us p) h
    lowers_allowed _ _ _ _ (lowering.part names next k ts us p) h =
        two (head_mentions k) (all_mentions ts) (head_mentions k) (all_mentions us) (λ a. a) (all_lower_allowed names next ts us p) h
    lowers_allowed _ _ _ _ (lowering.applied names next f a g b p q) h =
        two (mentions f) (mentions a) (mentions g) (mentions b) (lowers_allowed names next f g p) (lowers_allowed names next a b q) h
    lowers_allowed _ _ _ _ (lowering.bound names next x a b c d p q) h =
        two (mentions a) (mentions b) (mentions c) (mentions d) (lowers_allowed names next a c p)
        (lowers_allowed ((x, next) ∷ names) (suc next) b d q) h
    lowers_allowed _ _ _ _ (lowering.free names next x a b p) h = lowers_allowed ((x, next) ∷ names) (suc next) a b p h
    lowers_allowed _ _ _ _ (lowering.either names next a b c d p q) h =
        two (mentions a) (mentions b) (mentions c) (mentions d) (lowers_allowed names next a c p) (lowers_allowed names next b d q) h
    lowers_allowed _ _ _ u (lowering.on_variable names next x mode alternatives _ p) h =
        distinguishes_allowed mode _ next _ u p (alternatives_allowed levels level names _ alternatives h)
    lowers_allowed _ _ _ _ (lowering.on_term names next mode a b alternatives t is p q) h =
        two (mentions a) (alternative_mentions alternatives) (mentions b) (mentions t) (lowers_allowed names next a b p)
        (λ k. distinguishes_allowed mode _ (suc next) _ t q (alternatives_allowed levels level names next alternatives k)) h

    pub all_lower_allowed : (names : Names) (next : ℕ) (ts us : Terms) → AllLower program names next ts us
        → AllAllowed levels level (all_mentions ts) → AllAllowed levels level (all_mentions us)
    all_lower_allowed _ _ _ _ (lowering.no_term names next) h = tt
    all_lower_allowed _ _ _ _ (lowering.more_terms names next t u ts us p ps) h =
        two (mentions t) (all_mentions ts) (mentions u) (all_mentions us) (lowers_allowed names next t u p)
        (all_lower_allowed names next ts us ps) h

    pub tree_allowed : (positions : List ℕ) (next : ℕ) (rows : List Row) (t : Term) → Tree program positions next rows t
        → RowsAllowed levels level rows → AllAllowed levels level (mentions t)
    tree_allowed _ _ _ _ (lowering.no_rules positions next f is) h = (lowest levels level f (lowest_of _ f is), tt)
    tree_allowed _ _ _ t (lowering.rule positions next row _ e p) h = lowers_allowed row.names next row.body t p h.0
    tree_allowed _ _ _ _ (lowering.overlap positions next row other rows a b e p q) h =
        allowed_append levels level (mentions a) (mentions b) (lowers_allowed row.names next row.body a p h.0)
        (tree_allowed positions next (other ∷ rows) b q h.1)
    tree_allowed _ _ _ _ (lowering.branch positions next k x row rows a e f p) h = branches_allowed positions next k (row ∷ rows) _ _ a p h
    tree_allowed _ _ _ _ (lowering.split positions next k row rows a b e f p q) h =
        allowed_append levels level (mentions a) (mentions b)
        (tree_allowed positions next _ a p (filter_allowed levels level (demands k) (row ∷ rows) h))
        (tree_allowed positions next _ b q (filter_allowed levels level (λ other. not (demands k other)) (row ∷ rows) h))

    pub branches_allowed : (positions : List ℕ) (next k : ℕ) (rows : List Row) (cs : List ConId) (ls : List Lit) (a : Alternatives)
        → Branches program positions next k rows cs ls a → RowsAllowed levels level rows → AllAllowed levels level (alternative_mentions a)
    branches_allowed _ _ _ _ _ _ _ (lowering.no_branch positions next k rows) h = tt
    branches_allowed _ _ _ _ _ _ _ (lowering.constructor_branch positions next k n xs rows c cs ls t a e f p q) h =
        allowed_append levels level (mentions t) (alternative_mentions a)
        (tree_allowed _ (next + n) _ t p (specialize_allowed levels level k xs (demands_constructor c) rows h)) (branches_allowed positions next k rows cs ls a q h)
    branches_allowed _ _ _ _ _ _ _ (lowering.literal_branch positions next k rows l ls t a p q) h =
        allowed_append levels level (mentions t) (alternative_mentions a)
        (tree_allowed _ next _ t p (specialize_allowed levels level k [] (demands_literal l) rows h)) (branches_allowed positions next k rows [] ls a q h)

    pub distinguishes_allowed : (mode : Mode) (positions : List ℕ) (next : ℕ) (rows : List Row) (t : Term)
        → Distinguishes program mode positions next rows t → RowsAllowed levels level rows → AllAllowed levels level (mentions t)
    distinguishes_allowed _ _ _ _ _ (lowering.no_alternatives mode positions next f is) h = (lowest levels level f (lowest_of _ f is), tt)
    distinguishes_allowed _ _ _ _ t (lowering.taken mode positions next row rows _ e p) h = lowers_allowed row.names next row.body t p h.0
    distinguishes_allowed _ _ _ _ _ (lowering.all_demand mode positions next k x row rows a e f g p) h =
        cases_allowed mode false positions next k (row ∷ rows) _ _ a p h
    distinguishes_allowed _ _ _ _ _ (lowering.first_constructor mode positions next k x c row rows a e f g i p) h =
        cases_allowed mode true positions next k (row ∷ rows) _ _ a p h
    distinguishes_allowed _ _ _ _ _ (lowering.first_literal mode positions next k x equal l row rows a b e f g i is p q) h = (
      lowest levels level equal (lowest_of _ equal is),
      allowed_append levels level (mentions a) (mentions b ++ [])
          (distinguishes_allowed mode _ next _ a p (specialize_allowed levels level k [] (goes_on true (demands_literal l)) (row ∷ rows) h))
          (allowed_append levels level (mentions b) []
          (distinguishes_allowed mode positions next _ b q (filter_allowed levels level (λ one. not_literal l (demand_at k one)) (row ∷ rows) h)) tt),
    )

    pub cases_allowed : (mode : Mode) (v : Bool) (positions : List ℕ) (next k : ℕ) (rows : List Row) (cs : List ConId) (ls : List Lit) (a : Alternatives)
        → Cases program mode v positions next k rows cs ls a → RowsAllowed levels level rows → AllAllowed levels level (alternative_mentions a)
    cases_allowed _ _ _ _ _ _ _ _ _ (lowering.no_case mode v positions next k rows) h = tt
    cases_allowed _ _ _ _ _ _ _ _ _ (lowering.constructor_case mode v positions next k n xs rows c cs ls t a e f p q) h =
        allowed_append levels level (mentions t) (alternative_mentions a)
        (distinguishes_allowed mode _ (next + n) _ t p (specialize_allowed levels level k xs (goes_on v (demands_constructor c)) rows h))
        (cases_allowed mode v positions next k rows cs ls a q h)
    cases_allowed _ _ _ _ _ _ _ _ _ (lowering.literal_of_case mode v positions next k rows l ls t a p q) h =
        allowed_append levels level (mentions t) (alternative_mentions a)
        (distinguishes_allowed mode _ next _ t p (specialize_allowed levels level k [] (goes_on v (demands_literal l)) rows h))
        (cases_allowed mode v positions next k rows [] ls a q h)

-- ---- functions

function_allowed : (program : Program) (levels : List ℕ) (level : ℕ) (function low : Function) → AreLowest program levels
    → FunctionLowers program function low → AllAllowed levels level (body_mentions function.body)
    → AllAllowed levels level (body_mentions low.body)
function_allowed program levels level function _ h (lowered.external o low e f) all =
    subst (λ (g : Function). AllAllowed levels level (body_mentions g.body)) (sym f) all
function_allowed program levels level function _ h (lowered.by_tree rules xs t low e f p g) all =
    let rows = rules_allowed levels level xs rules (subst (λ (b : Body). AllAllowed levels level (body_mentions b)) e all) in
    subst (λ (x : Function). AllAllowed levels level (body_mentions x.body)) (sym g)
    (allowed_append levels level (mentions t) [] (tree_allowed program levels level h xs (suc function.arity) (map (row_of_rule xs) rules) t p rows) tt)

-- what stands at a place of a list of the same length
pub stands_too : (xs ys : List Function) (k : ℕ) (x : Function) → length xs ≡ length ys → slice_get xs k ≡ Some x
    → (y : Function) × (slice_get ys k ≡ Some y)
stands_too [] ys k x e h = let no : ⊥ = cc in absurd no
stands_too (z ∷ xs) [] k x e h = absurd (omega arith)
stands_too (z ∷ xs) (y ∷ ys) zero x e h = (y, refl)
stands_too (z ∷ xs) (y ∷ ys) (suc k) x e h = stands_too xs ys k x (omega arith) h

pub levels_kept : (program flat : Program) (levels : List ℕ) → Flattens program flat → AreLevels program levels → AreLowest program levels
    → AreLevels flat levels
levels_kept program flat levels flattens are lowest = record {
  each = are.each ∙ sym flattens.each;
  allowed = λ k m low mention e f.
      let found = stands_too flat.functions program.functions k low flattens.each e in
      let function = found.0 in
      let all = allowed_from levels (slice_index levels k) (body_mentions function.body) (λ j n g. are.allowed k j function n found.1 g) in
      allowed_at levels (slice_index levels k) (body_mentions low.body) m mention
      (function_allowed program levels (slice_index levels k) function low lowest (flattens.functions k function low found.1 e) all) f;
}

-- ---- least levels

-- levels, where the one at a place is 0
abbrev grounded : ℕ → List ℕ → List ℕ
grounded k [] = []
grounded zero (x ∷ xs) = 0 ∷ xs
grounded (suc k) (x ∷ xs) = x ∷ grounded k xs

grounded_length : (k : ℕ) (xs : List ℕ) → length (grounded k xs) ≡ length xs
grounded_length k [] = refl
grounded_length zero (x ∷ xs) = refl
grounded_length (suc k) (x ∷ xs) = ap suc (grounded_length k xs)

grounded_there : (k : ℕ) (xs : List ℕ) → slice_index (grounded k xs) k ≡ 0
grounded_there k [] = refl
grounded_there zero (x ∷ xs) = refl
grounded_there (suc k) (x ∷ xs) = grounded_there k xs

grounded_low : (k j : ℕ) (xs : List ℕ) → slice_index (grounded k xs) j ≤ slice_index xs j
grounded_low k j [] = omega arith
grounded_low zero zero (x ∷ xs) = omega arith
grounded_low zero (suc j) (x ∷ xs) = omega arith
grounded_low (suc k) zero (x ∷ xs) = omega arith
grounded_low (suc k) (suc j) (x ∷ xs) = grounded_low k j xs

grounded_other : (k j : ℕ) (xs : List ℕ) → (k < j) ⊎ (j < k) → slice_index (grounded k xs) j ≡ slice_index xs j
grounded_other k j [] h = refl
grounded_other zero zero (x ∷ xs) (inl h) = absurd (omega arith)
grounded_other zero zero (x ∷ xs) (inr h) = absurd (omega arith)
grounded_other zero (suc j) (x ∷ xs) h = refl
grounded_other (suc k) zero (x ∷ xs) h = refl
grounded_other (suc k) (suc j) (x ∷ xs) (inl h) = grounded_other k j xs (inl (omega arith))
grounded_other (suc k) (suc j) (x ∷ xs) (inr h) = grounded_other k j xs (inr (omega arith))

allows_lower : (levels others : List ℕ) (level : ℕ) (m : Mention) → ((j : ℕ) → slice_index others j ≤ slice_index levels j)
    → Allows levels level m → Allows others level m
allows_lower levels others level (Plain f) h k = let low = h f.0 in omega arith
allows_lower levels others level (Collected f) h k = let low = h f.0 in omega arith

some_is : (x y : Function) (found : Option Function) → found ≡ Some x → found ≡ Some y → x ≡ y
some_is x y found e f = cc

no_element : (m : ℕ) (mention : Mention) → slice_get (body_mentions (Rules [])) m ≡ Some mention → ⊥
no_element m mention e = cc

pub operations_lowest : (program : Program) (levels : List ℕ) → AreLeastLevels program levels → AreLowest program levels
operations_lowest program levels least operation f is =
    let others = grounded f.0 levels in
    let low = least.least others f.0 are in
    let none : slice_index others f.0 ≡ 0 = grounded_there f.0 levels in
    omega arith
  where
    by : (k m : ℕ) (function : Function) (mention : Mention) → slice_get program.functions k ≡ Some function
        → slice_get (body_mentions function.body) m ≡ Some mention → (k ≡ f.0) ⊎ ((k < f.0) ⊎ (f.0 < k))
        → Allows (grounded f.0 levels) (slice_index (grounded f.0 levels) k) mention
    by k m function mention e g (inl same) =
        let there : slice_get program.functions f.0 ≡ Some function = subst (λ (n : ℕ). slice_get program.functions n ≡ Some function) same e in
        let one : function ≡ is.function = some_is function is.function (slice_get program.functions f.0) there is.is_there in
        let body : function.body ≡ External operation = ap (λ (x : Function). x.body) one ∙ is.is_built_in in
        let nothing : slice_get (body_mentions (External operation)) m ≡ Some mention =
        subst (λ (b : Body). slice_get (body_mentions b) m ≡ Some mention) body g in
        absurd (no_element m mention nothing)
    by k m function mention e g (inr (inl less)) =
        subst (λ (n : ℕ). Allows (grounded f.0 levels) n mention) (sym (grounded_other f.0 k levels (inr less)))
        (allows_lower levels (grounded f.0 levels) (slice_index levels k) mention (λ j. grounded_low f.0 j levels)
        (least.are_levels.allowed k m function mention e g))
    by k m function mention e g (inr (inr more)) =
        subst (λ (n : ℕ). Allows (grounded f.0 levels) n mention) (sym (grounded_other f.0 k levels (inl more)))
        (allows_lower levels (grounded f.0 levels) (slice_index levels k) mention (λ j. grounded_low f.0 j levels)
        (least.are_levels.allowed k m function mention e g))

    are : AreLevels program (grounded f.0 levels)
    are = record {
      each = grounded_length f.0 levels ∙ least.are_levels.each;
      allowed = λ k m function mention e g. by k m function mention e g (cases_order k f.0);
    }
