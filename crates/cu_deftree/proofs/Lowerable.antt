-- Each term, tree and case distinction of a valid program can be lowered, where the program has the operations that lowering
-- puts into bodies.
use Rattle.std.proofs.Common.{◌≡◌, ℕ, zero, suc, ◌+◌, ◌<◌, ◌≤◌, ◌⊎◌, inl, inr, Bool, true, false, not, ◌&&◌, ◌||◌, List, [], ◌∷◌, filter, length, map, replicate, Option, None, Some, slice_get, IsTrue, IsFalse, refl, ap, sym, ◌∙◌, subst, arith, true≢false}
use Rattle.std.specs.List.{list_all, list_any}
use Rattle.std.proofs.lemmas.Bool.{and_parts}
use Rattle.cu_calculus.specs.declared.ConId.{ConId}
use Rattle.cu_calculus.specs.declared.Lit.{Lit}
use Rattle.cu_calculus.specs.declared.Mode.{Mode}
use Rattle.cu_calculus.specs.declared.Mode.TheVariants.{Flex}
use Rattle.cu_calculus.specs.Choose.{ALiteral, AConstructor, Demand, Nothing, arguments_of, demand_of, is_demanding, leftmost, not_literal, spliced, demands_constructor, demands_literal, demands_nothing}
use Rattle.cu_calculus.specs.Program.{Body, External, Function, Program, Rules}
use Rattle.cu_calculus.specs.Term as term
use Rattle.cu_calculus.specs.Term.{Alternatives, Pattern, Term, Terms}
use Rattle.cu_calculus.specs.Valid.{IsValid, also, fit_alternatives, fit_terms, fits_body, fits_function, fits_pattern, fits_term, is_arity}
use Rattle.cu_calculus.proofs.Fitting.{any, fits_any, fits_bound}
use Rattle.cu_calculus.proofs.ValuesOf.{fits_part, fits_whole}
use Rattle.cu_deftree.specs.Lowering as lowering
use Rattle.cu_deftree.specs.Lowering.{AllLower, Branches, Cases, Distinguishes, HasOperations, IsOperation, Lowers, Tree, failure, goes_on, is_variable, literal_case, variables}
use Rattle.cu_deftree.specs.Rows.{Names, Row, constructor_arity, constructors_at, demand_at, demanded_by_all, demands, literals_at, name_of, numbers, row_of_rule, rows_of, siblings, specialize}
use Rattle.cu_deftree.specs.LoweredProgram as lowered
use Rattle.cu_deftree.specs.LoweredProgram.{Flattens, FunctionLowers}
use Rattle.cu_deftree.proofs.Alternatives.{alternatives_fit}
use Rattle.cu_deftree.proofs.Converse.{low_bound, low_on, numbers_count, numbers_low}
use Rattle.cu_deftree.proofs.Opening.{AllLow, Low, spliced_put}
use Rattle.cu_deftree.proofs.Sound.{all_rules_fit, rows_of_rules_fit}
use Rattle.cu_deftree.proofs.Suits.{RowFits, RowsFit, built_count, filter_fits, opens_literal, specialize_fits, there_too}
use Rattle.cu_deftree.proofs.Weights.{all_demanding, alternatives_lighter, demanding_lighter, leftmost_demands, not_literal_lighter, others_lighter, rows_weight, specialize_lighter, term_weight, terms_weight}

-- ---- rows over arguments

-- what passes a test at a position has as many arguments as there are new positions
abbrev pub Counts : Program → ℕ → (Demand → Bool) → Type 0
Counts program n test = (p : Pattern) → test (demand_of p) ≡ true → IsTrue (fits_pattern program p) → length (arguments_of n p) ≡ n

pub counts_literal : (program : Program) (l : Lit) → Counts program 0 (demands_literal l)
counts_literal program l p w f = (opens_literal p l w).many

pub counts_constructor : (program : Program) (c : ConId) (n : ℕ) → n ≡ constructor_arity program c → Counts program n (demands_constructor c)
counts_constructor program c n e p w f = built_count program c p n w f e

replicated : (n x : ℕ) → length (replicate n (term.Any x)) ≡ n
replicated zero x = refl
replicated (suc n) x = ap suc (replicated n x)

counts_any : (p : Pattern) (n : ℕ) → demands_nothing (demand_of p) ≡ true → length (arguments_of n p) ≡ n
counts_any (term.Any x) n e = replicated n x
counts_any (term.Named x p) n e = counts_any p n e
counts_any (term.Exactly l) n e = let no : ⊥ = cc in absurd no
counts_any (term.Built c ps) n e = let no : ⊥ = cc in absurd no

either : (a b c : Bool) → (a || (b && c)) ≡ true → (a ≡ true) ⊎ (c ≡ true)
either true b c e = inl refl
either false true c e = inr e
either false false c e = let no : ⊥ = cc in absurd no

pub counts_goes_on : (program : Program) (n : ℕ) (b : Bool) (test : Demand → Bool) → Counts program n test → Counts program n (goes_on b test)
counts_goes_on program n b test counts p w f = by (either (test (demand_of p)) b (demands_nothing (demand_of p)) w)
  where
    by : (test (demand_of p) ≡ true) ⊎ (demands_nothing (demand_of p) ≡ true) → length (arguments_of n p) ≡ n
    by (inl wanted) = counts p wanted f
    by (inr nothing) = counts_any p n nothing

-- the rows of a branch fit over its positions
pub branch_fits : (program : Program) (positions : List ℕ) (next n k position : ℕ) (new : List ℕ) (test : Demand → Bool) (rows : List Row)
    → new ≡ numbers next n → slice_get positions k ≡ Some position → Counts program n test → RowsFit program positions next rows
    → RowsFit program (spliced k new positions) (next + n) (specialize k new test rows)
branch_fits program positions next n k position new test rows is e counts fit =
    let many : length new ≡ n = ap length is ∙ numbers_count next n in
    let low : AllLow (next + n) new = subst (λ (xs : List ℕ). AllLow (next + n) xs) (sym is) (numbers_low next (next + n) n (omega arith)) in
    subst (λ (xs : List ℕ). RowsFit program xs (next + n) (specialize k new test rows)) (sym (spliced_put k new positions position e))
    (specialize_fits program positions next (next + n) k position new test rows (omega arith) low e
    (subst (λ (m : ℕ). Counts program m test) (sym many) counts) fit)

pub literal_branch_fits : (program : Program) (positions : List ℕ) (next k position : ℕ) (test : Demand → Bool) (rows : List Row)
    → slice_get positions k ≡ Some position → Counts program 0 test → RowsFit program positions next rows
    → RowsFit program (spliced k [] positions) next (specialize k [] test rows)
literal_branch_fits program positions next k position test rows e counts fit =
    subst (λ (xs : List ℕ). RowsFit program xs next (specialize k [] test rows)) (sym (spliced_put k [] positions position e))
    (specialize_fits program positions next next k position [] test rows (omega arith) tt e counts fit)

-- a position that patterns have
position_there : (program : Program) (positions : List ℕ) (next k : ℕ) (row : Row) (p : Pattern) → RowFits program positions next row
    → slice_get row.patterns k ≡ Some p → (position : ℕ) × (slice_get positions k ≡ Some position)
position_there program positions next k row p fits e = there_too positions row.patterns k p (sym fits.many) e

demanded_there : (k : ℕ) (row : Row) → demands k row ≡ true → (p : Pattern) × (slice_get row.patterns k ≡ Some p)
demanded_there k row e = by (slice_get row.patterns k) refl
  where
    by : (found : Option Pattern) → slice_get row.patterns k ≡ found → (p : Pattern) × (slice_get row.patterns k ≡ Some p)
    by (Some p) f = (p, f)
    by None f =
        let nothing = ap (λ (o : Option Pattern). is_demanding (elim o [ Some q ↦ demand_of q | None ↦ Nothing ])) f in
        absurd (true≢false (sym e ∙ nothing))

-- ---- what is lowered

abbrev Lowered : Program → Names → ℕ → Term → Type 0
Lowered program names next t = (u : Term) × Lowers program names next t u

-- everything that weighs less than a number can be lowered
record Below (program : Program) (n : ℕ) : Type 0 where
  pub terms : (names : Names) (next : ℕ) (t : Term) → term_weight t < n → Low next names → IsTrue (fits_term program any t)
      → Lowered program names next t
  pub trees : (positions : List ℕ) (next : ℕ) (rows : List Row) → rows_weight rows < n → RowsFit program positions next rows
      → (t : Term) × Tree program positions next rows t
  pub cases : (mode : Mode) (positions : List ℕ) (next : ℕ) (rows : List Row) → rows_weight rows < n → RowsFit program positions next rows
      → (t : Term) × Distinguishes program mode positions next rows t

nothing_below : (program : Program) → Below program 0
nothing_below program = record {
  terms = λ names next t l. absurd (omega arith);
  trees = λ positions next rows l. absurd (omega arith);
  cases = λ mode positions next rows l. absurd (omega arith);
}

-- a variable, or another term
abbrev VariableOrNot : Term → Type 0
VariableOrNot a = ((x : ℕ) × (a ≡ term.Variable x)) ⊎ IsFalse (is_variable a)

variable_or_not : (a : Term) → VariableOrNot a
variable_or_not (term.Variable x) = inl (x, refl)
variable_or_not (term.Literal l) = inr refl
variable_or_not (term.Whole h ts) = inr refl
variable_or_not (term.Part h ts) = inr refl
variable_or_not (term.Apply f a) = inr refl
variable_or_not (term.Let x a b) = inr refl
variable_or_not (term.Free x t) = inr refl
variable_or_not (term.Or a b) = inr refl
variable_or_not (term.Case mode a alternatives) = inr refl

module _ (program : Program) (operations : HasOperations program) (n : ℕ) (below : Below program n) where
  all_lower : (names : Names) (next : ℕ) (ts : Terms) → terms_weight ts ≤ n → Low next names → IsTrue (fit_terms program any ts)
      → (us : Terms) × AllLower program names next ts us
  all_lower names next term.NoTerm l low fits = (term.NoTerm, lowering.no_term names next)
  all_lower names next (term.MoreTerms t ts) l low fits =
      let parts = and_parts (fits_term program any t) (fit_terms program any ts) fits in
      let one = below.terms names next t (omega arith) low parts.0 in
      let rest = all_lower names next ts (omega arith) low parts.1 in
      (term.MoreTerms one.0 rest.0, lowering.more_terms names next t one.0 ts rest.0 one.1 rest.1)

  case_on_variable : (names : Names) (next x : ℕ) (mode : Mode) (alternatives : Alternatives)
      → term_weight (term.Case mode (term.Variable x) alternatives) < suc n → Low next names
      → IsTrue (fits_term program any (term.Case mode (term.Variable x) alternatives))
      → Lowered program names next (term.Case mode (term.Variable x) alternatives)
  case_on_variable names next x mode alternatives l low fits =
      let parts = and_parts (fits_term program any (term.Variable x)) (fit_alternatives program any alternatives) fits in
      let position = name_of names x in
      let weight = alternatives_lighter names position alternatives in
      let fit = alternatives_fit program names position next alternatives (low x) low parts.1 in
      let found = below.cases mode (position ∷ []) next (rows_of names position alternatives) (omega arith) fit in
      (found.0, lowering.on_variable names next x mode alternatives found.0 found.1)

  case_on_term : (names : Names) (next : ℕ) (mode : Mode) (a : Term) (alternatives : Alternatives) → IsFalse (is_variable a)
      → term_weight (term.Case mode a alternatives) < suc n → Low next names → IsTrue (fits_term program any (term.Case mode a alternatives))
      → Lowered program names next (term.Case mode a alternatives)
  case_on_term names next mode a alternatives is l low fits =
      let parts = and_parts (fits_term program any a) (fit_alternatives program any alternatives) fits in
      let weight = alternatives_lighter names next alternatives in
      let bound = below.terms names next a (omega arith) low parts.0 in
      let fit = alternatives_fit program names next (suc next) alternatives (omega arith) (low_on next names low) parts.1 in
      let found = below.cases mode (next ∷ []) (suc next) (rows_of names next alternatives) (omega arith) fit in (
        term.Let next bound.0 found.0,
        lowering.on_term names next mode a bound.0 alternatives found.0 is bound.1 found.1,
      )

  lower_case : (names : Names) (next : ℕ) (mode : Mode) (a : Term) (alternatives : Alternatives) → VariableOrNot a
      → term_weight (term.Case mode a alternatives) < suc n → Low next names → IsTrue (fits_term program any (term.Case mode a alternatives))
      → Lowered program names next (term.Case mode a alternatives)
  lower_case names next mode a alternatives (inl is) l low fits =
      let is_case = ap (λ (c : Term). term.Case mode c alternatives) is.1 in
      subst (λ (c : Term). Lowered program names next c) (sym is_case)
      (case_on_variable names next is.0 mode alternatives (subst (λ (c : Term). term_weight c < suc n) is_case l) low
      (subst (λ (c : Term). IsTrue (fits_term program any c)) is_case fits))
  lower_case names next mode a alternatives (inr is) l low fits = case_on_term names next mode a alternatives is l low fits

  lower_term : (names : Names) (next : ℕ) (t : Term) → term_weight t < suc n → Low next names → IsTrue (fits_term program any t)
      → Lowered program names next t
  lower_term names next (term.Variable x) l low fits = (term.Variable (name_of names x), lowering.variable names next x)
  lower_term names next (term.Literal k) l low fits = (term.Literal k, lowering.literal names next k)
  lower_term names next (term.Whole h ts) l low fits =
      let parts = all_lower names next ts (omega arith) low (fits_whole program h ts fits).1 in
      (term.Whole h parts.0, lowering.whole names next h ts parts.0 parts.1)
  lower_term names next (term.Part h ts) l low fits =
      let parts = all_lower names next ts (omega arith) low (fits_part program h ts fits).1 in
      (term.Part h parts.0, lowering.part names next h ts parts.0 parts.1)
  lower_term names next (term.Apply f a) l low fits =
      let parts = and_parts (fits_term program any f) (fits_term program any a) fits in
      let one = below.terms names next f (omega arith) low parts.0 in
      let two = below.terms names next a (omega arith) low parts.1 in
      (term.Apply one.0 two.0, lowering.applied names next f a one.0 two.0 one.1 two.1)
  lower_term names next (term.Let x a b) l low fits =
      let parts = fits_bound program x a b fits in
      let one = below.terms names next a (omega arith) low parts.0 in
      let two = below.terms ((x, next) ∷ names) (suc next) b (omega arith) (low_bound next x names low) parts.1 in
      (term.Let next one.0 two.0, lowering.bound names next x a b one.0 two.0 one.1 two.1)
  lower_term names next (term.Free x a) l low fits =
      let one = below.terms ((x, next) ∷ names) (suc next) a (omega arith) (low_bound next x names low) (fits_any program (also x any) a fits) in
      (term.Free next one.0, lowering.free names next x a one.0 one.1)
  lower_term names next (term.Or a b) l low fits =
      let parts = and_parts (fits_term program any a) (fits_term program any b) fits in
      let one = below.terms names next a (omega arith) low parts.0 in
      let two = below.terms names next b (omega arith) low parts.1 in
      (term.Or one.0 two.0, lowering.either names next a b one.0 two.0 one.1 two.1)
  lower_term names next (term.Case mode a alternatives) l low fits =
      lower_case names next mode a alternatives (variable_or_not a) l low fits

  -- ---- branches over rows, of which the first demands the position

  record Opened (positions : List ℕ) (next k position : ℕ) (rows : List Row) : Type 0 where
    pub there : slice_get positions k ≡ Some position
    pub fit : RowsFit program positions next rows
    pub lighter : (new : List ℕ) (test : Demand → Bool) → rows_weight (specialize k new test rows) < n

  branches : (positions : List ℕ) (next k position : ℕ) (rows : List Row) → Opened positions next k position rows → (cs : List ConId) (ls : List Lit)
      → (a : Alternatives) × Branches program positions next k rows cs ls a
  branches positions next k position rows opened [] [] = (term.NoAlternative, lowering.no_branch positions next k rows)
  branches positions next k position rows opened [] (l ∷ ls) =
      let one = below.trees (spliced k [] positions) next (specialize k [] (demands_literal l) rows) (opened.lighter [] (demands_literal l))
      (literal_branch_fits program positions next k position (demands_literal l) rows opened.there (counts_literal program l) opened.fit) in
      let rest = branches positions next k position rows opened [] ls in
      (term.MoreAlternatives (term.Exactly l) one.0 rest.0, lowering.literal_branch positions next k rows l ls one.0 rest.0 one.1 rest.1)
  branches positions next k position rows opened (c ∷ cs) ls =
      let m = constructor_arity program c in
      let new = numbers next m in
      let one = below.trees (spliced k new positions) (next + m) (specialize k new (demands_constructor c) rows) (opened.lighter new (demands_constructor c))
      (branch_fits program positions next m k position new (demands_constructor c) rows refl opened.there (counts_constructor program c m refl) opened.fit) in
      let rest = branches positions next k position rows opened cs ls in (
        term.MoreAlternatives (term.Built c (variables new)) one.0 rest.0,
        lowering.constructor_branch positions next k m new rows c cs ls one.0 rest.0 refl refl one.1 rest.1,
      )

  case_branches : (mode : Mode) (b : Bool) (positions : List ℕ) (next k position : ℕ) (rows : List Row) → Opened positions next k position rows
      → (cs : List ConId) (ls : List Lit) → (a : Alternatives) × Cases program mode b positions next k rows cs ls a
  case_branches mode b positions next k position rows opened [] [] = (term.NoAlternative, lowering.no_case mode b positions next k rows)
  case_branches mode b positions next k position rows opened [] (l ∷ ls) =
      let test = goes_on b (demands_literal l) in
      let counts = counts_goes_on program 0 b (demands_literal l) (counts_literal program l) in
      let one = below.cases mode (spliced k [] positions) next (specialize k [] test rows) (opened.lighter [] test)
      (literal_branch_fits program positions next k position test rows opened.there counts opened.fit) in
      let rest = case_branches mode b positions next k position rows opened [] ls in
      (term.MoreAlternatives (term.Exactly l) one.0 rest.0, lowering.literal_of_case mode b positions next k rows l ls one.0 rest.0 one.1 rest.1)
  case_branches mode b positions next k position rows opened (c ∷ cs) ls =
      let m = constructor_arity program c in
      let new = numbers next m in
      let test = goes_on b (demands_constructor c) in
      let counts = counts_goes_on program m b (demands_constructor c) (counts_constructor program c m refl) in
      let one = below.cases mode (spliced k new positions) (next + m) (specialize k new test rows) (opened.lighter new test)
      (branch_fits program positions next m k position new test rows refl opened.there counts opened.fit) in
      let rest = case_branches mode b positions next k position rows opened cs ls in (
        term.MoreAlternatives (term.Built c (variables new)) one.0 rest.0,
        lowering.constructor_case mode b positions next k m new rows c cs ls one.0 rest.0 refl refl one.1 rest.1,
      )

  opened_at : (positions : List ℕ) (next k : ℕ) (row : Row) (rows : List Row) → rows_weight (row ∷ rows) < suc n → demands k row ≡ true
      → RowsFit program positions next (row ∷ rows) → (position : ℕ) × Opened positions next k position (row ∷ rows)
  opened_at positions next k row rows l e fit =
      let there = demanded_there k row e in
      let position = position_there program positions next k row there.0 fit.0 there.1 in (
        position.0,
        record {
          there = position.1;
          fit = fit;
          lighter = λ new test. let less = specialize_lighter k new test row rows e in omega arith;
        },
      )

  -- ---- trees

  tree_with_rest : (positions : List ℕ) (next : ℕ) (row : Row) (rows : List Row) → rows_weight (row ∷ rows) < suc n
      → RowsFit program positions next (row ∷ rows) → leftmost row.patterns ≡ None → (t : Term) × Tree program positions next (row ∷ rows) t
  tree_with_rest positions next row [] l fit e =
      let one = below.terms row.names next row.body (omega arith) fit.0.low fit.0.right in (one.0, lowering.rule positions next row one.0 e one.1)
  tree_with_rest positions next row (other ∷ rows) l fit e =
      let one = below.terms row.names next row.body (omega arith) fit.0.low fit.0.right in
      let rest = below.trees positions next (other ∷ rows) (omega arith) fit.1 in
      (term.Or one.0 rest.0, lowering.overlap positions next row other rows one.0 rest.0 e one.1 rest.1)

  tree_by : (positions : List ℕ) (next : ℕ) (row : Row) (rows : List Row) → rows_weight (row ∷ rows) < suc n
      → RowsFit program positions next (row ∷ rows) → (first by_all : Option ℕ) → leftmost row.patterns ≡ first
      → demanded_by_all (row ∷ rows) ≡ by_all → (t : Term) × Tree program positions next (row ∷ rows) t
  tree_by positions next row rows l fit None by_all e f = tree_with_rest positions next row rows l fit e
  tree_by positions next row rows l fit (Some j) (Some k) e f =
      let opened = opened_at positions next k row rows l (all_demanding row rows k f) fit in
      let found = branches positions next k opened.0 (row ∷ rows) opened.1 (constructors_at program k (row ∷ rows)) (literals_at k (row ∷ rows)) in (
        term.Case Flex (term.Variable opened.0) found.0,
        lowering.branch positions next k opened.0 row rows found.0 f opened.1.there found.1,
      )
  tree_by positions next row rows l fit (Some k) None e f =
      let less = demanding_lighter row rows k f e in
      let fewer = others_lighter row rows k e in
      let one = below.trees positions next (filter (demands k) (row ∷ rows)) (omega arith)
      (filter_fits program positions next (demands k) (row ∷ rows) fit) in
      let two = below.trees positions next (filter (λ other. not (demands k other)) (row ∷ rows)) (omega arith)
      (filter_fits program positions next (λ other. not (demands k other)) (row ∷ rows) fit) in
      (term.Or one.0 two.0, lowering.split positions next k row rows one.0 two.0 f e one.1 two.1)

  lower_tree : (positions : List ℕ) (next : ℕ) (rows : List Row) → rows_weight rows < suc n → RowsFit program positions next rows
      → (t : Term) × Tree program positions next rows t
  lower_tree positions next [] l fit =
      (failure operations.failed.0, lowering.no_rules positions next operations.failed.0 operations.failed.1)
  lower_tree positions next (row ∷ rows) l fit =
      tree_by positions next row rows l fit (leftmost row.patterns) (demanded_by_all (row ∷ rows)) refl refl

  -- ---- case distinctions

  some_variable : (mode : Mode) (positions : List ℕ) (next k position : ℕ) (row : Row) (rows : List Row) → rows_weight (row ∷ rows) < suc n
      → leftmost row.patterns ≡ Some k → Opened positions next k position (row ∷ rows)
      → IsTrue (list_any (λ other. not (demands k other)) (row ∷ rows)) → (demand : Demand) → demand_at k row ≡ demand
      → (t : Term) × Distinguishes program mode positions next (row ∷ rows) t
  some_variable mode positions next k position row rows l e opened some Nothing d =
      absurd (true≢false (sym (leftmost_demands row k e) ∙ ap is_demanding d))
  some_variable mode positions next k position row rows l e opened some (AConstructor c) d =
      let found = case_branches mode true positions next k position (row ∷ rows) opened (siblings program c) [] in (
        term.Case mode (term.Variable position) found.0,
        lowering.first_constructor mode positions next k position c row rows found.0 e opened.there some d found.1,
      )
  some_variable mode positions next k position row rows l e opened some (ALiteral m) d =
      let test = goes_on true (demands_literal m) in
      let counts = counts_goes_on program 0 true (demands_literal m) (counts_literal program m) in
      let less = not_literal_lighter row rows k m d in
      let same = below.cases mode (spliced k [] positions) next (specialize k [] test (row ∷ rows)) (opened.lighter [] test)
      (literal_branch_fits program positions next k position test (row ∷ rows) opened.there counts opened.fit) in
      let other = below.cases mode positions next (filter (λ one. not_literal m (demand_at k one)) (row ∷ rows)) (omega arith)
      (filter_fits program positions next (λ one. not_literal m (demand_at k one)) (row ∷ rows) opened.fit) in (
        literal_case program operations.equal.0 position m same.0 other.0,
        lowering.first_literal mode positions next k position operations.equal.0 m row rows same.0 other.0 e opened.there some d
            operations.equal.1 same.1 other.1,
      )

  case_at : (mode : Mode) (positions : List ℕ) (next k position : ℕ) (row : Row) (rows : List Row) → rows_weight (row ∷ rows) < suc n
      → leftmost row.patterns ≡ Some k → Opened positions next k position (row ∷ rows) → (b : Bool)
      → list_any (λ other. not (demands k other)) (row ∷ rows) ≡ b → (t : Term) × Distinguishes program mode positions next (row ∷ rows) t
  case_at mode positions next k position row rows l e opened true some =
      some_variable mode positions next k position row rows l e opened some (demand_at k row) refl
  case_at mode positions next k position row rows l e opened false none =
      let found = case_branches mode false positions next k position (row ∷ rows) opened (constructors_at program k (row ∷ rows)) (literals_at k (row ∷ rows)) in (
        term.Case mode (term.Variable position) found.0,
        lowering.all_demand mode positions next k position row rows found.0 e opened.there none found.1,
      )

  case_by : (mode : Mode) (positions : List ℕ) (next : ℕ) (row : Row) (rows : List Row) → rows_weight (row ∷ rows) < suc n
      → RowsFit program positions next (row ∷ rows) → (first : Option ℕ) → leftmost row.patterns ≡ first
      → (t : Term) × Distinguishes program mode positions next (row ∷ rows) t
  case_by mode positions next row rows l fit None e =
      let one = below.terms row.names next row.body (omega arith) fit.0.low fit.0.right in (one.0, lowering.taken mode positions next row rows one.0 e one.1)
  case_by mode positions next row rows l fit (Some k) e =
      let opened = opened_at positions next k row rows l (leftmost_demands row k e) fit in
      case_at mode positions next k opened.0 row rows l e opened.1 (list_any (λ other. not (demands k other)) (row ∷ rows)) refl

  lower_cases : (mode : Mode) (positions : List ℕ) (next : ℕ) (rows : List Row) → rows_weight rows < suc n → RowsFit program positions next rows
      → (t : Term) × Distinguishes program mode positions next rows t
  lower_cases mode positions next [] l fit =
      (failure operations.failed.0, lowering.no_alternatives mode positions next operations.failed.0 operations.failed.1)
  lower_cases mode positions next (row ∷ rows) l fit = case_by mode positions next row rows l fit (leftmost row.patterns) refl

  one_more : Below program (suc n)
  one_more = record { terms = lower_term; trees = lower_tree; cases = lower_cases }

all_below : (program : Program) → HasOperations program → (n : ℕ) → Below program n
all_below program operations zero = nothing_below program
all_below program operations (suc n) = one_more program operations n (all_below program operations n)

-- each tree of rows that fit
pub tree_exists : (program : Program) → HasOperations program → (positions : List ℕ) (next : ℕ) (rows : List Row)
    → RowsFit program positions next rows → (t : Term) × Tree program positions next rows t
tree_exists program operations positions next rows fit =
    (all_below program operations (suc (rows_weight rows))).trees positions next rows (omega arith) fit

-- ---- programs

pub function_exists : (program : Program) → HasOperations program → (function : Function) → IsTrue (fits_function program function)
    → (lowered : Function) × FunctionLowers program function lowered
function_exists program operations function fits = by function.body refl
  where
    by : (body : Body) → function.body ≡ body → (lowered : Function) × FunctionLowers program function lowered
    by (External operation) e = (function, lowered.external operation function e refl)
    by (Rules rules) e =
        let body = (and_parts (is_arity function.arity) (fits_body program function.arity function.body) fits).1 in
        let each : IsTrue (fits_body program function.arity (Rules rules)) =
        subst (λ (x : Body). IsTrue (fits_body program function.arity x)) e body in
        let params = numbers 1 function.arity in
        let fit = rows_of_rules_fit program function.arity params rules refl (all_rules_fit program function.arity rules each) in
        let tree = tree_exists program operations params (suc function.arity) (map (row_of_rule params) rules) fit in (
          record { arity = function.arity; body = Rules (record { params = variables params; body = tree.0 } ∷ []) },
          lowered.by_tree rules params tree.0 _ e refl tree.1 refl,
        )

-- the lowered functions of a list of functions
pub record AllLowered (program : Program) (functions : List Function) : Type 0 where
  pub lowered : List Function
  pub each : length lowered ≡ length functions
  pub lowers : (k : ℕ) (function one : Function) → slice_get functions k ≡ Some function → slice_get lowered k ≡ Some one
      → FunctionLowers program function one

functions_exist : (program : Program) → HasOperations program → (functions : List Function)
    → IsTrue (list_all (fits_function program) functions) → AllLowered program functions
functions_exist program operations [] fit = record { lowered = []; each = refl; lowers = λ k function one e f. let no : ⊥ = cc in absurd no }
functions_exist program operations (function ∷ functions) fit =
    let parts = and_parts (fits_function program function) (list_all (fits_function program) functions) fit in
    let first = function_exists program operations function parts.0 in
    let rest = functions_exist program operations functions parts.1 in
    record { lowered = first.0 ∷ rest.lowered; each = ap suc rest.each; lowers = by first.0 first.1 rest }
  where
    by : (one : Function) → FunctionLowers program function one → (rest : AllLowered program functions) → (k : ℕ) (g h : Function)
        → slice_get (function ∷ functions) k ≡ Some g → slice_get (one ∷ rest.lowered) k ≡ Some h → FunctionLowers program g h
    by one lowers rest zero g h e f =
        let same : function ≡ g = cc in
        let other : one ≡ h = cc in
        subst (λ (x : Function). FunctionLowers program x h) same (subst (λ (y : Function). FunctionLowers program function y) other lowers)
    by one lowers rest (suc k) g h e f = rest.lowers k g h e f

pub flat_exists : (program : Program) → IsValid program → HasOperations program → (flat : Program) × Flattens program flat
flat_exists program valid operations =
    let all = functions_exist program operations program.functions valid.functions in (
      record { functions = all.lowered; constructors = program.constructors; special = program.special },
      record { each = all.each; functions = all.lowers; constructors = refl; special = refl },
    )
