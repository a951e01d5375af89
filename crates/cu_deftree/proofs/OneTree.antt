-- A program has at most one flat program: what a term, rules and alternatives are lowered to is determined.
use Rattle.std.proofs.Common.{◌≡◌, ℕ, zero, suc, ◌+◌, ◌<◌, ◌⊎◌, inl, inr, Bool, true, false, not, List, [], ◌∷◌, if◌then◌else◌, filter, length, map, Option, None, Some, option_map, slice_get, refl, ap, ap₂, sym, ◌∙◌, subst, arith, true≢false}
use Rattle.std.specs.List.{list_all, list_any}
use Rattle.std.proofs.lemmas.Bool.{and_left, cases_order}
use Rattle.cu_calculus.specs.declared.ConId.{ConId}
use Rattle.cu_calculus.specs.declared.FunId.{FunId}
use Rattle.cu_calculus.specs.declared.Lit.{Lit}
use Rattle.cu_calculus.specs.declared.Mode.{Mode}
use Rattle.cu_calculus.specs.declared.Mode.TheVariants.{Flex}
use Rattle.cu_calculus.specs.declared.builtin.Primitive.{Primitive}
use Rattle.cu_calculus.specs.declared.builtin.Special.{Special}
use Rattle.cu_calculus.specs.Choose.{Demand, Nothing, demand_of, is_demanding, leftmost, not_literal, spliced, demands_constructor, demands_literal}
use Rattle.cu_calculus.specs.Program.{Constructor, Function, Program, Rule, Rules}
use Rattle.cu_calculus.specs.Term as term
use Rattle.cu_calculus.specs.Term.{Alternatives, Pattern, Term, Terms}
use Rattle.cu_deftree.specs.Lowering as lowering
use Rattle.cu_deftree.specs.Lowering.{AllLower, Branches, Cases, Distinguishes, IsOperation, Lowers, Tree, failure, goes_on, is_variable, literal_case, variables}
use Rattle.cu_deftree.specs.LoweredProgram as lowered
use Rattle.cu_deftree.specs.LoweredProgram.{Flattens, FunctionLowers}
use Rattle.cu_deftree.specs.Rows.{Names, Row, constructors_at, demand_at, demanded_by_all, demanded_from, demands, literals_at, name_of, numbers, row_of_rule, rows_of, siblings, specialize}

-- ---- operations

function_at : (f g : FunId) → f.0 ≡ g.0 → f ≡ g
function_at f g places = ap (λ (n : ℕ). let e : FunId = record { 0 = n } in e) places

-- the first function that is an operation is one
pub operation_one : (program : Program) (operation : Primitive) (f g : FunId) → IsOperation program operation f
    → IsOperation program operation g → f ≡ g
operation_one program operation f g one two = by (cases_order f.0 g.0)
  where
    by : (f.0 ≡ g.0) ⊎ ((f.0 < g.0) ⊎ (g.0 < f.0)) → f ≡ g
    by (inl same) = function_at f g same
    by (inr (inl less)) = absurd (two.first f.0 one.function less one.is_there one.is_built_in)
    by (inr (inr more)) = absurd (one.first g.0 two.function more two.is_there two.is_built_in)

-- ---- what the first row demands

undemanded_if : (b : Bool) (rest : Option ℕ) → (if b then Some 0 else option_map (λ k. k + 1) rest) ≡ None → (b ≡ false) × (rest ≡ None)
undemanded_if true rest e = let no : ⊥ = cc in absurd no
undemanded_if false None e = (refl, refl)
undemanded_if false (Some k) e = let no : ⊥ = cc in absurd no

-- what patterns demand at a place
abbrev pub demand_in : List Pattern → ℕ → Demand
demand_in ps k = elim (slice_get ps k) [ Some p ↦ demand_of p | None ↦ Nothing ]

undemanded : (ps : List Pattern) (k : ℕ) → leftmost ps ≡ None → is_demanding (demand_in ps k) ≡ false
undemanded [] k e = refl
undemanded (p ∷ ps) zero e = (undemanded_if (is_demanding (demand_of p)) (leftmost ps) e).0
undemanded (p ∷ ps) (suc k) e = undemanded ps k (undemanded_if (is_demanding (demand_of p)) (leftmost ps) e).1

unless_demanded : (b : Bool) (k : ℕ) (rest : Option ℕ) → b ≡ false → rest ≡ None → (if b then Some k else rest) ≡ None
unless_demanded true k rest e f = let no : ⊥ = cc in absurd no
unless_demanded false k rest e f = f

never_by_all : (k : ℕ) (ps : List Pattern) (row : Row) (rows : List Row) → leftmost row.patterns ≡ None
    → demanded_from k ps (row ∷ rows) ≡ None
never_by_all k [] row rows e = refl
never_by_all k (p ∷ ps) row rows e =
    unless_demanded (list_all (demands k) (row ∷ rows)) k (demanded_from (suc k) ps (row ∷ rows))
    (and_left (demands k row) (list_all (demands k) rows) (undemanded row.patterns k e)) (never_by_all (suc k) ps row rows e)

-- where the first row demands nothing, no position is demanded by all
pub none_by_all : (k : ℕ) (row : Row) (rows : List Row) → leftmost row.patterns ≡ None → demanded_by_all (row ∷ rows) ≡ Some k → ⊥
none_by_all k row rows e f = let none = never_by_all 0 row.patterns row rows e in cc

-- ---- branches at one place

moved_branches : (program : Program) (positions : List ℕ) (next k m : ℕ) (rows : List Row) (alternatives : Alternatives) → m ≡ k
    → Branches program positions next m rows (constructors_at program m rows) (literals_at m rows) alternatives
    → Branches program positions next k rows (constructors_at program k rows) (literals_at k rows) alternatives
moved_branches program positions next k m rows alternatives e h =
    subst (λ (n : ℕ). Branches program positions next n rows (constructors_at program n rows) (literals_at n rows) alternatives) e h

moved_cases : (program : Program) (mode : Mode) (positions : List ℕ) (next k m : ℕ) (rows : List Row) (alternatives : Alternatives) → m ≡ k
    → Cases program mode false positions next m rows (constructors_at program m rows) (literals_at m rows) alternatives
    → Cases program mode false positions next k rows (constructors_at program k rows) (literals_at k rows) alternatives
moved_cases program mode positions next k m rows alternatives e h =
    subst (λ (n : ℕ). Cases program mode false positions next n rows (constructors_at program n rows) (literals_at n rows) alternatives) e h

moved_siblings : (program : Program) (mode : Mode) (positions : List ℕ) (next k m : ℕ) (c d : ConId) (rows : List Row)
    (alternatives : Alternatives) → m ≡ k → d ≡ c → Cases program mode true positions next m rows (siblings program d) [] alternatives
    → Cases program mode true positions next k rows (siblings program c) [] alternatives
moved_siblings program mode positions next k m c d rows alternatives e f h =
    subst (λ (b : ConId). Cases program mode true positions next k rows (siblings program b) [] alternatives) f
    (subst (λ (n : ℕ). Cases program mode true positions next n rows (siblings program d) [] alternatives) e h)

moved_same : (program : Program) (mode : Mode) (positions : List ℕ) (next k m : ℕ) (l n : Lit) (rows : List Row) (t : Term) → m ≡ k → n ≡ l
    → Distinguishes program mode (spliced m [] positions) next (specialize m [] (goes_on true (demands_literal n)) rows) t
    → Distinguishes program mode (spliced k [] positions) next (specialize k [] (goes_on true (demands_literal l)) rows) t
moved_same program mode positions next k m l n rows t e f h =
    subst (λ (a : Lit). Distinguishes program mode (spliced k [] positions) next (specialize k [] (goes_on true (demands_literal a)) rows) t) f
    (subst (λ (i : ℕ). Distinguishes program mode (spliced i [] positions) next (specialize i [] (goes_on true (demands_literal n)) rows) t) e h)

moved_other : (program : Program) (mode : Mode) (positions : List ℕ) (next k m : ℕ) (l n : Lit) (rows : List Row) (t : Term) → m ≡ k → n ≡ l
    → Distinguishes program mode positions next (filter (λ one. not_literal n (demand_at m one)) rows) t
    → Distinguishes program mode positions next (filter (λ one. not_literal l (demand_at k one)) rows) t
moved_other program mode positions next k m l n rows t e f h =
    subst (λ (a : Lit). Distinguishes program mode positions next (filter (λ one. not_literal a (demand_at k one)) rows) t) f
    (subst (λ (i : ℕ). Distinguishes program mode positions next (filter (λ one. not_literal n (demand_at i one)) rows) t) e h)

moved_filtered : (program : Program) (positions : List ℕ) (next k m : ℕ) (rows : List Row) (t : Term) → m ≡ k
    → Tree program positions next (filter (demands m) rows) t → Tree program positions next (filter (demands k) rows) t
moved_filtered program positions next k m rows t e h = subst (λ (n : ℕ). Tree program positions next (filter (demands n) rows) t) e h

moved_others : (program : Program) (positions : List ℕ) (next k m : ℕ) (rows : List Row) (t : Term) → m ≡ k
    → Tree program positions next (filter (λ other. not (demands m other)) rows) t
    → Tree program positions next (filter (λ other. not (demands k other)) rows) t
moved_others program positions next k m rows t e h =
    subst (λ (n : ℕ). Tree program positions next (filter (λ other. not (demands n other)) rows) t) e h

moved_tree : (program : Program) (positions : List ℕ) (next k n m : ℕ) (arguments others : List ℕ) (c : ConId) (rows : List Row) (t : Term)
    → m ≡ n → others ≡ arguments
    → Tree program (spliced k others positions) (next + m) (specialize k others (demands_constructor c) rows) t
    → Tree program (spliced k arguments positions) (next + n) (specialize k arguments (demands_constructor c) rows) t
moved_tree program positions next k n m arguments others c rows t e f h =
    subst (λ (xs : List ℕ). Tree program (spliced k xs positions) (next + n) (specialize k xs (demands_constructor c) rows) t) f
    (subst (λ (i : ℕ). Tree program (spliced k others positions) (next + i) (specialize k others (demands_constructor c) rows) t) e h)

moved_case : (program : Program) (mode : Mode) (b : Bool) (positions : List ℕ) (next k n m : ℕ) (arguments others : List ℕ) (c : ConId)
    (rows : List Row) (t : Term) → m ≡ n → others ≡ arguments
    → Distinguishes program mode (spliced k others positions) (next + m) (specialize k others (goes_on b (demands_constructor c)) rows) t
    → Distinguishes program mode (spliced k arguments positions) (next + n) (specialize k arguments (goes_on b (demands_constructor c)) rows) t
moved_case program mode b positions next k n m arguments others c rows t e f h =
    let test = goes_on b (demands_constructor c) in
    subst (λ (xs : List ℕ). Distinguishes program mode (spliced k xs positions) (next + n) (specialize k xs test rows) t) f
    (subst (λ (i : ℕ). Distinguishes program mode (spliced k others positions) (next + i) (specialize k others test rows) t) e h)

-- ---- one term

one_case : (mode : Mode) (x y : ℕ) (a b : Alternatives) → x ≡ y → a ≡ b
    → term.Case mode (term.Variable x) a ≡ term.Case mode (term.Variable y) b
one_case mode x y a b e f = cc

one_literal_case : (program : Program) (f g : FunId) (x y : ℕ) (l m : Lit) (a b c d : Term) → f ≡ g → x ≡ y → l ≡ m → a ≡ c → b ≡ d
    → literal_case program f x l a b ≡ literal_case program g y m c d
one_literal_case program f g x y l m a b c d p q r s t = cc

one_branch : (c : ConId) (xs ys : List ℕ) (t u : Term) (a b : Alternatives) → xs ≡ ys → t ≡ u → a ≡ b
    → term.MoreAlternatives (term.Built c (variables xs)) t a ≡ term.MoreAlternatives (term.Built c (variables ys)) u b
one_branch c xs ys t u a b e f g = let patterns = ap variables e in cc

same_place : (k m : ℕ) (found : Option ℕ) → found ≡ Some k → found ≡ Some m → m ≡ k
same_place k m found e f = cc

same_position : (positions : List ℕ) (k m x y : ℕ) → m ≡ k → slice_get positions k ≡ Some x → slice_get positions m ≡ Some y → x ≡ y
same_position positions k m x y e f g = let here = ap (slice_get positions) e in cc

mutual
  pub lowers_one : (program : Program) (names : Names) (next : ℕ) (t u w : Term) → Lowers program names next t u → Lowers program names next t w → u ≡ w
  lowers_one program _ _ _ _ _ (lowering.variable names next x) (lowering.variable _ _ _) = refl
  lowers_one program _ _ _ _ _ (lowering.literal names next l) (lowering.literal _ _ _) = refl
  lowers_one program _ _ _ _ _ (lowering.whole names next h ts us p) (lowering.whole _ _ _ _ ws q) =
      ap (term.Whole h) (all_lower_one program names next ts us ws p q)
  lowers_one program _ _ _ _ _ (lowering.part names next h ts us p) (lowering.part _ _ _ _ ws q) =
      ap (term.Part h) (all_lower_one program names next ts us ws p q)
  lowers_one program _ _ _ _ _ (lowering.applied names next f a g b p q) (lowering.applied _ _ _ _ g' b' p' q') =
      ap₂ term.Apply (lowers_one program names next f g g' p p') (lowers_one program names next a b b' q q')
  lowers_one program _ _ _ _ _ (lowering.bound names next x a b c d p q) (lowering.bound _ _ _ _ _ c' d' p' q') =
      ap₂ (term.Let next) (lowers_one program names next a c c' p p') (lowers_one program ((x, next) ∷ names) (suc next) b d d' q q')
  lowers_one program _ _ _ _ _ (lowering.free names next x a b p) (lowering.free _ _ _ _ b' p') =
      ap (term.Free next) (lowers_one program ((x, next) ∷ names) (suc next) a b b' p p')
  lowers_one program _ _ _ _ _ (lowering.either names next a b c d p q) (lowering.either _ _ _ _ c' d' p' q') =
      ap₂ term.Or (lowers_one program names next a c c' p p') (lowers_one program names next b d d' q q')
  lowers_one program _ _ _ u w (lowering.on_variable names next x mode alternatives _ p) (lowering.on_variable _ _ _ _ _ _ q) =
      distinguishes_one program mode (name_of names x ∷ []) next (rows_of names (name_of names x) alternatives) u w p q
  lowers_one program _ _ _ _ _ (lowering.on_variable names next x mode alternatives t p) (lowering.on_term _ _ _ _ b _ t' is q r) =
      absurd (true≢false is)
  lowers_one program _ _ _ _ _ (lowering.on_term names next mode _ b alternatives t is p q) (lowering.on_variable _ _ x _ _ t' r) =
      absurd (true≢false is)
  lowers_one program _ _ _ _ _ (lowering.on_term names next mode a b alternatives t is p q) (lowering.on_term _ _ _ _ b' _ t' is' p' q') =
      ap₂ (term.Let next) (lowers_one program names next a b b' p p')
      (distinguishes_one program mode (next ∷ []) (suc next) (rows_of names next alternatives) t t' q q')

  pub all_lower_one : (program : Program) (names : Names) (next : ℕ) (ts us ws : Terms) → AllLower program names next ts us
      → AllLower program names next ts ws → us ≡ ws
  all_lower_one program _ _ _ _ _ (lowering.no_term names next) (lowering.no_term _ _) = refl
  all_lower_one program _ _ _ _ _ (lowering.more_terms names next t u ts us p ps) (lowering.more_terms _ _ _ w _ ws q qs) =
      ap₂ term.MoreTerms (lowers_one program names next t u w p q) (all_lower_one program names next ts us ws ps qs)

  pub tree_one : (program : Program) (positions : List ℕ) (next : ℕ) (rows : List Row) (t u : Term) → Tree program positions next rows t
      → Tree program positions next rows u → t ≡ u
  tree_one program _ _ _ _ _ (lowering.no_rules positions next f p) (lowering.no_rules _ _ g q) =
      ap failure (operation_one program _ f g p q)
  tree_one program _ _ _ t u (lowering.rule positions next row _ e p) (lowering.rule _ _ _ _ e' q) =
      lowers_one program row.names next row.body t u p q
  tree_one program _ _ _ _ _ (lowering.rule positions next row t e p) (lowering.branch _ _ k x _ _ alternatives f g q) =
      absurd (none_by_all k row [] e f)
  tree_one program _ _ _ _ _ (lowering.rule positions next row t e p) (lowering.split _ _ k _ _ a b f g q r) = let no : ⊥ = cc in absurd no
  tree_one program _ _ _ _ _ (lowering.overlap positions next row other rows a b e p q) (lowering.overlap _ _ _ _ _ a' b' e' p' q') =
      ap₂ term.Or (lowers_one program row.names next row.body a a' p p') (tree_one program positions next (other ∷ rows) b b' q q')
  tree_one program _ _ _ _ _ (lowering.overlap positions next row other rows a b e p q) (lowering.branch _ _ k x _ _ alternatives f g r) =
      absurd (none_by_all k row (other ∷ rows) e f)
  tree_one program _ _ _ _ _ (lowering.overlap positions next row other rows a b e p q) (lowering.split _ _ k _ _ a' b' f g r s) =
      let no : ⊥ = cc in absurd no
  tree_one program _ _ _ _ _ (lowering.branch positions next k x row _ alternatives f g q) (lowering.rule _ _ _ t e p) =
      absurd (none_by_all k row [] e f)
  tree_one program _ _ _ _ _ (lowering.branch positions next k x row _ alternatives f g r) (lowering.overlap _ _ _ other rows a b e p q) =
      absurd (none_by_all k row (other ∷ rows) e f)
  tree_one program _ _ _ _ _ (lowering.branch positions next k x row rows a f g p) (lowering.branch _ _ m y _ _ b f' g' q) =
      let place = same_place k m (demanded_by_all (row ∷ rows)) f f' in
      one_case Flex x y a b (same_position positions k m x y place g g')
      (branches_one program positions next k (row ∷ rows) (constructors_at program k (row ∷ rows)) (literals_at k (row ∷ rows)) a b p
      (moved_branches program positions next k m (row ∷ rows) b place q))
  tree_one program _ _ _ _ _ (lowering.branch positions next k x row rows a f g p) (lowering.split _ _ m _ _ b c f' g' q r) =
      let no : ⊥ = cc in absurd no
  tree_one program _ _ _ _ _ (lowering.split positions next k row _ a b f g q r) (lowering.rule _ _ _ t e p) = let no : ⊥ = cc in absurd no
  tree_one program _ _ _ _ _ (lowering.split positions next k row _ a b f g r s) (lowering.overlap _ _ _ other rows a' b' e p q) =
      let no : ⊥ = cc in absurd no
  tree_one program _ _ _ _ _ (lowering.split positions next k row rows b c f g q r) (lowering.branch _ _ m x _ _ a f' g' p) =
      let no : ⊥ = cc in absurd no
  tree_one program _ _ _ _ _ (lowering.split positions next k row rows a b f g p q) (lowering.split _ _ m _ _ a' b' f' g' p' q') =
      let place = same_place k m (leftmost row.patterns) g g' in
      ap₂ term.Or
      (tree_one program positions next (filter (demands k) (row ∷ rows)) a a' p (moved_filtered program positions next k m (row ∷ rows) a' place p'))
      (tree_one program positions next (filter (λ other. not (demands k other)) (row ∷ rows)) b b' q
      (moved_others program positions next k m (row ∷ rows) b' place q'))

  pub branches_one : (program : Program) (positions : List ℕ) (next k : ℕ) (rows : List Row) (cs : List ConId) (ls : List Lit) (a b : Alternatives)
      → Branches program positions next k rows cs ls a → Branches program positions next k rows cs ls b → a ≡ b
  branches_one program _ _ _ _ _ _ _ _ (lowering.no_branch positions next k rows) (lowering.no_branch _ _ _ _) = refl
  branches_one program _ _ _ _ _ _ _ _ (lowering.constructor_branch positions next k n xs rows c cs ls t a e f p q)
      (lowering.constructor_branch _ _ _ m ys _ _ _ _ u b e' f' p' q') =
      let count : m ≡ n = e' ∙ sym e in
      let arguments : ys ≡ xs = f' ∙ ap (numbers next) count ∙ sym f in
      one_branch c xs ys t u a b (sym arguments)
      (tree_one program (spliced k xs positions) (next + n) (specialize k xs (demands_constructor c) rows) t u p
      (moved_tree program positions next k n m xs ys c rows u count arguments p')) (branches_one program positions next k rows cs ls a b q q')
  branches_one program _ _ _ _ _ _ _ _ (lowering.literal_branch positions next k rows l ls t a p q)
      (lowering.literal_branch _ _ _ _ _ _ u b p' q') =
      ap₂ (term.MoreAlternatives (term.Exactly l))
      (tree_one program (spliced k [] positions) next (specialize k [] (demands_literal l) rows) t u p p')
      (branches_one program positions next k rows [] ls a b q q')

  pub distinguishes_one : (program : Program) (mode : Mode) (positions : List ℕ) (next : ℕ) (rows : List Row) (t u : Term)
      → Distinguishes program mode positions next rows t → Distinguishes program mode positions next rows u → t ≡ u
  distinguishes_one program _ _ _ _ _ _ (lowering.no_alternatives mode positions next f p) (lowering.no_alternatives _ _ _ g q) =
      ap failure (operation_one program _ f g p q)
  distinguishes_one program _ _ _ _ t u (lowering.taken mode positions next row rows _ e p) (lowering.taken _ _ _ _ _ _ e' q) =
      lowers_one program row.names next row.body t u p q
  distinguishes_one program _ _ _ _ _ _ (lowering.taken mode positions next row rows _ e p) (lowering.all_demand _ _ _ k x _ _ a f g h q) =
      let no : ⊥ = cc in absurd no
  distinguishes_one program _ _ _ _ _ _ (lowering.taken mode positions next row rows _ e p)
      (lowering.first_constructor _ _ _ k x c _ _ a f g h i q) = let no : ⊥ = cc in absurd no
  distinguishes_one program _ _ _ _ _ _ (lowering.taken mode positions next row rows _ e p)
      (lowering.first_literal _ _ _ k x equal l _ _ a b f g h i j q r) = let no : ⊥ = cc in absurd no
  distinguishes_one program _ _ _ _ _ _ (lowering.all_demand mode positions next k x row rows a f g h q) (lowering.taken _ _ _ _ _ _ e p) =
      let no : ⊥ = cc in absurd no
  distinguishes_one program _ _ _ _ _ _ (lowering.all_demand mode positions next k x row rows a f g h p)
      (lowering.all_demand _ _ _ m y _ _ b f' g' h' q) =
      let place = same_place k m (leftmost row.patterns) f f' in
      one_case mode x y a b (same_position positions k m x y place g g')
      (cases_one program mode false positions next k (row ∷ rows) (constructors_at program k (row ∷ rows)) (literals_at k (row ∷ rows)) a b p
      (moved_cases program mode positions next k m (row ∷ rows) b place q))
  distinguishes_one program _ _ _ _ _ _ (lowering.all_demand mode positions next k x row rows a f g h p)
      (lowering.first_constructor _ _ _ m y c _ _ b f' g' h' i q) =
      let place = same_place k m (leftmost row.patterns) f f' in
      absurd (true≢false (sym (subst (λ (n : ℕ). list_any (λ other. not (demands n other)) (row ∷ rows) ≡ true) place h') ∙ h))
  distinguishes_one program _ _ _ _ _ _ (lowering.all_demand mode positions next k x row rows a f g h p)
      (lowering.first_literal _ _ _ m y equal l _ _ b c f' g' h' i j q r) =
      let place = same_place k m (leftmost row.patterns) f f' in
      absurd (true≢false (sym (subst (λ (n : ℕ). list_any (λ other. not (demands n other)) (row ∷ rows) ≡ true) place h') ∙ h))
  distinguishes_one program _ _ _ _ _ _ (lowering.first_constructor mode positions next k x c row rows a f g h i q)
      (lowering.taken _ _ _ _ _ _ e p) = let no : ⊥ = cc in absurd no
  distinguishes_one program _ _ _ _ _ _ (lowering.first_constructor mode positions next k x c row rows a f g h i q)
      (lowering.all_demand _ _ _ m y _ _ b f' g' h' p) =
      let place = same_place m k (leftmost row.patterns) f' f in
      absurd (true≢false (sym (subst (λ (n : ℕ). list_any (λ other. not (demands n other)) (row ∷ rows) ≡ true) place h) ∙ h'))
  distinguishes_one program _ _ _ _ _ _ (lowering.first_constructor mode positions next k x c row rows a f g h i p)
      (lowering.first_constructor _ _ _ m y d _ _ b f' g' h' i' q) =
      let place = same_place k m (leftmost row.patterns) f f' in
      let here = ap (λ (n : ℕ). demand_at n row) place in
      let same : d ≡ c = cc in
      one_case mode x y a b (same_position positions k m x y place g g')
      (cases_one program mode true positions next k (row ∷ rows) (siblings program c) [] a b p
      (moved_siblings program mode positions next k m c d (row ∷ rows) b place same q))
  distinguishes_one program _ _ _ _ _ _ (lowering.first_constructor mode positions next k x c row rows a f g h i p)
      (lowering.first_literal _ _ _ m y equal l _ _ b d f' g' h' i' j q r) =
      let place = same_place k m (leftmost row.patterns) f f' in
      let here = ap (λ (n : ℕ). demand_at n row) place in
      let no : ⊥ = cc in absurd no
  distinguishes_one program _ _ _ _ _ _ (lowering.first_literal mode positions next k x equal l row rows a b f g h i j q r)
      (lowering.taken _ _ _ _ _ _ e p) = let no : ⊥ = cc in absurd no
  distinguishes_one program _ _ _ _ _ _ (lowering.first_literal mode positions next k x equal l row rows a b f g h i j q r)
      (lowering.all_demand _ _ _ m y _ _ c f' g' h' p) =
      let place = same_place m k (leftmost row.patterns) f' f in
      absurd (true≢false (sym (subst (λ (n : ℕ). list_any (λ other. not (demands n other)) (row ∷ rows) ≡ true) place h) ∙ h'))
  distinguishes_one program _ _ _ _ _ _ (lowering.first_literal mode positions next k x equal l row rows a b f g h i j q r)
      (lowering.first_constructor _ _ _ m y c _ _ d f' g' h' i' p) =
      let place = same_place k m (leftmost row.patterns) f f' in
      let here = ap (λ (n : ℕ). demand_at n row) place in
      let no : ⊥ = cc in absurd no
  distinguishes_one program _ _ _ _ _ _ (lowering.first_literal mode positions next k x equal l row rows a b f g h i j p q)
      (lowering.first_literal _ _ _ m y equal' n _ _ a' b' f' g' h' i' j' p' q') =
      let place = same_place k m (leftmost row.patterns) f f' in
      let here = ap (λ (o : ℕ). demand_at o row) place in
      let same : n ≡ l = cc in
      one_literal_case program equal equal' x y l n a b a' b' (operation_one program _ equal equal' j j')
      (same_position positions k m x y place g g') (sym same)
      (distinguishes_one program mode (spliced k [] positions) next (specialize k [] (goes_on true (demands_literal l)) (row ∷ rows)) a a' p
      (moved_same program mode positions next k m l n (row ∷ rows) a' place same p'))
      (distinguishes_one program mode positions next (filter (λ one. not_literal l (demand_at k one)) (row ∷ rows)) b b' q
      (moved_other program mode positions next k m l n (row ∷ rows) b' place same q'))

  pub cases_one : (program : Program) (mode : Mode) (v : Bool) (positions : List ℕ) (next k : ℕ) (rows : List Row) (cs : List ConId) (ls : List Lit)
      (a b : Alternatives) → Cases program mode v positions next k rows cs ls a → Cases program mode v positions next k rows cs ls b → a ≡ b
  cases_one program _ _ _ _ _ _ _ _ _ _ (lowering.no_case mode v positions next k rows) (lowering.no_case _ _ _ _ _ _) = refl
  cases_one program _ _ _ _ _ _ _ _ _ _ (lowering.constructor_case mode v positions next k n xs rows c cs ls t a e f p q)
      (lowering.constructor_case _ _ _ _ _ m ys _ _ _ _ u b e' f' p' q') =
      let count : m ≡ n = e' ∙ sym e in
      let arguments : ys ≡ xs = f' ∙ ap (numbers next) count ∙ sym f in
      one_branch c xs ys t u a b (sym arguments)
      (distinguishes_one program mode (spliced k xs positions) (next + n) (specialize k xs (goes_on v (demands_constructor c)) rows) t u p
      (moved_case program mode v positions next k n m xs ys c rows u count arguments p'))
      (cases_one program mode v positions next k rows cs ls a b q q')
  cases_one program _ _ _ _ _ _ _ _ _ _ (lowering.literal_of_case mode v positions next k rows l ls t a p q)
      (lowering.literal_of_case _ _ _ _ _ _ _ _ u b p' q') =
      ap₂ (term.MoreAlternatives (term.Exactly l))
      (distinguishes_one program mode (spliced k [] positions) next (specialize k [] (goes_on v (demands_literal l)) rows) t u p p')
      (cases_one program mode v positions next k rows [] ls a b q q')

-- ---- programs

abbrev pub with_rule : ℕ → List ℕ → Term → Function
with_rule n xs t = record { arity = n; body = Rules (record { params = variables xs; body = t } ∷ []) }

pub function_one : (program : Program) (function one two : Function) → FunctionLowers program function one → FunctionLowers program function two
    → one ≡ two
function_one program function one two (lowered.external o _ e f) (lowered.external o' _ e' f') = f ∙ sym f'
function_one program function one two (lowered.external o _ e f) (lowered.by_tree rules xs t _ e' f' p' g') = let none : ⊥ = cc in absurd none
function_one program function one two (lowered.by_tree rules xs t _ e f p g) (lowered.external o' _ e' f') = let none : ⊥ = cc in absurd none
function_one program function one two (lowered.by_tree rules xs t _ e f p g) (lowered.by_tree others ys u _ e' f' p' g') =
    let same : others ≡ rules = cc in
    let params : ys ≡ xs = f' ∙ sym f in
    let there : Tree program xs (suc function.arity) (map (row_of_rule xs) rules) u =
    subst (λ (zs : List ℕ). Tree program zs (suc function.arity) (map (row_of_rule zs) rules) u) params
    (subst (λ (rs : List Rule). Tree program ys (suc function.arity) (map (row_of_rule ys) rs) u) same p') in
    let bodies = tree_one program xs (suc function.arity) (map (row_of_rule xs) rules) t u p there in
    g ∙ ap₂ (with_rule function.arity) (sym params) bodies ∙ sym g'

-- lists as long as another, whose elements are determined by those of that one, are the same
same_lists : (ps xs ys : List Function) → length xs ≡ length ps → length ys ≡ length ps
    → ((k : ℕ) (p x y : Function) → slice_get ps k ≡ Some p → slice_get xs k ≡ Some x → slice_get ys k ≡ Some y → x ≡ y) → xs ≡ ys
same_lists [] [] [] e f h = refl
same_lists [] [] (y ∷ ys) e f h = absurd (omega arith)
same_lists [] (x ∷ xs) ys e f h = absurd (omega arith)
same_lists (p ∷ ps) [] ys e f h = absurd (omega arith)
same_lists (p ∷ ps) (x ∷ xs) [] e f h = absurd (omega arith)
same_lists (p ∷ ps) (x ∷ xs) (y ∷ ys) e f h =
    ap₂ (λ (z : Function) (zs : List Function). z ∷ zs) (h 0 p x y refl refl refl)
    (same_lists ps xs ys (omega arith) (omega arith) (λ k q z w. h (suc k) q z w))

same_programs : (one two : Program) → one.functions ≡ two.functions → one.constructors ≡ two.constructors → one.special ≡ two.special → one ≡ two
same_programs one two e f g =
    ap (λ (x : List Function). let p : Program = record { functions = x; constructors = one.constructors; special = one.special } in p) e
    ∙ ap (λ (x : List Constructor). let p : Program = record { functions = two.functions; constructors = x; special = one.special } in p) f
    ∙ ap (λ (x : Special). let p : Program = record { functions = two.functions; constructors = two.constructors; special = x } in p) g

pub flattens_one : (program flat other : Program) → Flattens program flat → Flattens program other → flat ≡ other
flattens_one program flat other one two =
    same_programs flat other
    (same_lists program.functions flat.functions other.functions one.each two.each
    (λ k p x y e f g. function_one program p x y (one.functions k p x e f) (two.functions k p y e g)))
    (one.constructors ∙ sym two.constructors) (one.special ∙ sym two.special)
