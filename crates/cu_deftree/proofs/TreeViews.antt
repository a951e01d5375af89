-- What rows were lowered to, by what they demand.
use Rattle.std.proofs.Common.{◌≡◌, ℕ, ◌+◌, Bool, true, false, not, List, [], ◌∷◌, filter, Option, None, Some, slice_get, refl, ap, sym, ◌∙◌, subst, true≢false}
use Rattle.std.specs.List.{list_any}
use Rattle.cu_calculus.specs.declared.ConId.{ConId}
use Rattle.cu_calculus.specs.declared.FunId.{FunId}
use Rattle.cu_calculus.specs.declared.Lit.{Lit}
use Rattle.cu_calculus.specs.declared.Mode.{Mode}
use Rattle.cu_calculus.specs.declared.Mode.TheVariants.{Flex}
use Rattle.cu_calculus.specs.declared.builtin.Primitive.TheVariants as prim
use Rattle.cu_calculus.specs.Choose.{ALiteral, AConstructor, Demand, leftmost, not_literal, spliced, demands_constructor, demands_literal}
use Rattle.cu_calculus.specs.Program.{Program}
use Rattle.cu_calculus.specs.Term as term
use Rattle.cu_calculus.specs.Term.{Alternatives, Term}
use Rattle.cu_deftree.specs.Lowering as lowering
use Rattle.cu_deftree.specs.Lowering.{Branches, Cases, Distinguishes, IsOperation, Lowers, Tree, goes_on, literal_case, variables}
use Rattle.cu_deftree.specs.Rows.{Row, constructor_arity, constructors_at, demand_at, demanded_by_all, demands, literals_at, numbers, siblings, specialize}
use Rattle.cu_deftree.proofs.OneTree.{none_by_all}

-- ---- trees

abbrev pub CaseView : Program → List ℕ → ℕ → ℕ → List Row → Term → Type 0
CaseView program positions next k rows t =
    (position : ℕ) × (a : Alternatives) × (slice_get positions k ≡ Some position)
    × Branches program positions next k rows (constructors_at program k rows) (literals_at k rows) a × (t ≡ term.Case Flex (term.Variable position) a)

same_place : (k m : ℕ) (found : Option ℕ) → found ≡ Some k → found ≡ Some m → m ≡ k
same_place k m found e f = cc

pub tree_case : (program : Program) (positions : List ℕ) (next : ℕ) (row : Row) (rows : List Row) (k : ℕ) (t : Term)
    → demanded_by_all (row ∷ rows) ≡ Some k → Tree program positions next (row ∷ rows) t → CaseView program positions next k (row ∷ rows) t
tree_case program _ _ _ _ k _ f (lowering.rule positions next row t e p) = absurd (none_by_all k row [] e f)
tree_case program _ _ _ _ k _ f (lowering.overlap positions next row other rows a b e p q) = absurd (none_by_all k row (other ∷ rows) e f)
tree_case program _ _ _ _ k _ f (lowering.split positions next m row rows a b g e p q) = let none : ⊥ = cc in absurd none
tree_case program _ _ _ _ k _ f (lowering.branch positions next m x row rows a g e p) =
    let place = same_place k m (demanded_by_all (row ∷ rows)) f g in
    subst (λ (n : ℕ). CaseView program positions next n (row ∷ rows) (term.Case Flex (term.Variable x) a)) place (x, a, e, p, refl)

abbrev pub SplitView : Program → List ℕ → ℕ → ℕ → List Row → Term → Type 0
SplitView program positions next k rows t =
    (a b : Term) × Tree program positions next (filter (demands k) rows) a × Tree program positions next (filter (λ other. not (demands k other)) rows) b
    × (t ≡ term.Or a b)

pub tree_split : (program : Program) (positions : List ℕ) (next : ℕ) (row : Row) (rows : List Row) (k : ℕ) (t : Term)
    → leftmost row.patterns ≡ Some k → demanded_by_all (row ∷ rows) ≡ None → Tree program positions next (row ∷ rows) t
    → SplitView program positions next k (row ∷ rows) t
tree_split program _ _ _ _ k _ f g (lowering.rule positions next row t e p) = let none : ⊥ = cc in absurd none
tree_split program _ _ _ _ k _ f g (lowering.overlap positions next row other rows a b e p q) = let none : ⊥ = cc in absurd none
tree_split program _ _ _ _ k _ f g (lowering.branch positions next m x row rows a h e p) = let none : ⊥ = cc in absurd none
tree_split program _ _ _ _ k _ f g (lowering.split positions next m row rows a b h e p q) =
    let place = same_place k m (leftmost row.patterns) f e in
    subst (λ (n : ℕ). SplitView program positions next n (row ∷ rows) (term.Or a b)) place (a, b, p, q, refl)

pub tree_rule : (program : Program) (positions : List ℕ) (next : ℕ) (row : Row) (t : Term) → leftmost row.patterns ≡ None
    → Tree program positions next (row ∷ []) t → Lowers program row.names next row.body t
tree_rule program _ _ _ _ f (lowering.rule positions next row t e p) = p
tree_rule program _ _ _ _ f (lowering.branch positions next m x row _ a h e p) = absurd (none_by_all m row [] f h)
tree_rule program _ _ _ _ f (lowering.split positions next m row _ a b h e p q) = let none : ⊥ = cc in absurd none

abbrev pub OverlapView : Program → List ℕ → ℕ → Row → List Row → Term → Type 0
OverlapView program positions next row rows t =
    (a b : Term) × Lowers program row.names next row.body a × Tree program positions next rows b × (t ≡ term.Or a b)

pub tree_overlap : (program : Program) (positions : List ℕ) (next : ℕ) (row other : Row) (rows : List Row) (t : Term) → leftmost row.patterns ≡ None
    → Tree program positions next (row ∷ other ∷ rows) t → OverlapView program positions next row (other ∷ rows) t
tree_overlap program _ _ _ _ _ _ f (lowering.overlap positions next row other rows a b e p q) = (a, b, p, q, refl)
tree_overlap program _ _ _ other rows _ f (lowering.branch positions next m x row _ a h e p) = absurd (none_by_all m row (other ∷ rows) f h)
tree_overlap program _ _ _ _ _ _ f (lowering.split positions next m row _ a b h e p q) = let none : ⊥ = cc in absurd none

-- ---- case distinctions

pub first_taken : (program : Program) (mode : Mode) (positions : List ℕ) (next : ℕ) (row : Row) (rows : List Row) (t : Term)
    → leftmost row.patterns ≡ None → Distinguishes program mode positions next (row ∷ rows) t → Lowers program row.names next row.body t
first_taken program _ _ _ _ _ _ f (lowering.taken mode positions next row rows t e p) = p
first_taken program _ _ _ _ _ _ f (lowering.all_demand mode positions next m x row rows a g h i p) = let none : ⊥ = cc in absurd none
first_taken program _ _ _ _ _ _ f (lowering.first_constructor mode positions next m x c row rows a g h i j p) = let none : ⊥ = cc in absurd none
first_taken program _ _ _ _ _ _ f (lowering.first_literal mode positions next m x equal l row rows a b g h i j o p q) = let none : ⊥ = cc in absurd none

abbrev pub CasesView : Program → Mode → Bool → List ℕ → ℕ → ℕ → List Row → List ConId → List Lit → Term → Type 0
CasesView program mode v positions next k rows cs ls t =
    (position : ℕ) × (a : Alternatives) × (slice_get positions k ≡ Some position)
    × Cases program mode v positions next k rows cs ls a × (t ≡ term.Case mode (term.Variable position) a)

abbrev has_free : ℕ → List Row → Bool
has_free k rows = list_any (λ other. not (demands k other)) rows

differ : (row : Row) (rows : List Row) (k m : ℕ) → leftmost row.patterns ≡ Some k → leftmost row.patterns ≡ Some m
    → has_free k (row ∷ rows) ≡ false → has_free m (row ∷ rows) ≡ true → ⊥
differ row rows k m f g e h =
    let place = same_place k m (leftmost row.patterns) f g in
    true≢false (sym (subst (λ (n : ℕ). has_free n (row ∷ rows) ≡ true) place h) ∙ e)

pub all_demanded : (program : Program) (mode : Mode) (positions : List ℕ) (next : ℕ) (row : Row) (rows : List Row) (k : ℕ) (t : Term)
    → leftmost row.patterns ≡ Some k → list_any (λ other. not (demands k other)) (row ∷ rows) ≡ false
    → Distinguishes program mode positions next (row ∷ rows) t
    → CasesView program mode false positions next k (row ∷ rows) (constructors_at program k (row ∷ rows)) (literals_at k (row ∷ rows)) t
all_demanded program _ _ _ _ _ k _ f n (lowering.taken mode positions next row rows t e p) = let none : ⊥ = cc in absurd none
all_demanded program _ _ _ _ _ k _ f n (lowering.all_demand mode positions next m x row rows a g h i p) =
    let place = same_place k m (leftmost row.patterns) f g in
    subst (λ (o : ℕ). CasesView program mode false positions next o (row ∷ rows) (constructors_at program o (row ∷ rows)) (literals_at o (row ∷ rows)) (term.Case mode (term.Variable x) a))
    place (x, a, h, p, refl)
all_demanded program _ _ _ _ _ k _ f n (lowering.first_constructor mode positions next m x c row rows a g h i j p) =
    absurd (differ row rows k m f g n i)
all_demanded program _ _ _ _ _ k _ f n (lowering.first_literal mode positions next m x equal l row rows a b g h i j o p q) =
    absurd (differ row rows k m f g n i)

other_demand : (row : Row) (k m : ℕ) (d e : Demand) → m ≡ k → demand_at k row ≡ d → demand_at m row ≡ e → d ≡ e
other_demand row k m d e place f g = sym f ∙ sym (ap (λ (n : ℕ). demand_at n row) place) ∙ g

pub by_constructor : (program : Program) (mode : Mode) (positions : List ℕ) (next : ℕ) (row : Row) (rows : List Row) (k : ℕ) (c : ConId) (t : Term)
    → leftmost row.patterns ≡ Some k → list_any (λ other. not (demands k other)) (row ∷ rows) ≡ true → demand_at k row ≡ AConstructor c
    → Distinguishes program mode positions next (row ∷ rows) t
    → CasesView program mode true positions next k (row ∷ rows) (siblings program c) [] t
by_constructor program _ _ _ _ _ k c _ f n d (lowering.taken mode positions next row rows t e p) = let none : ⊥ = cc in absurd none
by_constructor program _ _ _ _ _ k c _ f n d (lowering.all_demand mode positions next m x row rows a g h i p) = absurd (differ row rows m k g f i n)
by_constructor program _ _ _ _ _ k c _ f n d (lowering.first_constructor mode positions next m x b row rows a g h i j p) =
    let place = same_place k m (leftmost row.patterns) f g in
    let both = other_demand row k m (AConstructor c) (AConstructor b) place d j in
    let same : b ≡ c = cc in
    subst (λ (y : ConId). CasesView program mode true positions next k (row ∷ rows) (siblings program y) [] (term.Case mode (term.Variable x) a)) same
    (subst (λ (o : ℕ). CasesView program mode true positions next o (row ∷ rows) (siblings program b) [] (term.Case mode (term.Variable x) a)) place (x, a, h, p, refl))
by_constructor program _ _ _ _ _ k c _ f n d (lowering.first_literal mode positions next m x equal l row rows a b g h i j o p q) =
    let both = other_demand row k m (AConstructor c) (ALiteral l) (same_place k m (leftmost row.patterns) f g) d j in
    let none : ⊥ = cc in absurd none

abbrev pub LiteralView : Program → Mode → List ℕ → ℕ → ℕ → Lit → List Row → Term → Type 0
LiteralView program mode positions next k l rows t =
    (position : ℕ) × (equal : FunId) × (a b : Term) × (slice_get positions k ≡ Some position) × IsOperation program prim.Equal equal
    × Distinguishes program mode (spliced k [] positions) next (specialize k [] (goes_on true (demands_literal l)) rows) a
    × Distinguishes program mode positions next (filter (λ one. not_literal l (demand_at k one)) rows) b
    × (t ≡ literal_case program equal position l a b)

pub by_literal : (program : Program) (mode : Mode) (positions : List ℕ) (next : ℕ) (row : Row) (rows : List Row) (k : ℕ) (l : Lit) (t : Term)
    → leftmost row.patterns ≡ Some k → list_any (λ other. not (demands k other)) (row ∷ rows) ≡ true → demand_at k row ≡ ALiteral l
    → Distinguishes program mode positions next (row ∷ rows) t → LiteralView program mode positions next k l (row ∷ rows) t
by_literal program _ _ _ _ _ k l _ f n d (lowering.taken mode positions next row rows t e p) = let none : ⊥ = cc in absurd none
by_literal program _ _ _ _ _ k l _ f n d (lowering.all_demand mode positions next m x row rows a g h i p) = absurd (differ row rows m k g f i n)
by_literal program _ _ _ _ _ k l _ f n d (lowering.first_constructor mode positions next m x b row rows a g h i j p) =
    let both = other_demand row k m (ALiteral l) (AConstructor b) (same_place k m (leftmost row.patterns) f g) d j in
    let none : ⊥ = cc in absurd none
by_literal program _ _ _ _ _ k l _ f n d (lowering.first_literal mode positions next m x equal z row rows a b g h i j o p q) =
    let place = same_place k m (leftmost row.patterns) f g in
    let both = other_demand row k m (ALiteral l) (ALiteral z) place d j in
    let same : z ≡ l = cc in
    subst (λ (y : Lit). LiteralView program mode positions next k y (row ∷ rows) (literal_case program equal x z a b)) same
    (subst (λ (w : ℕ). LiteralView program mode positions next w z (row ∷ rows) (literal_case program equal x z a b)) place
    (x, equal, a, b, h, o, p, q, refl))

-- ---- branches

abbrev BranchesConverse : Program → List ℕ → ℕ → ℕ → List Row → List ConId → List Lit → Alternatives → Type 0
BranchesConverse program positions next k rows [] [] a = a ≡ term.NoAlternative
BranchesConverse program positions next k rows [] (l ∷ ls) a =
    (t : Term) × (rest : Alternatives) × Tree program (spliced k [] positions) next (specialize k [] (demands_literal l) rows) t
    × Branches program positions next k rows [] ls rest × (a ≡ term.MoreAlternatives (term.Exactly l) t rest)
BranchesConverse program positions next k rows (c ∷ cs) ls a =
    (t : Term) × (rest : Alternatives)
    × Tree program (spliced k (numbers next (constructor_arity program c)) positions) (next + constructor_arity program c)
    (specialize k (numbers next (constructor_arity program c)) (demands_constructor c) rows) t
    × Branches program positions next k rows cs ls rest
    × (a ≡ term.MoreAlternatives (term.Built c (variables (numbers next (constructor_arity program c)))) t rest)

pub branches_converse : (program : Program) (positions : List ℕ) (next k : ℕ) (rows : List Row) (cs : List ConId) (ls : List Lit) (a : Alternatives)
    → Branches program positions next k rows cs ls a → BranchesConverse program positions next k rows cs ls a
branches_converse program _ _ _ _ _ _ _ (lowering.no_branch positions next k rows) = refl
branches_converse program _ _ _ _ _ _ _ (lowering.literal_branch positions next k rows l ls t a p q) = (t, a, p, q, refl)
branches_converse program _ _ _ _ _ _ _ (lowering.constructor_branch positions next k n xs rows c cs ls t a e f p q) =
    let many = f ∙ ap (numbers next) e in (
      t,
      a,
      subst (λ (ys : List ℕ). Tree program (spliced k ys positions) (next + constructor_arity program c) (specialize k ys (demands_constructor c) rows) t) many
          (subst (λ (i : ℕ). Tree program (spliced k xs positions) (next + i) (specialize k xs (demands_constructor c) rows) t) e p),
      q,
      ap (λ (ys : List ℕ). term.MoreAlternatives (term.Built c (variables ys)) t a) many,
    )

abbrev CasesConverse : Program → Mode → Bool → List ℕ → ℕ → ℕ → List Row → List ConId → List Lit → Alternatives → Type 0
CasesConverse program mode v positions next k rows [] [] a = a ≡ term.NoAlternative
CasesConverse program mode v positions next k rows [] (l ∷ ls) a =
    (t : Term) × (rest : Alternatives)
    × Distinguishes program mode (spliced k [] positions) next (specialize k [] (goes_on v (demands_literal l)) rows) t
    × Cases program mode v positions next k rows [] ls rest × (a ≡ term.MoreAlternatives (term.Exactly l) t rest)
CasesConverse program mode v positions next k rows (c ∷ cs) ls a =
    (t : Term) × (rest : Alternatives)
    × Distinguishes program mode (spliced k (numbers next (constructor_arity program c)) positions) (next + constructor_arity program c)
    (specialize k (numbers next (constructor_arity program c)) (goes_on v (demands_constructor c)) rows) t
    × Cases program mode v positions next k rows cs ls rest
    × (a ≡ term.MoreAlternatives (term.Built c (variables (numbers next (constructor_arity program c)))) t rest)

pub cases_converse : (program : Program) (mode : Mode) (v : Bool) (positions : List ℕ) (next k : ℕ) (rows : List Row) (cs : List ConId) (ls : List Lit)
    (a : Alternatives) → Cases program mode v positions next k rows cs ls a → CasesConverse program mode v positions next k rows cs ls a
cases_converse program _ _ _ _ _ _ _ _ _ (lowering.no_case mode v positions next k rows) = refl
cases_converse program _ _ _ _ _ _ _ _ _ (lowering.literal_of_case mode v positions next k rows l ls t a p q) = (t, a, p, q, refl)
cases_converse program _ _ _ _ _ _ _ _ _ (lowering.constructor_case mode v positions next k n xs rows c cs ls t a e f p q) =
    let many = f ∙ ap (numbers next) e in (
      t,
      a,
      subst (λ (ys : List ℕ). Distinguishes program mode (spliced k ys positions) (next + constructor_arity program c) (specialize k ys (goes_on v (demands_constructor c)) rows) t) many
          (subst (λ (i : ℕ). Distinguishes program mode (spliced k xs positions) (next + i) (specialize k xs (goes_on v (demands_constructor c)) rows) t) e p),
      q,
      ap (λ (ys : List ℕ). term.MoreAlternatives (term.Built c (variables ys)) t a) many,
    )
