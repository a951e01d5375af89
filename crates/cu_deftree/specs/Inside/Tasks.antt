-- What the code makes of terms and rows, within a number of expressions.
use Rattle.std.specs.Prelude.{◌≡◌, ◌<◌, ℕ, ◌+◌, Bool, true, not, List, [], ◌∷◌, Some, None, Result, Ok, Err, map, slice_get}
use Rattle.std.specs.List.{list_any}
use Rattle.std.specs.declared.alloc.Global.{Global}
use Rattle.std.specs.declared.boxed.Box.{Box}
use Rattle.std.specs.declared.vec.Vec.{Vec}
use Rattle.cu_calculus.specs.Choose.{Demand, leftmost, spliced}
use Rattle.cu_calculus.specs.Program.{Program}
use Rattle.cu_calculus.specs.Term as clean
use Rattle.cu_calculus.specs.declared.Mode.{Mode}
use Rattle.cu_calculus.specs.declared.Mode.TheVariants.{Flex}
use Rattle.cu_deftree.specs.Inside.NamesOf.{names_of}
use Rattle.cu_deftree.specs.Inside.RowsOf.{all_rows, demands_choice}
use Rattle.cu_deftree.specs.LoweredProgram.{size}
use Rattle.cu_deftree.specs.Lowering.{Distinguishes, Lowers, Tree, goes_on, variables}
use Rattle.cu_deftree.specs.Rows.{Row, constructor_arity, demand_at, demanded_by_all, demands, numbers, specialize}
use Rattle.cu_deftree.specs.declared.patterns.Choice.{Choice}
use Rattle.cu_deftree.specs.declared.patterns.Choice.TheVariants as choice
use Rattle.cu_deftree.specs.declared.tasks.Manner.{Manner}
use Rattle.cu_deftree.specs.declared.tasks.Manner.TheVariants as manner
use Rattle.cu_deftree.specs.declared.tasks.Matrix.{Matrix}
use Rattle.cu_deftree.specs.declared.tasks.Scope.{Scope}
use Rattle.cu_deftree.specs.declared.tasks.Stop.{Stop}
use Rattle.cu_deftree.specs.declared.tasks.Stop.TheVariants as stop
use Rattle.cu_deftree.specs.declared.tasks.Task.{Task}
use Rattle.cu_deftree.specs.declared.tasks.Task.TheVariants as task
use Rattle.cu_kernel.specs.TermsOf.{pattern_of, term_of}
use Rattle.cu_kernel.specs.declared.term.Pattern.{Pattern}
use Rattle.cu_kernel.specs.declared.term.Term.{Term}

-- ---- within a number of expressions

-- Some of the expressions that may be made were taken, or there were fewer.
abbrev pub Spends : ℕ → ℕ → ℕ → Result Unit Stop → Type 0
Spends count old new (Ok done) = new + count ≡ old
Spends count old new (Err stop.TooBig) = old < count
Spends count old new (Err stop.NoMemory) = ⊥

-- What was made is in a relation, and of as many expressions as are fewer left; or whatever is in
-- that relation is of more expressions than were left.
abbrev pub Within : {A B : Type 0} → (A → B) → (B → ℕ) → (B → Type 0) → ℕ → ℕ → Result A Stop
    → Type 0
Within meaning measure R old new (Ok x) = R (meaning x) × (new + measure (meaning x) ≡ old)
Within {A} {B} meaning measure R old new (Err stop.TooBig) = (y : B) → R y → old < measure y
Within meaning measure R old new (Err stop.NoMemory) = Unit {0}

-- ---- lists

-- the elements of two lists are in a relation, pairwise
abbrev pub Each : {X Y : Type 0} → (X → Y → Type 0) → List X → List Y → Type 0
Each R [] ys = ys ≡ []
Each {X} {Y} R (x ∷ xs) ys = (y : Y) × (rest : List Y) × (R x y) × (Each R xs rest)
    × (ys ≡ y ∷ rest)

abbrev pub total : {Y : Type 0} → (Y → ℕ) → List Y → ℕ
total measure [] = 0
total measure (y ∷ ys) = measure y + total measure ys

-- ---- what is to be lowered

abbrev pub mode_of : Manner → Mode
mode_of manner.Rules = Flex
mode_of (manner.Alternatives mode) = mode

abbrev pub TermLowers : Program → Scope → clean.Term → clean.Term → Type 0
TermLowers program scope t u = Lowers program (names_of scope.names.now) scope.next t u

abbrev pub RowsLower : Program → Manner → List ℕ → ℕ → List Row → clean.Term → Type 0
RowsLower program manner.Rules positions next rows t = Tree program positions next rows t
RowsLower program (manner.Alternatives mode) positions next rows t =
    Distinguishes program mode positions next rows t

abbrev pub MatrixLowers : Program → Manner → Matrix → clean.Term → Type 0
MatrixLowers program m matrix t =
    RowsLower program m matrix.positions.now matrix.next (all_rows matrix.rows.now) t

abbrev pub TaskLowers : Program → Task → clean.Term → Type 0
TaskLowers program (task.Term scope t) u = TermLowers program scope (term_of t.now) u
TaskLowers program (task.Rows m matrix) u = MatrixLowers program m matrix u

abbrev pub BothLower : Program → Task → Task → clean.Term × clean.Term → Type 0
BothLower program one two both = TaskLowers program one both.0 × TaskLowers program two both.1

abbrev pub both_of : Box Term Global × Box Term Global → clean.Term × clean.Term
both_of both = (term_of both.0.value, term_of both.1.value)

abbrev pub both_size : clean.Term × clean.Term → ℕ
both_size both = size both.0 + size both.1

-- ---- branches

-- how many positions take the place of one in a branch
abbrev pub opened_count : Program → Choice → ℕ
opened_count program (choice.Constructor c) = constructor_arity program c
opened_count program (choice.Literal l) = 0

abbrev pub branch_pattern : Choice → List ℕ → clean.Pattern
branch_pattern (choice.Constructor c) new = clean.Built c (variables new)
branch_pattern (choice.Literal l) new = clean.Exactly l

abbrev pub branch_of : Pattern × Term → clean.Pattern × clean.Term
branch_of branch = (pattern_of branch.0, term_of branch.1)

abbrev pub branch_size : clean.Pattern × clean.Term → ℕ
branch_size branch = size branch.1

abbrev pub branches_of : Vec (Pattern × Term) Global → List (clean.Pattern × clean.Term)
branches_of branches = map branch_of branches.items

abbrev pub terms_in : Vec Term Global → List clean.Term
terms_in ts = map term_of ts.items

-- the rows of a branch, over the positions of the arguments of what stands at one of them
abbrev pub OpenedLower : Program → Manner → Bool → Matrix → ℕ → Choice → List ℕ → ℕ → clean.Term
    → Type 0
OpenedLower program m has_variables matrix k c new n t =
    RowsLower program m (spliced k new matrix.positions.now) (matrix.next + n)
    (specialize k new (goes_on has_variables (demands_choice c)) (all_rows matrix.rows.now)) t

-- the pattern and the term of the branch for a choice
abbrev pub BranchLowers : Program → Manner → Bool → Matrix → ℕ → Choice → clean.Pattern × clean.Term
    → Type 0
BranchLowers program m has_variables matrix k c branch =
    (branch.0 ≡ branch_pattern c (numbers matrix.next (opened_count program c)))
    × OpenedLower program m has_variables matrix k c (numbers matrix.next (opened_count program c))
    (opened_count program c) branch.1

-- the alternatives that branches are
abbrev pub alternatives_in : List (clean.Pattern × clean.Term) → clean.Alternatives
alternatives_in [] = clean.NoAlternative
alternatives_in (b ∷ bs) = clean.MoreAlternatives b.0 b.1 (alternatives_in bs)

abbrev pub terms_listed : List clean.Term → clean.Terms
terms_listed [] = clean.NoTerm
terms_listed (t ∷ ts) = clean.MoreTerms t (terms_listed ts)

-- a case distinction on a position, with these branches
pub record CaseLowers (program : Program) (m : Manner) (has_variables : Bool) (matrix : Matrix)
    (k : ℕ) (cs : List Choice) (t : clean.Term) : Type 0 where
  pub position : ℕ
  pub branches : List (clean.Pattern × clean.Term)
  pub there : slice_get matrix.positions.now k ≡ Some position
  pub each : Each (BranchLowers program m has_variables matrix k) cs branches
  pub is : t ≡ clean.Case (mode_of m) (clean.Variable position) (alternatives_in branches)

-- the first of rows demands something at a position
abbrev pub IsOpened : ℕ → List Row → Type 0
IsOpened k [] = ⊥
IsOpened k (row ∷ rows) = demands k row ≡ true

-- the first of rows demands nothing
abbrev pub IsFree : List Row → Type 0
IsFree [] = ⊥
IsFree (row ∷ rows) = leftmost row.patterns ≡ None

-- the first of rows demands a position leftmost, and all demand none in common
abbrev pub IsSplit : ℕ → List Row → Type 0
IsSplit k [] = ⊥
IsSplit k (row ∷ rows) = (leftmost row.patterns ≡ Some k) × (demanded_by_all (row ∷ rows) ≡ None)

-- the first of rows demands a position leftmost, where some row demands nothing
abbrev pub IsMixed : ℕ → List Row → Type 0
IsMixed k [] = ⊥
IsMixed k (row ∷ rows) = (leftmost row.patterns ≡ Some k)
    × (list_any (λ other. not (demands k other)) (row ∷ rows) ≡ true)

abbrev pub FirstDemands : ℕ → Demand → List Row → Type 0
FirstDemands k d [] = ⊥
FirstDemands k d (row ∷ rows) = demand_at k row ≡ d
