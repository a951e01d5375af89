-- Lowering: the flat term of the rules of a function, by their definitional tree, and of the case
-- distinctions in their right sides. Relations by cases, with no order of work. Each binder of a
-- flat term takes the number `next`, which is above the variables of all binders around it, so that
-- no variable is captured.
use Rattle.std.specs.Prelude.{◌≡◌, ◌≢◌, ◌<◌, ℕ, ◌+◌, suc, Bool, true, false, not, ◌&&◌, ◌||◌, List, [], ◌∷◌, None, Some, IsTrue, IsFalse, slice_get, filter}
use Rattle.std.specs.List.{list_any}
use Rattle.cu_calculus.specs.declared.ConId.{ConId}
use Rattle.cu_calculus.specs.declared.FunId.{FunId}
use Rattle.cu_calculus.specs.declared.Head.{Head}
use Rattle.cu_calculus.specs.declared.Head.TheVariants as head
use Rattle.cu_calculus.specs.declared.Lit.{Lit}
use Rattle.cu_calculus.specs.declared.Mode.{Mode}
use Rattle.cu_calculus.specs.declared.Mode.TheVariants.{Flex, Rigid}
use Rattle.cu_calculus.specs.declared.builtin.Primitive.{Primitive}
use Rattle.cu_calculus.specs.declared.builtin.Primitive.TheVariants as prim
use Rattle.cu_calculus.specs.Choose.{ALiteral, AConstructor, Demand, leftmost, not_literal, spliced, demands_constructor, demands_literal, demands_nothing}
use Rattle.cu_calculus.specs.Program.{External, Function, Program, function_of}
use Rattle.cu_calculus.specs.Term as term
use Rattle.cu_calculus.specs.Term.{Alternatives, Pattern, Patterns, Term, Terms}
use Rattle.cu_deftree.specs.Rows.{Names, Row, constructor_arity, constructors_at, demand_at, demanded_by_all, demands, literals_at, name_of, numbers, rows_of, siblings, specialize}

-- the first function of a program that is this operation
pub record IsOperation (program : Program) (operation : Primitive) (f : FunId) : Type 0 where
  pub function : Function
  pub is_there : function_of program f ≡ Some function
  pub is_built_in : function.body ≡ External operation
  pub first : (k : ℕ) (other : Function) → k < f.0 → slice_get program.functions k ≡ Some other
      → other.body ≢ External operation

-- a program that has the operations that lowering puts into bodies
pub record HasOperations (program : Program) : Type 0 where
  pub failed : (f : FunId) × IsOperation program prim.Failed f
  pub equal : (f : FunId) × IsOperation program prim.Equal f

-- a call of `failed`
abbrev pub failure : FunId → Term
failure failed = term.Whole (head.Fun failed) term.NoTerm

-- whether a variable stands for what a literal is, by `==`
abbrev pub test_of : FunId → ℕ → Lit → Term
test_of equal position l =
    term.Whole (head.Fun equal)
    (term.MoreTerms (term.Variable position) (term.MoreTerms (term.Literal l) term.NoTerm))

-- the case distinction on whether a variable stands for what a literal is: True first
abbrev pub literal_case : Program → FunId → ℕ → Lit → Term → Term → Term
literal_case program equal position l same other =
    term.Case Rigid (test_of equal position l)
    (term.MoreAlternatives (term.Built program.special.truth term.NoPattern) same
    (term.MoreAlternatives (term.Built program.special.falsity term.NoPattern) other
    term.NoAlternative))

abbrev pub variables : List ℕ → Patterns
variables [] = term.NoPattern
variables (x ∷ xs) = term.MorePatterns (term.Any x) (variables xs)

abbrev pub is_variable : Term → Bool
is_variable (term.Variable x) = true
is_variable _ = false

-- whether a row goes on into the branch of a test: where alternatives have variables at the
-- position, these do too
abbrev pub goes_on : Bool → (Demand → Bool) → Demand → Bool
goes_on has_variables test d = test d || (has_variables && demands_nothing d)

mutual
  -- the flat term of a term, in which variables are called so
  pub data Lowers (program : Program) : Names → ℕ → Term → Term → Type 0 where
    variable : (names : Names) (next x : ℕ)
        → Lowers program names next (term.Variable x) (term.Variable (name_of names x))
    literal : (names : Names) (next : ℕ) (l : Lit)
        → Lowers program names next (term.Literal l) (term.Literal l)
    whole : (names : Names) (next : ℕ) (h : Head) (ts us : Terms)
        → AllLower program names next ts us
        → Lowers program names next (term.Whole h ts) (term.Whole h us)
    part : (names : Names) (next : ℕ) (h : Head) (ts us : Terms) → AllLower program names next ts us
        → Lowers program names next (term.Part h ts) (term.Part h us)
    applied : (names : Names) (next : ℕ) (f a g b : Term) → Lowers program names next f g
        → Lowers program names next a b
        → Lowers program names next (term.Apply f a) (term.Apply g b)
    bound : (names : Names) (next x : ℕ) (a b c d : Term) → Lowers program names next a c
        → Lowers program ((x, next) ∷ names) (suc next) b d
        → Lowers program names next (term.Let x a b) (term.Let next c d)
    free : (names : Names) (next x : ℕ) (a b : Term)
        → Lowers program ((x, next) ∷ names) (suc next) a b
        → Lowers program names next (term.Free x a) (term.Free next b)
    either : (names : Names) (next : ℕ) (a b c d : Term) → Lowers program names next a c
        → Lowers program names next b d
        → Lowers program names next (term.Or a b) (term.Or c d)
    -- a case distinction on a variable, and on another term, which a new variable stands for
    on_variable : (names : Names) (next x : ℕ) (mode : Mode) (alternatives : Alternatives)
        (t : Term)
        → Distinguishes program mode (name_of names x ∷ []) next
        (rows_of names (name_of names x) alternatives) t
        → Lowers program names next (term.Case mode (term.Variable x) alternatives) t
    on_term : (names : Names) (next : ℕ) (mode : Mode) (a b : Term) (alternatives : Alternatives)
        (t : Term)
        → IsFalse (is_variable a) → Lowers program names next a b
        → Distinguishes program mode (next ∷ []) (suc next) (rows_of names next alternatives) t
        → Lowers program names next (term.Case mode a alternatives) (term.Let next b t)

  pub data AllLower (program : Program) : Names → ℕ → Terms → Terms → Type 0 where
    no_term : (names : Names) (next : ℕ) → AllLower program names next term.NoTerm term.NoTerm
    more_terms : (names : Names) (next : ℕ) (t u : Term) (ts us : Terms)
        → Lowers program names next t u
        → AllLower program names next ts us
        → AllLower program names next (term.MoreTerms t ts) (term.MoreTerms u us)

  -- The definitional tree of rules of a function, in the order of the text, over these positions.
  pub data Tree (program : Program) : List ℕ → ℕ → List Row → Term → Type 0 where
    -- no rules
    no_rules : (positions : List ℕ) (next : ℕ) (failed : FunId)
        → IsOperation program prim.Failed failed
        → Tree program positions next [] (failure failed)
    -- the only rule demands nothing
    rule : (positions : List ℕ) (next : ℕ) (row : Row) (t : Term) → leftmost row.patterns ≡ None
        → Lowers program row.names next row.body t → Tree program positions next (row ∷ []) t
    -- the first of several demands nothing
    overlap : (positions : List ℕ) (next : ℕ) (row other : Row) (rows : List Row) (t u : Term)
        → leftmost row.patterns ≡ None
        → Lowers program row.names next row.body t → Tree program positions next (other ∷ rows) u
        → Tree program positions next (row ∷ other ∷ rows) (term.Or t u)
    -- all rows demand some position in common; the leftmost such is looked at
    branch : (positions : List ℕ) (next k position : ℕ) (row : Row) (rows : List Row)
        (alternatives : Alternatives)
        → demanded_by_all (row ∷ rows) ≡ Some k → slice_get positions k ≡ Some position
        → Branches program positions next k (row ∷ rows) (constructors_at program k (row ∷ rows))
        (literals_at k (row ∷ rows)) alternatives
        → Tree program positions next (row ∷ rows)
        (term.Case Flex (term.Variable position) alternatives)
    -- no position is demanded by all: the rules that demand what the first demands leftmost, or the
    -- others
    split : (positions : List ℕ) (next k : ℕ) (row : Row) (rows : List Row) (t u : Term)
        → demanded_by_all (row ∷ rows) ≡ None
        → leftmost row.patterns ≡ Some k
        → Tree program positions next (filter (demands k) (row ∷ rows)) t
        → Tree program positions next (filter (λ other. not (demands k other)) (row ∷ rows)) u
        → Tree program positions next (row ∷ rows) (term.Or t u)

  -- a branch for each constructor and then for each literal, over the rules that demand it
  pub data Branches (program : Program) : List ℕ → ℕ → ℕ → List Row → List ConId → List Lit
      → Alternatives → Type 0 where
    no_branch : (positions : List ℕ) (next k : ℕ) (rows : List Row)
        → Branches program positions next k rows [] [] term.NoAlternative
    constructor_branch : (positions : List ℕ) (next k n : ℕ) (arguments : List ℕ) (rows : List Row)
        (c : ConId) (cs : List ConId)
        (ls : List Lit) (t : Term) (alternatives : Alternatives) → n ≡ constructor_arity program c
        → arguments ≡ numbers next n
        → Tree program (spliced k arguments positions) (next + n)
        (specialize k arguments (demands_constructor c) rows) t
        → Branches program positions next k rows cs ls alternatives
        → Branches program positions next k rows (c ∷ cs) ls
        (term.MoreAlternatives (term.Built c (variables arguments)) t alternatives)
    literal_branch : (positions : List ℕ) (next k : ℕ) (rows : List Row) (l : Lit) (ls : List Lit)
        (t : Term) (alternatives : Alternatives)
        → Tree program (spliced k [] positions) next (specialize k [] (demands_literal l) rows) t
        → Branches program positions next k rows [] ls alternatives
        → Branches program positions next k rows [] (l ∷ ls)
        (term.MoreAlternatives (term.Exactly l) t alternatives)

  -- The alternatives of a case distinction, of which the first that matches counts, over these
  -- positions.
  pub data Distinguishes (program : Program) : Mode → List ℕ → ℕ → List Row → Term → Type 0 where
    -- no alternatives
    no_alternatives : (mode : Mode) (positions : List ℕ) (next : ℕ) (failed : FunId)
        → IsOperation program prim.Failed failed
        → Distinguishes program mode positions next [] (failure failed)
    -- the first demands nothing
    taken : (mode : Mode) (positions : List ℕ) (next : ℕ) (row : Row) (rows : List Row) (t : Term)
        → leftmost row.patterns ≡ None
        → Lowers program row.names next row.body t
        → Distinguishes program mode positions next (row ∷ rows) t
    -- all alternatives demand the leftmost position that the first demands
    all_demand : (mode : Mode) (positions : List ℕ) (next k position : ℕ) (row : Row)
        (rows : List Row) (alternatives : Alternatives)
        → leftmost row.patterns ≡ Some k → slice_get positions k ≡ Some position
        → IsFalse (list_any (λ other. not (demands k other)) (row ∷ rows))
        → Cases program mode false positions next k (row ∷ rows)
        (constructors_at program k (row ∷ rows)) (literals_at k (row ∷ rows)) alternatives
        → Distinguishes program mode positions next (row ∷ rows)
        (term.Case mode (term.Variable position) alternatives)
    -- some has a variable there, and the first a constructor: a branch for each constructor of its
    -- type
    first_constructor : (mode : Mode) (positions : List ℕ) (next k position : ℕ) (c : ConId)
        (row : Row) (rows : List Row)
        (alternatives : Alternatives) → leftmost row.patterns ≡ Some k
        → slice_get positions k ≡ Some position
        → IsTrue (list_any (λ other. not (demands k other)) (row ∷ rows))
        → demand_at k row ≡ AConstructor c
        → Cases program mode true positions next k (row ∷ rows) (siblings program c) [] alternatives
        → Distinguishes program mode positions next (row ∷ rows)
        (term.Case mode (term.Variable position) alternatives)
    -- some has a variable there, and the first a literal: a test by `==`
    first_literal : (mode : Mode) (positions : List ℕ) (next k position : ℕ) (equal : FunId)
        (l : Lit) (row : Row) (rows : List Row)
        (same other : Term) → leftmost row.patterns ≡ Some k → slice_get positions k ≡ Some position
        → IsTrue (list_any (λ one. not (demands k one)) (row ∷ rows)) → demand_at k row ≡ ALiteral l
        → IsOperation program prim.Equal equal
        → Distinguishes program mode (spliced k [] positions) next
        (specialize k [] (goes_on true (demands_literal l)) (row ∷ rows)) same
        → Distinguishes program mode positions next
        (filter (λ one. not_literal l (demand_at k one)) (row ∷ rows)) other
        → Distinguishes program mode positions next (row ∷ rows)
        (literal_case program equal position l same other)

  -- a branch for each constructor and then for each literal, over the alternatives that go on into
  -- it
  pub data Cases (program : Program) : Mode → Bool → List ℕ → ℕ → ℕ → List Row → List ConId
      → List Lit → Alternatives → Type 0 where
    no_case : (mode : Mode) (has_variables : Bool) (positions : List ℕ) (next k : ℕ)
        (rows : List Row)
        → Cases program mode has_variables positions next k rows [] [] term.NoAlternative
    constructor_case : (mode : Mode) (has_variables : Bool) (positions : List ℕ) (next k n : ℕ)
        (arguments : List ℕ) (rows : List Row)
        (c : ConId) (cs : List ConId) (ls : List Lit) (t : Term) (alternatives : Alternatives)
        → n ≡ constructor_arity program c → arguments ≡ numbers next n
        → Distinguishes program mode (spliced k arguments positions) (next + n)
        (specialize k arguments (goes_on has_variables (demands_constructor c)) rows) t
        → Cases program mode has_variables positions next k rows cs ls alternatives
        → Cases program mode has_variables positions next k rows (c ∷ cs) ls
        (term.MoreAlternatives (term.Built c (variables arguments)) t alternatives)
    literal_of_case : (mode : Mode) (has_variables : Bool) (positions : List ℕ) (next k : ℕ)
        (rows : List Row) (l : Lit) (ls : List Lit)
        (t : Term) (alternatives : Alternatives)
        → Distinguishes program mode (spliced k [] positions) next
        (specialize k [] (goes_on has_variables (demands_literal l)) rows) t
        → Cases program mode has_variables positions next k rows [] ls alternatives
        → Cases program mode has_variables positions next k rows [] (l ∷ ls)
        (term.MoreAlternatives (term.Exactly l) t alternatives)
