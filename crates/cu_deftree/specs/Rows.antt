-- Rows of patterns over positions: the clause matrices of pattern match compilation (Maranget,
-- Compiling pattern matching to good decision trees, 2008), here for definitional trees (Antoy,
-- Definitional trees, 1992). A position is the variable of the flat term that stands there.
use Rattle.std.specs.Prelude.{ℕ, zero, suc, Bool, not, List, [], ◌∷◌, ◌++◌, Option, None, Some, if◌then◌else◌, nat_eq, slice_get, length, map, filter}
use Rattle.std.specs.List.{list_all, list_any, flat_map}
use Rattle.cu_calculus.specs.declared.ConId.{ConId}
use Rattle.cu_calculus.specs.declared.Lit.{Lit}
use Rattle.cu_calculus.specs.Choose.{ALiteral, Demand, Nothing, arguments_of, demand_of, is_demanding, list_patterns, same_type, spliced, demands_constructor}
use Rattle.cu_calculus.specs.Literal.{same_literal}
use Rattle.cu_calculus.specs.Program.{Program, Rule, constructor_of}
use Rattle.cu_calculus.specs.Term as term
use Rattle.cu_calculus.specs.Term.{Alternatives, Pattern, Term}

-- what the variables of a term are called in its flat term
abbrev pub Names : Type 0
Names = List (ℕ × ℕ)

-- The variable that was bound last counts. What nothing binds, which a valid program doesn't have,
-- is called 0, as nothing that a flat term binds is.
abbrev pub name_of : Names → ℕ → ℕ
name_of [] x = 0
name_of ((y, z) ∷ names) x = if nat_eq y x then z else name_of names x

-- A rule or an alternative: its patterns at the positions, what the variables that stand at
-- positions are called, and its right side.
pub record Row : Type 0 where
  pub patterns : List Pattern
  pub names : Names
  pub body : Term

-- what a row demands at a position
abbrev pub demand_at : ℕ → Row → Demand
demand_at k row = elim (slice_get row.patterns k) [ Some p ↦ demand_of p | None ↦ Nothing ]

abbrev pub demands : ℕ → Row → Bool
demands k row = is_demanding (demand_at k row)

-- the leftmost position, from this one on, that all rows demand
abbrev pub demanded_from : ℕ → List Pattern → List Row → Option ℕ
demanded_from k [] rows = None
demanded_from k (p ∷ ps) rows = if list_all (demands k) rows then Some k
    else demanded_from (suc k) ps rows

abbrev pub demanded_by_all : List Row → Option ℕ
demanded_by_all [] = None
demanded_by_all (row ∷ rows) = demanded_from 0 row.patterns (row ∷ rows)

-- ---- names

-- A variable that stands for a whole position is called as the position is, and so is each alias
-- there.
abbrev pub names_at : ℕ → Pattern → Names
names_at position (term.Any x) = (x, position) ∷ []
names_at position (term.Named x p) = (x, position) ∷ names_at position p
names_at position (term.Exactly l) = []
names_at position (term.Built c ps) = []

abbrev pub names_at_all : List ℕ → List Pattern → Names
names_at_all (position ∷ positions) (p ∷ ps) = names_at position p ++ names_at_all positions ps
names_at_all _ _ = []

-- the names at the positions of the arguments of what stands at a position
abbrev pub argument_names : List ℕ → Pattern → Names
argument_names positions (term.Any x) = []
argument_names positions (term.Named x p) = argument_names positions p
argument_names positions (term.Exactly l) = []
argument_names positions (term.Built c ps) = names_at_all positions (list_patterns ps)

-- ---- specializing

-- a row over the positions of the arguments of what stands at position number k, in place of that
abbrev pub specialized : ℕ → List ℕ → Row → Row
specialized k positions row = record {
  patterns =
      spliced k (elim (slice_get row.patterns k) [
        | Some p ↦ arguments_of (length positions) p
        | None ↦ []
      ]) row.patterns;
  names = elim (slice_get row.patterns k) [
    | Some p ↦ argument_names positions p ++ row.names
    | None ↦ row.names
  ];
  body = row.body;
}

-- the rows that pass a test at a position, over the positions of the arguments of what stands there
abbrev pub specialize : ℕ → List ℕ → (Demand → Bool) → List Row → List Row
specialize k positions test rows =
    map (specialized k positions) (filter (λ row. test (demand_at k row)) rows)

-- ---- what occurs at a position

-- so many numbers, from this one on
abbrev pub numbers : ℕ → ℕ → List ℕ
numbers from zero = []
numbers from (suc n) = from ∷ numbers (suc from) n

-- the constructors of a program: those of the first type first, each in the order of its
-- declaration
abbrev pub constructor_ids : Program → List ConId
constructor_ids program = map (λ n. record { 0 = n }) (numbers 0 (length program.constructors))

-- the constructors that some row demands at a position
abbrev pub constructors_at : Program → ℕ → List Row → List ConId
constructors_at program k rows =
    filter (λ c. list_any (λ row. demands_constructor c (demand_at k row)) rows)
    (constructor_ids program)

-- the constructors of the type of this one
abbrev pub siblings : Program → ConId → List ConId
siblings program c = filter (same_type program c) (constructor_ids program)

abbrev pub literal_in : Demand → List Lit
literal_in (ALiteral l) = l ∷ []
literal_in _ = []

-- each literal once, where it occurs first
abbrev pub first_occurrences : List Lit → List Lit
first_occurrences [] = []
first_occurrences (l ∷ ls) = l ∷ filter (λ m. not (same_literal l m)) (first_occurrences ls)

-- the literals that rows demand at a position
abbrev pub literals_at : ℕ → List Row → List Lit
literals_at k rows = first_occurrences (flat_map (λ row. literal_in (demand_at k row)) rows)

-- how many arguments a constructor takes
abbrev pub constructor_arity : Program → ConId → ℕ
constructor_arity program c =
    elim (constructor_of program c) [ Some constructor ↦ constructor.arity | None ↦ 0 ]

-- ---- where rows come from

-- a rule of a function whose parameters are called so
abbrev pub row_of_rule : List ℕ → Rule → Row
row_of_rule positions rule = record {
  patterns = list_patterns rule.params;
  names = names_at_all positions (list_patterns rule.params);
  body = rule.body;
}

-- the alternatives of a case distinction on a variable, where the variables around it are called so
abbrev pub rows_of : Names → ℕ → Alternatives → List Row
rows_of names position term.NoAlternative = []
rows_of names position (term.MoreAlternatives p t alternatives) =
    record { patterns = p ∷ []; names = names_at position p ++ names; body = t }
    ∷ rows_of names position alternatives
