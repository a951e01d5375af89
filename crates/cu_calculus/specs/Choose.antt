-- Which alternative of a case distinction a value takes. Patterns are looked at from left to right,
-- as far as the first alternative demands, and alternatives are given up where they can't be taken
-- any more. The rows are a clause matrix, and a look specializes it (Maranget, Compiling pattern
-- matching to good decision trees, 2008).
use Rattle.std.specs.Prelude.{◌≡◌, ℕ, ◌+◌, zero, suc, Bool, true, false, not, ◌||◌, List, [], ◌∷◌, ◌++◌, Option, None, Some, if◌then◌else◌, nat_eq, option_map, slice_get, take, drop, map, filter, length, replicate}
use Rattle.std.specs.List.{list_any}
use Rattle.cu_calculus.specs.declared.ConId.{ConId}
use Rattle.cu_calculus.specs.declared.Lit.{Lit}
use Rattle.cu_calculus.specs.Literal.{same_literal}
use Rattle.cu_calculus.specs.Match.{Bindings, matched, same_constructor}
use Rattle.cu_calculus.specs.Program.{Program, constructor_of}
use Rattle.cu_calculus.specs.Term.{Alternatives, Any, Built, Exactly, MoreAlternatives, MorePatterns, Named, NoAlternative, NoPattern, Pattern, Patterns, Term}
use Rattle.cu_calculus.specs.Value as value
use Rattle.cu_calculus.specs.Value.{Value, list_of}

-- a row of the clause matrix: patterns at positions, and the number of their alternative, counted
-- from 0
pub record Row : Type 0 where
  pub patterns : List Pattern
  pub choice : ℕ

-- what a pattern demands of a value: nothing, a literal or a constructor
pub data Demand : Type 0 where
  Nothing : Demand
  ALiteral : Lit → Demand
  AConstructor : ConId → Demand

-- the demand of a pattern
abbrev pub demand_of : Pattern → Demand
demand_of (Any x) = Nothing
demand_of (Exactly l) = ALiteral l
demand_of (Built c ps) = AConstructor c
demand_of (Named x p) = demand_of p

-- the list of patterns
abbrev pub list_patterns : Patterns → List Pattern
list_patterns NoPattern = []
list_patterns (MorePatterns p ps) = p ∷ list_patterns ps

-- the patterns for the n arguments of what stands at a position: a pattern that demands nothing
-- there demands nothing of them
abbrev pub arguments_of : ℕ → Pattern → List Pattern
arguments_of n (Any x) = replicate n (Any x)
arguments_of n (Exactly l) = []
arguments_of n (Built c ps) = list_patterns ps
arguments_of n (Named x p) = arguments_of n p

-- whether anything is demanded
abbrev pub is_demanding : Demand → Bool
is_demanding Nothing = false
is_demanding (ALiteral l) = true
is_demanding (AConstructor c) = true

-- the leftmost position that is demanded
abbrev pub leftmost : List Pattern → Option ℕ
leftmost [] = None
leftmost (p ∷ ps) = if is_demanding (demand_of p) then Some 0
    else option_map (λ k. k + 1) (leftmost ps)

-- what a row demands at a position
abbrev pub demand_at : ℕ → Row → Demand
demand_at position row =
    elim (slice_get row.patterns position) [ Some p ↦ demand_of p | None ↦ Nothing ]

-- whether this literal is demanded
abbrev pub demands_literal : Lit → Demand → Bool
demands_literal l (ALiteral m) = same_literal l m
demands_literal l _ = false

-- whether this constructor is demanded
abbrev pub demands_constructor : ConId → Demand → Bool
demands_constructor c (AConstructor d) = same_constructor c d
demands_constructor c _ = false

-- whether anything but this literal is demanded, or nothing
abbrev pub not_literal : Lit → Demand → Bool
not_literal l (ALiteral m) = not (same_literal l m)
not_literal l _ = true

-- whether nothing is demanded
abbrev pub demands_nothing : Demand → Bool
demands_nothing Nothing = true
demands_nothing (ALiteral l) = false
demands_nothing (AConstructor c) = false

-- whether some row demands nothing at a position
abbrev pub has_variable : ℕ → List Row → Bool
has_variable position rows = list_any (λ row. demands_nothing (demand_at position row)) rows

-- a list in which the arguments of what stands at a position take its place
abbrev pub spliced : {A : Type 0} → ℕ → List A → List A → List A
spliced position arguments xs = take position xs ++ arguments ++ drop (position + 1) xs

-- a row in which the patterns for n arguments take the place of the pattern at a position
abbrev pub specialized_row : ℕ → ℕ → Row → Row
specialized_row position n row = record {
  patterns =
      spliced position (elim (slice_get row.patterns position) [
        | Some p ↦ arguments_of n p
        | None ↦ []
      ]) row.patterns;
  choice = row.choice;
}

-- what a look at the rows leads to
pub data Look : Type 0 where
  -- No alternative is taken.
  Nowhere : Look
  -- The alternative of this number is taken.
  Take : ℕ → Look
  -- Fewer rows are left, over the same values.
  Again : List Row → Look
  -- Fewer rows are left, over the arguments of what stands at a position. (This is specialization
  -- of a clause matrix, and binds no variable.)
  Specialize : List Row → List Value → Look

-- specialization: the rows that pass a test at a position, over the arguments of what stands there
abbrev pub specialized_look : ℕ → (Demand → Bool) → List Row → List Value → List Value → Look
specialized_look position test rows arguments values =
    Specialize (map (specialized_row position (length arguments))
    (filter (λ row. test (demand_at position row)) rows)) (spliced position arguments values)

-- whether two constructors are of one type of the program
abbrev pub same_type : Program → ConId → ConId → Bool
same_type program c d = elim (constructor_of program c) [
  | Some a ↦ elim (constructor_of program d) [
    | Some b ↦ nat_eq a.of_type b.of_type
    | None ↦ false
  ]
  | None ↦ false
]

-- A look where a literal stands at a position at which the first row demands something. The Bool
-- says whether some row demands nothing there. If none does, the rows that want another literal or
-- a constructor go. Else the first row decides: where it wants this literal, all that want another
-- one or a constructor go; where it wants another literal, the rows that want that one go; where it
-- wants a constructor, no alternative is taken.
abbrev pub at_literal : ℕ → Lit → Demand → Bool → List Row → List Value → Look
at_literal position l first false rows values =
    specialized_look position (demands_literal l) rows [] values
at_literal position l (ALiteral m) true rows values =
    if same_literal l m
    then specialized_look position (λ d. demands_nothing d || demands_literal l d) rows [] values
    else Again (filter (λ row. not_literal m (demand_at position row)) rows)
at_literal position l (AConstructor c) true rows values = Nowhere
at_literal position l Nothing true rows values = Nowhere

-- A look where a constructor stands at a position at which the first row demands something. The
-- Bool says whether some row demands nothing there. If none does, the rows that want another
-- constructor or a literal go. Else the first row decides: where it wants a constructor of the same
-- type, all that want another one or a literal go; where it wants one of another type, no
-- alternative is taken; where it wants a literal, the rows that want that literal go.
abbrev pub at_constructor : Program → ℕ → ConId → Demand → Bool → List Row → List Value → List Value
    → Look
at_constructor program position c first false rows arguments values =
    specialized_look position (demands_constructor c) rows arguments values
at_constructor program position c (AConstructor d) true rows arguments values =
    if same_type program c d
    then specialized_look position (λ e. demands_nothing e || demands_constructor c e) rows
    arguments values
    else Nowhere
at_constructor program position c (ALiteral m) true rows arguments values =
    Again (filter (λ row. not_literal m (demand_at position row)) rows)
at_constructor program position c Nothing true rows arguments values = Nowhere

-- a look at a position, by the value that stands there: one of which nothing is known, a variable
-- or a partial application takes no alternative
abbrev pub look_at : Program → ℕ → Row → List Row → List Value → Option Value → Look
look_at program position first rows values (Some (value.Literal l)) =
    at_literal position l (demand_at position first) (has_variable position rows) rows values
look_at program position first rows values (Some (value.Constructed c vs)) =
    at_constructor program position c (demand_at position first) (has_variable position rows) rows
    (list_of vs) values
look_at program position first rows values _ = Nowhere

-- a look at the leftmost position at which the first row demands something; where it demands
-- nothing, its alternative is taken
abbrev pub look_from : Program → Row → List Row → List Value → Option ℕ → Look
look_from program first rows values None = Take first.choice
look_from program first rows values (Some position) =
    look_at program position first rows values (slice_get values position)

-- one look at a clause matrix over values
abbrev pub look : Program → List Row → List Value → Look
look program [] values = Nowhere
look program (first ∷ rows) values =
    look_from program first (first ∷ rows) values (leftmost first.patterns)

-- The rows over the values take an alternative, after some looks.
pub data Chooses (program : Program) : List Row → List Value → ℕ → Type 0 where
  taken : (rows : List Row) (values : List Value) (choice : ℕ)
      → look program rows values ≡ Take choice → Chooses program rows values choice
  again : (rows fewer : List Row) (values : List Value) (choice : ℕ)
      → look program rows values ≡ Again fewer
      → Chooses program fewer values choice → Chooses program rows values choice
  specialized_rows : (rows fewer : List Row) (values parts : List Value) (choice : ℕ)
      → look program rows values ≡ Specialize fewer parts
      → Chooses program fewer parts choice → Chooses program rows values choice

-- the rows of alternatives, of which the first has the number n
abbrev pub rows_from : ℕ → Alternatives → List Row
rows_from n NoAlternative = []
rows_from n (MoreAlternatives p t alternatives) =
    record { patterns = p ∷ []; choice = n } ∷ rows_from (n + 1) alternatives

-- the pattern and the term of the alternative with a number, counted from 0
abbrev pub alternative_at : Alternatives → ℕ → Option (Pattern × Term)
alternative_at NoAlternative k = None
alternative_at (MoreAlternatives p t alternatives) zero = Some (p, t)
alternative_at (MoreAlternatives p t alternatives) (suc k) = alternative_at alternatives k

-- Alternatives select a term for a value, and bind variables: the value takes the alternative, and
-- matches its pattern with these bindings.
pub record Selects (program : Program) (alternatives : Alternatives) (u : Value) (t : Term)
    (bindings : Bindings) : Type 0 where
  pub choice : ℕ
  pub pattern : Pattern
  pub chooses : Chooses program (rows_from 0 alternatives) (u ∷ []) choice
  pub at : alternative_at alternatives choice ≡ Some (pattern, t)
  pub matches : matched pattern u ≡ Some bindings
