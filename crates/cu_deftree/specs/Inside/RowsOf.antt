-- The rows that the code works on.
use Rattle.std.specs.Prelude.{ℕ, Option, Bool, not, List, ◌∷◌, [], ◌++◌, Some, None, filter, map}
use Rattle.std.specs.List.{list_any}
use Rattle.cu_calculus.specs.Choose as calculus
use Rattle.cu_calculus.specs.Choose.{is_demanding, not_literal, demands_constructor, demands_literal}
use Rattle.cu_calculus.specs.Term as clean
use Rattle.cu_calculus.specs.declared.ConId.{ConId}
use Rattle.cu_calculus.specs.declared.Lit.{Lit}
use Rattle.cu_deftree.specs.Inside.NamesOf.{names_of}
use Rattle.cu_deftree.specs.Lowering.{goes_on}
use Rattle.cu_deftree.specs.Rows as definition
use Rattle.cu_deftree.specs.declared.patterns.Choice.{Choice}
use Rattle.cu_deftree.specs.declared.patterns.Choice.TheVariants as choice
use Rattle.cu_deftree.specs.declared.patterns.Keep.{Keep}
use Rattle.cu_deftree.specs.declared.patterns.Keep.TheVariants as keep
use Rattle.cu_deftree.specs.declared.rows.Row.{Row}
use Rattle.cu_kernel.specs.TermsOf.{term_of}
use Rattle.cu_matrix.specs.Meaning.{patterns_at}

abbrev pub demands_choice : Choice → calculus.Demand → Bool
demands_choice (choice.Constructor c) = demands_constructor c
demands_choice (choice.Literal l) = demands_literal l

-- which demands stay
abbrev pub keeps : Keep → calculus.Demand → Bool
keeps keep.Demanding d = is_demanding d
keeps keep.Undemanding d = not (is_demanding d)
keeps (keep.OtherThan l) d = not_literal l d
keeps (keep.Branch c has_variables) d = goes_on has_variables (demands_choice c) d

abbrev pub row_of : Row → definition.Row
row_of row = record {
  patterns = patterns_at row.patterns.items;
  names = row.own.items ++ names_of row.around.now;
  body = term_of row.body.now;
}

abbrev pub all_rows : List Row → List definition.Row
all_rows rows = map row_of rows

-- the row of an alternative, where the variables around it are called so
abbrev pub alternative_row : definition.Names → ℕ → clean.Pattern → clean.Term → definition.Row
alternative_row names position p t =
    record { patterns = p ∷ []; names = definition.names_at position p ++ names; body = t }

-- the numbers below `end` of the constructors that rows demand at position k
abbrev pub demanded_below : ℕ → ℕ → List definition.Row → List ℕ
demanded_below end k rows =
    filter
    (λ n. list_any
    (λ row. demands_constructor (record { 0 = n }) (definition.demand_at k row)) rows)
    (definition.numbers 0 end)

-- constructors and then literals
abbrev pub choices : List ConId → List Lit → List Choice
choices cs ls = map choice.Constructor cs ++ map choice.Literal ls

abbrev pub list_from_option : {A : Type 0} → Option A → List A
list_from_option None = []
list_from_option (Some x) = x ∷ []
