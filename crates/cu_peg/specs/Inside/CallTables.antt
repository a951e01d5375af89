-- What is read off the rows about the tokens that they take, as tests and lists.
use Rattle.std.specs.Prelude.{◌≡◌, ◌&&◌, if◌then◌else◌, ℕ, Bool, true, false, List, [], ◌∷◌}
use Rattle.cu_peg.specs.Inside.Closure.{marked}
use Rattle.cu_peg.specs.declared.closure.Condition.{Condition}
use Rattle.cu_peg.specs.declared.closure.Quantifier.{Quantifier}
use Rattle.cu_peg.specs.declared.closure.Quantifier.TheVariants as quantifier
use Rattle.cu_peg.specs.declared.row.Row.{Row}
use Rattle.cu_peg.specs.declared.row.Row.TheVariants as row
use Rattle.cu_peg.specs.WellFormed.{IsNullable}

-- The marks tell which rows can match without taking a token.
abbrev pub TellsNullable : List Row → List Bool → Type 0
TellsNullable rows marks = (r : ℕ) → (marked marks r ≡ true → IsNullable rows r)
    × (IsNullable rows r → marked marks r ≡ true)

-- the condition under which a row can match without taking a token
abbrev pub nullable_by : Row → Condition
nullable_by (row.Token c) = record { quantifier = quantifier.Any; numbers = [] }
nullable_by (row.Sequence ps) = record { quantifier = quantifier.All; numbers = ps }
nullable_by (row.Choice ps) = record { quantifier = quantifier.Any; numbers = ps }
nullable_by (row.Optional p) = record { quantifier = quantifier.All; numbers = [] }
nullable_by (row.Many p) = record { quantifier = quantifier.All; numbers = [] }
nullable_by (row.AtLeastOne p) = record { quantifier = quantifier.All; numbers = p ∷ [] }
nullable_by (row.SeparatedBy p s) = record { quantifier = quantifier.All; numbers = p ∷ [] }
nullable_by (row.Ahead p) = record { quantifier = quantifier.All; numbers = [] }
nullable_by (row.NotAhead p) = record { quantifier = quantifier.All; numbers = [] }

-- the parts of a sequence up to the first that takes a token
abbrev pub called : List Bool → List ℕ → List ℕ
called nullable [] = []
called nullable (p ∷ ps) = p ∷ (if marked nullable p then called nullable ps else [])

-- the rows that a row calls before it has taken a token
abbrev pub callees : List Bool → Row → List ℕ
callees nullable (row.Token c) = []
callees nullable (row.Sequence ps) = called nullable ps
callees nullable (row.Choice ps) = ps
callees nullable (row.Optional p) = p ∷ []
callees nullable (row.Many p) = p ∷ []
callees nullable (row.AtLeastOne p) = p ∷ []
callees nullable (row.SeparatedBy p s) = called nullable (p ∷ s ∷ [])
callees nullable (row.Ahead p) = p ∷ []
callees nullable (row.NotAhead p) = p ∷ []

abbrev pub calls_by : Quantifier → List Bool → Row → Condition
calls_by all_or_any nullable e = record { quantifier = all_or_any; numbers = callees nullable e }

-- whether a row repeats what can match without taking a token
abbrev pub repeats : List Bool → Row → Bool
repeats nullable (row.Many p) = marked nullable p
repeats nullable (row.AtLeastOne p) = marked nullable p
repeats nullable (row.SeparatedBy p s) = marked nullable p && marked nullable s
repeats nullable _ = false
