-- The readers of the format.
use Rattle.std.specs.Prelude.{ℕ, zero, suc, ◌+◌, ◌-◌, Bool, false, ◌&&◌, List, [], ◌∷◌, Option, None, Some, Ok, Err, codes, if◌then◌else◌, length, nat_eq, nat_le, nat_lt, pos, negsuc}
use Rattle.cu_calculus.specs.declared.Head.{Head}
use Rattle.cu_calculus.specs.declared.Head.TheVariants as head
use Rattle.cu_calculus.specs.declared.Lit.{Lit}
use Rattle.cu_calculus.specs.declared.Lit.TheVariants as lit
use Rattle.cu_calculus.specs.declared.Mode.{Mode}
use Rattle.cu_calculus.specs.declared.Mode.TheVariants as mode
use Rattle.cu_calculus.specs.Term as term
use Rattle.cu_calculus.specs.Term.{Alternatives, Pattern, Patterns, Term, Terms}
use Rattle.cu_calculus.specs.Value.{Value}
use Rattle.cu_values.specs.Cells.{arity_of, read}
use Rattle.cu_values.specs.declared.cell.Cell.{Cell}
use Rattle.cu_values.specs.declared.cell.Cell.TheVariants as cell
use Rattle.cu_prooftext.specs.Inside.Ranges.{leads_scalar, scalar}
use Rattle.cu_prooftext.specs.Inside.Readers.{Reader, after, choose, digits_at, either, made, many, pair}
use Rattle.cu_prooftext.specs.Inside.Loops.{whole}

-- nothing is read, and this stands for it
abbrev pub nothing : {A : Type 0} → A → Reader A
nothing x bytes = Ok (x, bytes)

-- ---- numbers

abbrev pub at_most : ℕ → ℕ → Bool
at_most most n = nat_le n most

abbrev pub between : ℕ → ℕ → Bool
between most n = nat_le 1 n && nat_le n most

abbrev pub up_to : ℕ → Reader ℕ
up_to most = digits_at (at_most most) (at_most most) None

abbrev pub from_one : ℕ → Reader ℕ
from_one most = digits_at (between most) (between most) None

abbrev pub index_at : Reader ℕ
index_at = up_to 18446744073709551615

abbrev pub small_at : Reader ℕ
small_at = up_to 4294967295

-- ---- literals and heads

abbrev pub negative : ℕ → Lit
negative n = lit.Int (negsuc (n - 1))

abbrev pub positive : ℕ → Lit
positive n = lit.Int (pos n)

-- an integer after its mark
abbrev pub integer_at : Reader Lit
integer_at =
    either 45 (made negative (from_one 170141183460469231731687303715884105728))
    (made positive (up_to 170141183460469231731687303715884105727))

-- a character after its mark
abbrev pub character_at : Reader Lit
character_at = made lit.Char (digits_at leads_scalar scalar None)

abbrev pub function_head : ℕ → Head
function_head n = head.Fun (record { 0 = n })

abbrev pub constructor_head : ℕ → Head
constructor_head n = head.Con (record { 0 = n })

abbrev pub set_head : ℕ → Head
set_head n = head.Set (record { 0 = n })

abbrev pub head_table : ℕ → Option (Reader Head)
head_table b =
    if nat_eq b 102 then Some (made function_head index_at)
    else if nat_eq b 99 then Some (made constructor_head index_at)
    else if nat_eq b 115 then Some (made set_head index_at) else None

abbrev pub head_at : Reader Head
head_at = choose head_table

-- ---- values

-- how many arguments of a value follow
abbrev pub small_count : Reader ℕ
small_count = after (codes "/") small_at

abbrev pub constructed_cell : ℕ × ℕ → Cell
constructed_cell p = cell.Con (record { 0 = p.0 }) p.1

abbrev pub partial_cell : Head × ℕ → Cell
partial_cell p = cell.Part p.0 p.1

-- a constructor and how many arguments it has, after its mark
abbrev pub constructor_cell_at : Reader Cell
constructor_cell_at = made constructed_cell (pair index_at (λ c. small_count))

-- a partial application and how many arguments it has, after its mark
abbrev pub partial_cell_at : Reader Cell
partial_cell_at = made partial_cell (pair head_at (λ h. small_count))

abbrev pub cell_table : ℕ → Option (Reader Cell)
cell_table b =
    if nat_eq b 95 then Some (nothing cell.Bottom)
    else if nat_eq b 118 then Some (made cell.LVar small_at)
    else if nat_eq b 105 then Some (made cell.Lit integer_at)
    else if nat_eq b 104 then Some (made cell.Lit character_at)
    else if nat_eq b 107 then Some (made constructed_cell (pair index_at (λ c. small_count)))
    else if nat_eq b 112 then Some (made partial_cell (pair head_at (λ h. small_count))) else None

-- a cell of a value
abbrev pub cell_at : Reader Cell
cell_at = choose cell_table

-- whether more values are needed
abbrev pub needs : ℕ → List ℕ → Bool
needs n bytes = nat_lt 0 n

-- a cell after a space
abbrev pub next_cell : ℕ → Reader Cell
next_cell n = after (codes " ") cell_at

-- how many values are needed after a cell, of so many before it
abbrev pub needed_after : ℕ → Cell → ℕ
needed_after n c = (n - 1) + arity_of c

-- the cells of so many values
abbrev pub cells_at : ℕ → Reader (List Cell)
cells_at = whole needs next_cell needed_after

abbrev pub value_of_cells : Cell × List Cell → Value
value_of_cells p = read (p.0 ∷ p.1)

-- a value
abbrev pub value_at : Reader Value
value_at = made value_of_cells (pair cell_at (λ c. cells_at (arity_of c)))

-- ---- lists

-- whether bytes begin with a comma
abbrev pub comma_first : List ℕ → Bool
comma_first [] = false
comma_first (b ∷ bs) = nat_eq b 44

-- whether bytes begin with a dash
abbrev pub dash_first : List ℕ → Bool
dash_first [] = false
dash_first (b ∷ bs) = nat_eq b 45

-- whether one more item of a list follows, where one may
abbrev pub more_follow : {S : Type 0} → (S → Bool) → S → List ℕ → Bool
more_follow may s bytes = may s && comma_first bytes

-- an item after a comma
abbrev pub next_item : {S A : Type 0} → (S → Reader A) → S → Reader A
next_item r s = after (codes ",") (r s)

-- the items of a list that follow, in a state
abbrev pub further_at : {S A : Type 0} → (S → Bool) → (S → Reader A) → (S → A → S) → S
    → Reader (List A)
further_at may r next = whole (more_follow may) (next_item r) next

abbrev pub list_with : {A : Type 0} → A × List A → List A
list_with p = p.0 ∷ p.1

-- the items of a list that has some
abbrev pub items_at : {S A : Type 0} → (S → Bool) → (S → Reader A) → (S → A → S) → S
    → Reader (List A)
items_at may r next s =
    made list_with (pair (r s) (λ x. whole (more_follow may) (next_item r) next (next s x)))

-- a list, by what each item leads to and where one more may follow
abbrev pub list_at : {S A : Type 0} → (S → Bool) → (S → Reader A) → (S → A → S) → S
    → Reader (List A)
list_at may r next s = either 45 (nothing []) (items_at may r next s)

-- ---- patterns

-- how many parts may follow, where so many levels may stand in a term or pattern
abbrev pub most_parts : ℕ → ℕ
most_parts zero = 0
most_parts (suc levels) = 18446744073709551615

abbrev pub count_at : ℕ → Reader ℕ
count_at levels = after (codes "/") (up_to (most_parts levels))

-- the patterns of a list
abbrev pub pattern_list : List Pattern → Patterns
pattern_list [] = term.NoPattern
pattern_list (p ∷ ps) = term.MorePatterns p (pattern_list ps)

abbrev pub built_pattern : ℕ × (ℕ × List Pattern) → Pattern
built_pattern p = term.Built (record { 0 = p.0 }) (pattern_list p.1.1)

abbrev pub named_pattern : ℕ × Pattern → Pattern
named_pattern p = term.Named p.0 p.1

-- a part after a space
abbrev pub part_at : {A : Type 0} → Reader A → Reader A
part_at = after (codes " ")

-- a constructor and its patterns, by a reader of these, where so many levels may stand in it
abbrev pub built_at : ℕ → Reader Pattern → Reader (ℕ × (ℕ × List Pattern))
built_at levels r = pair index_at (λ c. pair (count_at levels) (λ n. many (part_at r) n))

-- the readers of patterns but named ones
abbrev pub plain_patterns : ℕ → Reader Pattern → ℕ → Option (Reader Pattern)
plain_patterns levels r b =
    if nat_eq b 120 then Some (made term.Any small_at)
    else if nat_eq b 105 then Some (made term.Exactly integer_at)
    else if nat_eq b 104 then Some (made term.Exactly character_at)
    else if nat_eq b 107 then Some (made built_pattern (built_at levels r)) else None

abbrev pub pattern_table : ℕ → Reader Pattern → ℕ → Option (Reader Pattern)
pattern_table zero r b = plain_patterns zero r b
pattern_table (suc levels) r b =
    if nat_eq b 97 then Some (made named_pattern (pair small_at (λ x. part_at r)))
    else plain_patterns (suc levels) r b

-- a pattern that is nested at most so deep
abbrev pub pattern_at : ℕ → Reader Pattern
pattern_at zero bytes = Err (length bytes)
pattern_at (suc levels) bytes = choose (pattern_table levels (pattern_at levels)) bytes

-- ---- terms

-- the terms of a list
abbrev pub term_list : List Term → Terms
term_list [] = term.NoTerm
term_list (t ∷ ts) = term.MoreTerms t (term_list ts)

-- the alternatives of a list
abbrev pub alternative_list : List (Pattern × Term) → Alternatives
alternative_list [] = term.NoAlternative
alternative_list (a ∷ rows) = term.MoreAlternatives a.0 a.1 (alternative_list rows)

abbrev pub whole_term : Head × (ℕ × List Term) → Term
whole_term p = term.Whole p.0 (term_list p.1.1)

abbrev pub part_term : Head × (ℕ × List Term) → Term
part_term p = term.Part p.0 (term_list p.1.1)

abbrev pub apply_term : Term × Term → Term
apply_term p = term.Apply p.0 p.1

abbrev pub or_term : Term × Term → Term
or_term p = term.Or p.0 p.1

abbrev pub let_term : ℕ × (Term × Term) → Term
let_term p = term.Let p.0 p.1.0 p.1.1

abbrev pub free_term : ℕ × Term → Term
free_term p = term.Free p.0 p.1

abbrev pub case_term : Mode → ℕ × (Term × List (Pattern × Term)) → Term
case_term m p = term.Case m p.1.0 (alternative_list p.1.1)

-- a head and its terms, by a reader of these, where so many levels may stand in it
abbrev pub call_at : ℕ → Reader Term → Reader (Head × (ℕ × List Term))
call_at levels r = pair head_at (λ h. pair (count_at levels) (λ n. many (part_at r) n))

-- two terms
abbrev pub two_at : Reader Term → Reader (Term × Term)
two_at r = pair (part_at r) (λ t. part_at r)

-- an alternative
abbrev pub alternative_at : Reader Term → Reader Pattern → Reader (Pattern × Term)
alternative_at r q = pair (part_at q) (λ p. part_at r)

-- a scrutinee and alternatives, after the mark of the mode
abbrev pub case_at : ℕ → Reader Term → Reader Pattern
    → Reader (ℕ × (Term × List (Pattern × Term)))
case_at levels r q =
    pair (count_at levels) (λ n. pair (part_at r) (λ t. many (alternative_at r q) n))

-- the readers of terms that may have none in them
abbrev pub plain_terms : ℕ → Reader Term → ℕ → Option (Reader Term)
plain_terms levels r b =
    if nat_eq b 120 then Some (made term.Variable small_at)
    else if nat_eq b 105 then Some (made term.Literal integer_at)
    else if nat_eq b 104 then Some (made term.Literal character_at)
    else if nat_eq b 119 then Some (made whole_term (call_at levels r))
    else if nat_eq b 113 then Some (made part_term (call_at levels r)) else None

abbrev pub term_table : ℕ → Reader Term → Reader Pattern → ℕ → Option (Reader Term)
term_table zero r q b = plain_terms zero r b
term_table (suc levels) r q b =
    if nat_eq b 64 then Some (made apply_term (two_at r))
    else if nat_eq b 108 then Some (made let_term (pair small_at (λ x. two_at r)))
    else if nat_eq b 110 then Some (made free_term (pair small_at (λ x. part_at r)))
    else if nat_eq b 111 then Some (made or_term (two_at r))
    else if nat_eq b 114 then Some (made (case_term mode.Rigid) (case_at (suc levels) r q))
    else if nat_eq b 102 then Some (made (case_term mode.Flex) (case_at (suc levels) r q))
    else plain_terms (suc levels) r b

-- a term that is nested at most so deep
abbrev pub term_at : ℕ → Reader Term
term_at zero bytes = Err (length bytes)
term_at (suc levels) bytes = choose (term_table levels (term_at levels) (pattern_at levels)) bytes
