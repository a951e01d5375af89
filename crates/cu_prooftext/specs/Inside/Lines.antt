-- The readers of steps, claims, whole texts and files.
use Rattle.std.specs.Prelude.{ℕ, zero, suc, ◌+◌, Bool, true, List, [], ◌∷◌, Option, None, Some, Result, Ok, Err, codes, drop, if◌then◌else◌, length, nat_le, nat_lt, take}
use Rattle.cu_calculus.specs.Gives.{Claim}
use Rattle.cu_calculus.specs.Match.{Bindings}
use Rattle.cu_calculus.specs.Proof.{Statement, Step}
use Rattle.cu_calculus.specs.Term.{Term}
use Rattle.cu_calculus.specs.Value.{Value, values_of}
use Rattle.cu_prooftext.specs.Inside.Ranges.{above, leads_above}
use Rattle.cu_prooftext.specs.Inside.Readers.{◌>>=◌, Reader, after, digits_at, ended, made, many, pair, word}
use Rattle.cu_prooftext.specs.Inside.Reading.{further_at, from_one, index_at, items_at, list_at, small_at, term_at, up_to, value_at}

-- ---- lists

-- one state, in which one more item may always follow
abbrev pub always_more : Unit {0} → Bool
always_more u = true

abbrev pub no_state : {A : Type 0} → Unit {0} → A → Unit {0}
no_state u x = u

-- the numbers of the steps that the step of a number cites
abbrev pub cites_at : ℕ → Reader (List ℕ)
cites_at zero = made (λ u. []) (word (codes "-"))
cites_at (suc last) = list_at always_more (λ u. up_to last) no_state tt

-- further steps that the step after the last one cites
abbrev pub further_cites : ℕ → Reader (List ℕ)
further_cites last = further_at always_more (λ u. up_to last) no_state tt

-- the steps that the step after the last one cites, where there are some
abbrev pub some_cites : ℕ → Reader (List ℕ)
some_cites last = items_at always_more (λ u. up_to last) no_state tt

-- the values of a list that has some
abbrev pub some_values : Reader (List Value)
some_values = items_at always_more (λ u. value_at) no_state tt

-- further values of a list
abbrev pub further_values : Reader (List Value)
further_values = further_at always_more (λ u. value_at) no_state tt

abbrev pub values_at : Reader (List Value)
values_at = list_at always_more (λ u. value_at) no_state tt

-- whether a variable may follow the last one, where there is one
abbrev pub may_rise : Option ℕ → Bool
may_rise None = true
may_rise (Some x) = nat_lt x 4294967295

-- a variable above the last one, where there is one
abbrev pub variable_at : Option ℕ → Reader ℕ
variable_at None = small_at
variable_at (Some x) = digits_at (leads_above x) (above x) None

abbrev pub binding_at : Option ℕ → Reader (ℕ × Value)
binding_at last = pair (variable_at last) (λ x. after (codes "=") value_at)

abbrev pub last_of : Option ℕ → ℕ × Value → Option ℕ
last_of last b = Some b.0

-- further bindings of an environment, after one of the last variable
abbrev pub further_bindings : ℕ → Reader Bindings
further_bindings last = further_at may_rise binding_at last_of (Some last)

-- the bindings of an environment that has some
abbrev pub some_bindings : Reader Bindings
some_bindings = items_at may_rise binding_at last_of None

abbrev pub environment_at : Reader Bindings
environment_at = list_at may_rise binding_at last_of None

-- ---- lines

abbrev pub statement_with : Bindings × (Term × Value) → Statement
statement_with p = record { env = p.0; term = p.1.0; value = p.1.1 }

abbrev pub statement_at : Reader Statement
statement_at =
    made statement_with
    (pair environment_at
    (λ e. pair (after (codes " : ") (term_at 16384)) (λ t. after (codes " => ") value_at)))

abbrev pub step_with : List ℕ × Statement → Step
step_with p = record { cites = p.0; statement = p.1 }

-- the line of the step of a number
abbrev pub step_at : ℕ → Reader Step
step_at number =
    ended (made step_with (pair (cites_at number) (λ c. after (codes " : ") statement_at)))
    (codes "\n")

abbrev pub step_before : Step × List Step → List Step
step_before p = p.0 ∷ p.1

-- the lines of so many steps, the first of which has this number
abbrev pub steps_at : ℕ → ℕ → Reader (List Step)
steps_at number zero bytes = Ok ([], bytes)
steps_at number (suc n) bytes =
    made step_before (pair (step_at number) (λ s. steps_at (number + 1) n)) bytes

abbrev pub claim_with : ℕ × (List Value × List Value) → Claim
claim_with p = record { function = record { 0 = p.0 }; arguments = values_of p.1.0; values = p.1.1 }

-- the line of a claim
abbrev pub claim_at : Reader Claim
claim_at =
    ended
    (made claim_with
    (pair (after (codes "f") index_at)
    (λ f. pair (after (codes " : ") values_at) (λ vs. after (codes " : ") values_at))))
    (codes "\n")

-- a line that says how many lines of a kind follow
abbrev pub heading_at : List ℕ → Reader ℕ → Reader ℕ
heading_at title r = ended (after title r) (codes "\n")

abbrev pub claims_at : Reader (ℕ × List Claim)
claims_at = pair (heading_at (codes "claims ") index_at) (λ n. many claim_at n)

abbrev pub all_steps_at : Reader (ℕ × List Step)
all_steps_at =
    pair (heading_at (codes "steps ") (from_one 18446744073709551615)) (λ n. steps_at 0 n)

abbrev pub lines_with : (ℕ × List Claim) × (ℕ × List Step) → List Claim × List Step
lines_with p = (p.0.1, p.1.1)

-- claims and steps
abbrev pub lines_at : Reader (List Claim × List Step)
lines_at = made lines_with (pair claims_at (λ c. all_steps_at))

-- what is read of bytes, after which there are none
abbrev pub alone : {A : Type 0} → A × List ℕ → Result A ℕ
alone (x, []) = Ok x
alone (x, b ∷ bs) = Err (length (b ∷ bs))

abbrev pub read_alone : {A : Type 0} → Reader A → List ℕ → Result A ℕ
read_alone r bytes = r bytes >>= alone

-- ---- files

-- so many bytes
abbrev pub taken_at : ℕ → Reader (List ℕ)
taken_at n bytes = if nat_le n (length bytes) then Ok (take n bytes, drop n bytes) else Err 0

-- how many bytes a goal has, and the goal
abbrev pub counted_at : Reader (List ℕ)
counted_at =
    made (λ p. p.1) (pair (after (codes "goal ") index_at) (λ n. after (codes " ") (taken_at n)))

-- the first line of a file
abbrev pub goal_at : Reader (List ℕ)
goal_at = ended counted_at (codes "\n")

-- a goal, and claims and steps
abbrev pub file_at : Reader (List ℕ × (List Claim × List Step))
file_at = pair goal_at (λ goal. lines_at)
