-- The table of the calculus (CRWL; González-Moreno and others 1999), as a test whether a statement
-- follows from the statements that it cites. That the test decides the table is the crate's law.
use Rattle.std.specs.Prelude.{ℕ, Bool, true, false, ◌&&◌, ◌||◌, List, [], ◌∷◌, Option, None, Some, if◌then◌else◌, nat_eq, take, drop}
use Rattle.std.specs.List.{list_any}
use Rattle.cu_calculus.specs.declared.ConId.{ConId}
use Rattle.cu_calculus.specs.declared.FunId.{FunId}
use Rattle.cu_calculus.specs.declared.Head.{Head}
use Rattle.cu_calculus.specs.declared.Head.TheVariants as head
use Rattle.cu_calculus.specs.declared.Lit.{Lit}
use Rattle.cu_calculus.specs.Answered.{answered, same_head, same_value, same_values}
use Rattle.cu_calculus.specs.Choose.{alternative_at, rows_from}
use Rattle.cu_calculus.specs.Chosen.{chosen}
use Rattle.cu_calculus.specs.Gives.{Claim, collected}
use Rattle.cu_calculus.specs.Literal.{same_literal}
use Rattle.cu_calculus.specs.Match.{Bindings, all_matched, bind_all, empty, matched, same_constructor}
use Rattle.cu_calculus.specs.Program.{Body, External, Program, Rule, Rules, arity_in, function_of}
use Rattle.cu_calculus.specs.Proof.{Statement}
use Rattle.cu_calculus.specs.Shape.{are_ground, is_of, is_total_data, takes, takes_more}
use Rattle.cu_calculus.specs.Term as term
use Rattle.cu_calculus.specs.Term.{Alternatives, Pattern, Term, Terms}
use Rattle.cu_calculus.specs.Valid.{term_count}
use Rattle.cu_calculus.specs.Value as value
use Rattle.cu_calculus.specs.Value.{Value, Values, and_then, count}
use Rattle.cu_values.specs.Approximation.{is_below}
use Rattle.cu_crwl.specs.Environments.{all_about, is_about, says, values_said}

-- whether a value is Bottom
abbrev pub is_bottom : Value → Bool
is_bottom value.Bottom = true
is_bottom _ = false

-- whether a value is this constructor on these values
abbrev pub is_built : ConId → Values → Value → Bool
is_built c us (value.Constructed d vs) = same_constructor d c && same_values vs us
is_built c us _ = false

-- whether a value is the partial application of this head to these values
abbrev pub is_part : Head → Values → Value → Bool
is_part h us (value.Partial k vs) = same_head k h && same_values vs us
is_part h us _ = false

-- whether a value is this literal
abbrev pub is_literal_value : Lit → Value → Bool
is_literal_value l (value.Literal m) = same_literal m l
is_literal_value l _ = false

-- whether no statement is cited
abbrev pub none_cited : List Statement → Bool
none_cited [] = true
none_cited (s ∷ ss) = false

-- the cited statement, where exactly one is cited
abbrev pub one_cited : List Statement → Option Statement
one_cited (s ∷ []) = Some s
one_cited _ = None

-- the cited statements, where exactly two are cited
abbrev pub two_cited : List Statement → Option (Statement × Statement)
two_cited (s ∷ r ∷ []) = Some (s, r)
two_cited _ = None

-- the first two cited statements and the further ones, where there are two
abbrev pub first_cited : List Statement → Option (Statement × Statement × List Statement)
first_cited (s ∷ r ∷ last) = Some (s, r, last)
first_cited _ = None

-- whether a rule's patterns match the values, and its right side gives this value under the
-- bindings of the match, by this statement
abbrev pub rule_gives : Values → Statement → Value → Rule → Bool
rule_gives us s v rule =
    elim (all_matched rule.params us) [
      | Some bindings ↦ says s bindings [] rule.body v
      | None ↦ false
    ]

-- whether one of the rules gives this value, by the one statement that is cited
abbrev pub rules_give : Values → Option Statement → Value → List Rule → Bool
rules_give us None v rules = false
rules_give us (Some s) v rules = list_any (rule_gives us s v) rules

-- whether there is an answer, and it is this value
abbrev pub is_answer : Option Value → Value → Bool
is_answer None v = false
is_answer (Some answer) v = same_value answer v

-- whether a function's body gives this value on these values, by the cited statements
abbrev pub body_gives : Program → Values → List Statement → Value → Body → Bool
body_gives program us last v (Rules rules) = rules_give us (one_cited last) v rules
body_gives program us last v (External operation) =
    none_cited last && is_answer (answered program operation us) v

-- whether a claim is about this function on these values, and its list of values is at least this
-- value
abbrev pub claim_gives : Program → ConId → FunId → Values → Value → Claim → Bool
claim_gives program c f us v claim =
    (nat_eq claim.function.0 f.0 && same_values claim.arguments us)
    && is_below v (collected program c claim.values)

-- whether one of the claims is about this function on these values and gives this value
abbrev pub claims_give : Program → Option ConId → List Claim → FunId → Values → Value → Bool
claims_give program None claims f us v = false
claims_give program (Some c) claims f us v = list_any (claim_gives program c f us v) claims

-- whether a head on as many values as it takes has this value, by the statements that are cited
-- last
unfoldable pub applies : Program → List Claim → Head → Values → List Statement → Value → Bool
applies program claims (head.Con c) us last v = none_cited last && is_built c us v
applies program claims (head.Fun f) us last v =
    elim (function_of program f) [
      | Some function ↦ body_gives program us last v function.body
      | None ↦ false
    ]
applies program claims (head.Set f) us last v =
    (none_cited last && are_ground us) && claims_give program program.special.values claims f us v

-- whether a partial application to one more value gives this value: a partial application where its
-- head lacks further arguments, else what the head gives
abbrev pub applied_to : Program → List Claim → Head → Values → List Statement → Value → Bool
applied_to program claims h us last v =
    if takes_more (arity_in program h) (count us) then none_cited last && is_part h us v
    else takes (arity_in program h) (count us) && applies program claims h us last v

-- whether a value, applied to another one, gives this value; only a partial application may
abbrev pub application_gives : Program → List Claim → Value → Value → List Statement → Value → Bool
application_gives program claims (value.Partial h us) u last v =
    applied_to program claims h (and_then us u) last v
application_gives program claims _ u last v = false

-- the row for an application: two statements are cited for its parts, and then those for the call
abbrev pub apply_follows : Program → List Claim → Option (Statement × Statement × List Statement)
    → Bindings → Term → Term → Value → Bool
apply_follows program claims None env f a v = false
apply_follows program claims (Some cited) env f a v =
    (is_about cited.0 [] env f && is_about cited.1 [] env a)
    && application_gives program claims cited.0.value cited.1.value cited.2 v

-- the row for a head with all its arguments: a statement is cited for each argument, and then those
-- for the call
abbrev pub whole_follows : Program → List Claim → List Statement → List Statement → Bindings → Head
    → Terms → Value → Bool
whole_follows program claims parts last env h ts v =
    all_about parts env ts && applies program claims h (values_said parts) last v

-- the row for a partial application: a statement is cited for each argument
abbrev pub part_follows : List Statement → Bindings → Head → Terms → Value → Bool
part_follows parts env h ts v = all_about parts env ts && is_part h (values_said parts) v

-- the row for a Let: statements are cited for the definition and for the body
abbrev pub let_follows : Option (Statement × Statement) → Bindings → ℕ → Term → Term → Value → Bool
let_follows None env x a b v = false
let_follows (Some cited) env x a b v =
    is_about cited.0 [] env a && says cited.1 ((x, cited.0.value) ∷ []) env b v

-- whether a statement gives the body's value where the variable stands for u, which is total data
-- of the program
abbrev pub free_gives : Program → Statement → Bindings → ℕ → Value → Term → Value → Bool
free_gives program s env x u t v = (is_total_data u && is_of program u)
    && says s ((x, u) ∷ []) env t v

-- the row for a free variable, which stands for what the cited statement says of it
abbrev pub free_follows : Program → Option Statement → Bindings → ℕ → Term → Value → Bool
free_follows program None env x t v = false
free_follows program (Some s) env x t v = free_gives program s env x (bind_all empty s.env x) t v

-- the row for a choice: a statement is cited for one of the two terms
abbrev pub or_follows : Option Statement → Bindings → Term → Term → Value → Bool
or_follows None env a b v = false
or_follows (Some s) env a b v = says s [] env a v || says s [] env b v

-- whether a statement gives the value of an alternative's term, under the bindings of the match
abbrev pub alternative_gives : Statement → Bindings → Value → Value → Option (Pattern × Term) → Bool
alternative_gives r env u v None = false
alternative_gives r env u v (Some row) =
    elim (matched row.0 u) [ Some bindings ↦ says r bindings env row.1 v | None ↦ false ]

-- whether a statement gives the value of the alternative with a number
abbrev pub choice_gives : Statement → Bindings → Value → Value → Alternatives → Option ℕ → Bool
choice_gives r env u v alternatives None = false
choice_gives r env u v alternatives (Some k) =
    alternative_gives r env u v (alternative_at alternatives k)

-- the row for a case distinction: statements are cited for the scrutinee and for the alternative
-- that is taken
abbrev pub case_follows : Program → Option (Statement × Statement) → Bindings → Term → Alternatives
    → Value → Bool
case_follows program None env a alternatives v = false
case_follows program (Some cited) env a alternatives v =
    is_about cited.0 [] env a
    && choice_gives cited.1 env cited.0.value v alternatives
    (chosen program (rows_from 0 alternatives) (cited.0.value ∷ []))

-- the row for a term's form
unfoldable pub row_follows : Program → List Claim → List Statement → Bindings → Term → Value → Bool
row_follows program claims cited env (term.Variable x) v =
    none_cited cited && is_below v (bind_all empty env x)
row_follows program claims cited env (term.Literal l) v = none_cited cited && is_literal_value l v
row_follows program claims cited env (term.Whole h ts) v =
    whole_follows program claims (take (term_count ts) cited)
    (drop (term_count ts) cited) env h ts v
row_follows program claims cited env (term.Part h ts) v = part_follows cited env h ts v
row_follows program claims cited env (term.Apply f a) v =
    apply_follows program claims (first_cited cited) env f a v
row_follows program claims cited env (term.Let x a b) v = let_follows (two_cited cited) env x a b v
row_follows program claims cited env (term.Free x t) v =
    free_follows program (one_cited cited) env x t v
row_follows program claims cited env (term.Or a b) v = or_follows (one_cited cited) env a b v
row_follows program claims cited env (term.Case mode a alternatives) v =
    case_follows program (two_cited cited) env a alternatives v

-- whether a statement follows from cited ones, by the row for Bottom or by that for its term's form
unfoldable pub follows : Program → List Claim → List Statement → Bindings → Term → Value → Bool
follows program claims cited env t v =
    (none_cited cited && is_bottom v) || row_follows program claims cited env t v
