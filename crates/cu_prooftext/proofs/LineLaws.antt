-- What is said of the readers of steps, claims and proofs.
use Rattle.std.proofs.Common.{◌≡◌, ◌≢◌, ℕ, zero, suc, ◌+◌, ◌-◌, ◌<◌, ◌≤◌, ◌^◌, true, List, [], ◌∷◌, ◌++◌, Option, None, Some, Ok, Err, length, refl, ap, ap₂, sym, ◌∙◌, subst, append_assoc, arith, codes, decimal, nat_le, nat_lt, take, IsTrue}
use Rattle.std.proofs.lemmas.Bool.{and_from, and_parts}
use Rattle.std.proofs.lemmas.Bool.Decides.{nat_tests}
use Rattle.std.specs.List.{AllByRecursion, flat_map}
use Rattle.cu_calculus.specs.declared.Lit.{Lit}
use Rattle.cu_calculus.specs.declared.Lit.TheVariants as lit
use Rattle.cu_calculus.specs.Gives.{Claim}
use Rattle.cu_calculus.specs.Match.{Bindings}
use Rattle.cu_calculus.specs.Proof.{Statement, Step, are_rising}
use Rattle.cu_calculus.specs.Value as value
use Rattle.cu_calculus.specs.Value.{Value, Values, list_of, values_of}
use Rattle.cu_prooftext.specs.Faults.{IsFault, IsProofText, IsTextOf}
use Rattle.cu_prooftext.specs.Format.{AreNested, BindingInRange, ClaimInRange, FitsIn32, FitsIn64, StatementInRange, StepsAreOrdered, ValueInRange, ValuesInRange, max_nesting}
use Rattle.cu_prooftext.specs.Inside.Lines.{all_steps_at, always_more, binding_at, cites_at, claim_at, claim_with, claims_at, environment_at, heading_at, last_of, lines_at, lines_with, read_alone, may_rise, no_state, statement_at, statement_with, step_at, step_before, step_with, steps_at, values_at, variable_at}
use Rattle.cu_prooftext.specs.Inside.Ranges.{above, leads_above}
use Rattle.cu_prooftext.specs.Inside.Readers.{Reader, after, digits_at, made, many, pair, word}
use Rattle.cu_prooftext.specs.Inside.Reading.{at_most, between, from_one, index_at, term_at, up_to, value_at}
use Rattle.cu_prooftext.specs.Text.{binding_text, claim_text, list_text, literal_text, proof_text, statement_text, step_text, term_text, value_text}
use Rattle.cu_prooftext.proofs.CellTexts.{listed_again}
use Rattle.cu_prooftext.proofs.EitherLaws.{NotFirst}
use Rattle.cu_prooftext.proofs.ListLaws.{Follow, IsList, Items, list_end, list_reads}
use Rattle.cu_prooftext.proofs.LoopLaws.{ManyGood, many_reads}
use Rattle.cu_prooftext.proofs.NumberLaws as numbers
use Rattle.cu_prooftext.proofs.NumberLaws.{no_digit, number_reads}
use Rattle.cu_prooftext.proofs.RangeLaws.{above_range}
use Rattle.cu_prooftext.proofs.ReaderLaws.{AnyUnit, Ends, PairGood, Reads, Took, after_reads, always, ended_reads, ends_always, made_reads, pair_reads, pair_text, word_reads}
use Rattle.cu_prooftext.proofs.TermLaws.{TermGood, term_reads}
use Rattle.cu_prooftext.proofs.ValueLaws.{decimal_first, index_reads, no_minus, same_reads, small_reads}
use Rattle.cu_prooftext.proofs.CellLaws.{value_reads}
use Rattle.cu_prooftext.proofs.WholeLaws.{HasText, fault_is, read_again, read_has}

-- ---- lists in one state

abbrev pub OneState : {A : Type 0} → (A → Type 0) → Unit {0} → A → Type 0
OneState G u x = G x

follow_all : {A : Type 0} (G : A → Type 0) (u : Unit {0}) (xs : List A) → Follow no_state (OneState G) u xs → AllByRecursion G xs
follow_all G u [] f = tt
follow_all G u (x ∷ xs) f = (f.0, follow_all G (no_state u x) xs f.1)

all_follow : {A : Type 0} (G : A → Type 0) (u : Unit {0}) (xs : List A) → AllByRecursion G xs → Follow no_state (OneState G) u xs
all_follow G u [] f = tt
all_follow G u (x ∷ xs) f = (f.0, all_follow G (no_state u x) xs f.1)

list_all : {A : Type 0} (G : A → Type 0) (xs : List A) → IsList no_state (OneState G) tt xs → AllByRecursion G xs
list_all G [] f = tt
list_all G (x ∷ xs) f = (f.0, follow_all G (no_state tt x) xs f.1)

all_list : {A : Type 0} (G : A → Type 0) (xs : List A) → AllByRecursion G xs → IsList no_state (OneState G) tt xs
all_list G [] f = tt
all_list G (x ∷ xs) f = (f.0, all_follow G (no_state tt x) xs f.1)

-- ---- cites

no_digit_first : (n : ℕ) (rest : List ℕ) → n < 10 ^ 64 → NotFirst 45 (decimal n ++ rest)
no_digit_first n rest h = no_minus (decimal n ++ rest) (decimal_first n h rest)

pub cited_items : (last : ℕ) → last < 10 ^ 64 → Items always_more (λ u. up_to last) no_state decimal (OneState (λ k. k < suc last))
cited_items last small = record {
  reads = λ u h.
      same_reads no_digit (up_to last) decimal decimal (λ n. at_most last n ≡ true) (λ k. k < suc last)
      (number_reads (at_most last) (at_most last) (numbers.up_to last small)) (λ n h. (grind (arith, nat_tests), refl)) (λ n h. grind (arith, nat_tests));
  allowed = λ u x g. refl;
  apart = λ u n rest g. no_digit_first n rest (omega arith);
}

none_cited_onto : (xs : List ℕ) → AllByRecursion (λ k. k < 0) xs → (u : Unit {0}) × AnyUnit u × ([] ≡ xs)
none_cited_onto [] g = (tt, tt, refl)
none_cited_onto (x ∷ xs) g = let never : ⊥ = omega (arith, g.0) in absurd never

-- the reader of the steps that a step cites
cites_reads : (number : ℕ) → FitsIn64 number → Reads list_end (cites_at number) (list_text decimal) (AllByRecursion (λ k. k < number))
cites_reads zero h =
    let none : List ℕ = [] in
    made_reads list_end (λ (u : Unit {0}). none) (word (codes "-")) (λ u. codes "-") (list_text decimal) AnyUnit (AllByRecursion (λ k. k < 0)) (word_reads list_end (codes "-"))
    none_cited_onto (λ u g. (tt, refl))
cites_reads (suc last) h =
    same_reads list_end (cites_at (suc last)) (list_text decimal) (list_text decimal) (IsList no_state (OneState (λ k. k < suc last)) tt) (AllByRecursion (λ k. k < suc last))
    (list_reads always_more (λ u. up_to last) no_state decimal (OneState (λ k. k < suc last)) (cited_items last (omega arith)) tt refl)
    (λ xs g. (all_list (λ k. k < suc last) xs g, refl)) (λ xs g. list_all (λ k. k < suc last) xs g)

-- ---- values

literal_first : (l : Lit) (rest : List ℕ) → NotFirst 45 (literal_text l ++ rest)
literal_first (lit.Int n) rest = refl
literal_first (lit.Char c) rest = refl

value_first : (v : Value) (rest : List ℕ) → NotFirst 45 (value_text v ++ rest)
value_first value.Bottom rest = refl
value_first (value.Variable x) rest = refl
value_first (value.Literal l) rest = literal_first l rest
value_first (value.Constructed c vs) rest = refl
value_first (value.Partial h vs) rest = refl

pub value_items : Items always_more (λ u. value_at) no_state value_text (OneState ValueInRange)
value_items = record {
  reads = λ u h. value_reads;
  allowed = λ u x g. refl;
  apart = λ u v rest g. value_first v rest;
}

values_reads : Reads list_end values_at (list_text value_text) (AllByRecursion ValueInRange)
values_reads =
    same_reads list_end values_at (list_text value_text) (list_text value_text) (IsList no_state (OneState ValueInRange) tt) (AllByRecursion ValueInRange)
    (list_reads always_more (λ u. value_at) no_state value_text (OneState ValueInRange) value_items tt refl)
    (λ xs g. (all_list ValueInRange xs g, refl)) (λ xs g. list_all ValueInRange xs g)

-- ---- environments

abbrev pub Rises : Option ℕ → ℕ × Value → Type 0
Rises None b = BindingInRange b
Rises (Some x) b = (x < b.0) × BindingInRange b

abbrev VariableFits : Option ℕ → ℕ → Type 0
VariableFits None x = FitsIn32 x
VariableFits (Some y) x = (y < x) × FitsIn32 x

variable_reads : (last : Option ℕ) → may_rise last ≡ true → Reads no_digit (variable_at last) decimal (VariableFits last)
variable_reads None h = small_reads
variable_reads (Some y) h =
    same_reads no_digit (digits_at (leads_above y) (above y) None) decimal decimal (λ n. above y n ≡ true) (VariableFits (Some y))
    (number_reads (leads_above y) (above y) (above_range y (grind (arith, nat_tests))))
    (λ n g. (and_from (nat_lt y n) (nat_le n 4294967295) (grind (arith, nat_tests, g.0)) (grind (arith, nat_tests, g.1)), refl))
    (λ n g. let parts = and_parts (nat_lt y n) (nat_le n 4294967295) g in (grind (arith, nat_tests), grind (arith, nat_tests)))

equals_after : (rest : List ℕ) → Ends no_digit (codes "=" ++ rest)
equals_after rest = refl

rises_as : (last : Option ℕ) (b : ℕ × Value) → Rises last b → PairGood (VariableFits last) (λ x. ValueInRange) b
rises_as None b g = (g.0, g.1)
rises_as (Some x) b g = ((g.0, g.1.0), g.1.1)

rises_back : (last : Option ℕ) (b : ℕ × Value) → PairGood (VariableFits last) (λ x. ValueInRange) b → Rises last b
rises_back None b g = (g.0, g.1)
rises_back (Some x) b g = (g.0.0, (g.0.1, g.1))

binding_reads : (last : Option ℕ) → may_rise last ≡ true → Reads no_digit (binding_at last) binding_text (Rises last)
binding_reads last h =
    same_reads no_digit (binding_at last) (pair_text decimal (λ x v. codes "=" ++ value_text v)) binding_text (PairGood (VariableFits last) (λ x. ValueInRange)) (Rises last)
    (pair_reads no_digit no_digit (variable_at last) (λ x. after (codes "=") value_at) decimal (λ x v. codes "=" ++ value_text v) (VariableFits last) (λ x. ValueInRange)
    (variable_reads last h) (λ x g. after_reads no_digit (codes "=") value_at value_text ValueInRange value_reads) (λ x v rest g i e. refl))
    (λ b g. (rises_as last b g, refl)) (λ b g. rises_back last b g)

rises_allowed : (last : Option ℕ) (b : ℕ × Value) → Rises last b → may_rise last ≡ true
rises_allowed None b g = refl
rises_allowed (Some x) b g = let up : x < b.0 = g.0 in let small : b.0 < 2 ^ 32 = g.1.0 in grind (arith, nat_tests)

small_of : (last : Option ℕ) (b : ℕ × Value) → Rises last b → b.0 < 2 ^ 32
small_of None b g = g.0
small_of (Some x) b g = g.1.0

pub binding_items : Items may_rise binding_at last_of binding_text Rises
binding_items = record {
  reads = binding_reads;
  allowed = rises_allowed;
  apart = λ last b rest g.
      let small : b.0 < 2 ^ 32 = small_of last b g in
      subst (NotFirst 45) (sym (append_assoc (decimal b.0) (codes "=" ++ value_text b.1) rest)) (no_digit_first b.0 ((codes "=" ++ value_text b.1) ++ rest) (omega arith));
}

abbrev EnvGood : Bindings → Type 0
EnvGood env = IsTrue (are_rising env) × AllByRecursion BindingInRange env

follow_rises : (b : ℕ × Value) (bs : Bindings) → Follow last_of Rises (Some b.0) bs → IsTrue (are_rising (b ∷ bs)) × AllByRecursion BindingInRange bs
follow_rises b [] f = (refl, tt)
follow_rises b (c ∷ bs) f =
    let more = follow_rises c bs f.1 in
    let up : b.0 < c.0 = f.0.0 in
    (and_from (nat_lt b.0 c.0) (are_rising (c ∷ bs)) (grind (arith, nat_tests)) more.0, (f.0.1, more.1))

rises_follow : (b : ℕ × Value) (bs : Bindings) → IsTrue (are_rising (b ∷ bs)) → AllByRecursion BindingInRange bs → Follow last_of Rises (Some b.0) bs
rises_follow b [] r g = tt
rises_follow b (c ∷ bs) r g =
    let parts = and_parts (nat_lt b.0 c.0) (are_rising (c ∷ bs)) r in
    let up : b.0 < c.0 = grind (arith, nat_tests) in
    ((up, g.0), rises_follow c bs parts.1 g.1)

env_list : (env : Bindings) → EnvGood env → IsList last_of Rises None env
env_list [] g = tt
env_list (b ∷ bs) g = (g.1.0, rises_follow b bs g.0 g.1.1)

list_env : (env : Bindings) → IsList last_of Rises None env → EnvGood env
list_env [] g = (refl, tt)
list_env (b ∷ bs) g = let more = follow_rises b bs g.1 in (more.0, (g.0, more.1))

environment_reads : Reads list_end environment_at (list_text binding_text) EnvGood
environment_reads =
    same_reads list_end environment_at (list_text binding_text) (list_text binding_text) (IsList last_of Rises None) EnvGood
    (list_reads may_rise binding_at last_of binding_text Rises binding_items None refl)
    (λ env g. (env_list env g, refl)) (λ env g. list_env env g)

-- ---- statements and steps

abbrev StatementGood : Statement → Type 0
StatementGood s = EnvGood s.env × TermGood max_nesting s.term × ValueInRange s.value

statement_reads : Reads no_digit statement_at statement_text StatementGood
statement_reads =
    made_reads no_digit statement_with (pair environment_at (λ e. pair (after (codes " : ") (term_at 16384)) (λ t. after (codes " => ") value_at)))
    (pair_text (list_text binding_text) (λ e. pair_text (λ t. codes " : " ++ term_text t) (λ t v. codes " => " ++ value_text v))) statement_text
    (PairGood EnvGood (λ e. PairGood (TermGood max_nesting) (λ t. ValueInRange))) StatementGood
    (pair_reads list_end no_digit environment_at (λ e. pair (after (codes " : ") (term_at 16384)) (λ t. after (codes " => ") value_at)) (list_text binding_text)
    (λ e. pair_text (λ t. codes " : " ++ term_text t) (λ t v. codes " => " ++ value_text v)) EnvGood (λ e. PairGood (TermGood max_nesting) (λ t. ValueInRange)) environment_reads
    (λ e g.
    pair_reads no_digit no_digit (after (codes " : ") (term_at 16384)) (λ t. after (codes " => ") value_at) (λ t. codes " : " ++ term_text t) (λ t v. codes " => " ++ value_text v)
    (TermGood max_nesting) (λ t. ValueInRange)
    (after_reads no_digit (codes " : ") (term_at 16384) term_text (TermGood max_nesting) (term_reads 16383))
    (λ t h. after_reads no_digit (codes " => ") value_at value_text ValueInRange value_reads) (λ t v rest g h i. refl))
    (λ e p rest g h i. refl))
    (λ s g. ((s.env, (s.term, s.value)), (g.0, (g.1, g.2)), refl))
    (λ p g. ((g.0, g.1.0, g.1.1), refl))

abbrev StepGood : ℕ → Step → Type 0
StepGood number step = AllByRecursion (λ k. k < number) step.cites × StatementGood step.statement

step_reads : (number : ℕ) → FitsIn64 number → Reads always (step_at number) step_text (StepGood number)
step_reads number small =
    same_reads always (step_at number) (λ s. (list_text decimal s.cites ++ (codes " : " ++ statement_text s.statement)) ++ codes "\n") step_text (StepGood number) (StepGood number)
    (ended_reads no_digit always (made step_with (pair (cites_at number) (λ c. after (codes " : ") statement_at))) (codes "\n")
    (λ s. list_text decimal s.cites ++ (codes " : " ++ statement_text s.statement)) (StepGood number)
    (made_reads no_digit step_with (pair (cites_at number) (λ c. after (codes " : ") statement_at)) (pair_text (list_text decimal) (λ c s. codes " : " ++ statement_text s))
    (λ s. list_text decimal s.cites ++ (codes " : " ++ statement_text s.statement)) (PairGood (AllByRecursion (λ k. k < number)) (λ c. StatementGood)) (StepGood number)
    (pair_reads list_end no_digit (cites_at number) (λ c. after (codes " : ") statement_at) (list_text decimal) (λ c s. codes " : " ++ statement_text s)
    (AllByRecursion (λ k. k < number)) (λ c. StatementGood) (cites_reads number small)
    (λ c g. after_reads no_digit (codes " : ") statement_at statement_text StatementGood statement_reads) (λ c s rest g h i. refl))
    (λ s g. ((s.cites, s.statement), g, refl)) (λ p g. (g, refl)))
    (λ rest. refl))
    (λ s g. (g, sym (append_assoc (list_text decimal s.cites) (codes " : " ++ statement_text s.statement) (codes "\n"))))
    (λ s g. g)

abbrev StepsGood : ℕ → ℕ → List Step → Type 0
StepsGood number zero [] = Unit {0}
StepsGood number zero (s ∷ ss) = ⊥
StepsGood number (suc n) [] = ⊥
StepsGood number (suc n) (s ∷ ss) = StepGood number s × StepsGood (number + 1) n ss

steps_onto : (number n : ℕ) (ss : List Step) → StepsGood number (suc n) ss → (p : Step × List Step) × PairGood (StepGood number) (λ s. StepsGood (number + 1) n) p × (step_before p ≡ ss)
steps_onto number n [] g = absurd g
steps_onto number n (s ∷ ss) g = ((s, ss), g, refl)

no_steps_again : (number : ℕ) (ss : List Step) (rest : List ℕ) → StepsGood number 0 ss → steps_at number 0 (flat_map step_text ss ++ rest) ≡ Ok (ss, rest)
no_steps_again number [] rest g = refl
no_steps_again number (s ∷ ss) rest g = absurd g

no_steps_takes : (number : ℕ) (bytes : List ℕ) (ss : List Step) (rest : List ℕ) → steps_at number 0 bytes ≡ Ok (ss, rest) → Took (steps_at number 0) (flat_map step_text) (StepsGood number 0) bytes ss rest
no_steps_takes number bytes ss rest e =
    let none : List Step = [] in
    let same : (none, bytes) ≡ (ss, rest) = cc e in
    let took : Took (steps_at number 0) (flat_map step_text) (StepsGood number 0) bytes none bytes = record { splits = refl; good = tt; alike = λ b bs others i. refl } in
    subst (λ (z : List Step × List ℕ). Took (steps_at number 0) (flat_map step_text) (StepsGood number 0) bytes z.0 z.1) same took

steps_reads : (n number : ℕ) → number + n < 2 ^ 64 + 1 → Reads always (steps_at number n) (flat_map step_text) (StepsGood number n)
steps_reads zero number small = record {
  again = λ ss rest g e. no_steps_again number ss rest g;
  takes = no_steps_takes number;
  stops = λ bytes n e. let never : ⊥ = cc e in absurd never;
  some = [];
  is_some = tt;
}
steps_reads (suc n) number small =
    made_reads always step_before (pair (step_at number) (λ s. steps_at (number + 1) n)) (pair_text step_text (λ s. flat_map step_text)) (flat_map step_text)
    (PairGood (StepGood number) (λ s. StepsGood (number + 1) n)) (StepsGood number (suc n))
    (pair_reads always always (step_at number) (λ s. steps_at (number + 1) n) step_text (λ s. flat_map step_text) (StepGood number) (λ s. StepsGood (number + 1) n)
    (step_reads number (omega arith)) (λ s g. steps_reads n (number + 1) (omega arith)) (λ s ss rest g h e. ends_always (flat_map step_text ss ++ rest)))
    (steps_onto number n) (λ p g. (g, refl))

-- ---- claims

abbrev ClaimParts : ℕ × (List Value × List Value) → Type 0
ClaimParts = PairGood FitsIn64 (λ f. PairGood (AllByRecursion ValueInRange) (λ vs. AllByRecursion ValueInRange))

abbrev claim_line : Claim → List ℕ
claim_line c = (codes "f" ++ decimal c.function.0) ++ ((codes " : " ++ list_text value_text (list_of c.arguments)) ++ (codes " : " ++ list_text value_text c.values))

list_in_range : (vs : List Value) → AllByRecursion ValueInRange vs → ValuesInRange (values_of vs)
list_in_range [] g = tt
list_in_range (v ∷ vs) g = (g.0, list_in_range vs g.1)

range_in_list : (vs : Values) → ValuesInRange vs → AllByRecursion ValueInRange (list_of vs)
range_in_list value.NoValue g = tt
range_in_list (value.MoreValues v vs) g = (g.0, range_in_list vs g.1)

values_again : (vs : Values) → values_of (list_of vs) ≡ vs
values_again value.NoValue = refl
values_again (value.MoreValues v vs) = ap (value.MoreValues v) (values_again vs)

claim_onto : (c : Claim) → ClaimInRange c → (p : ℕ × (List Value × List Value)) × ClaimParts p × (claim_with p ≡ c)
claim_onto c g = (
  (c.function.0, (list_of c.arguments, c.values)),
  (g.function, (range_in_list c.arguments g.arguments, g.values)),
  ap (λ (vs : Values). let d : Claim = record { function = c.function; arguments = vs; values = c.values } in d) (values_again c.arguments),
)

claim_into : (p : ℕ × (List Value × List Value)) → ClaimParts p
    → ClaimInRange (claim_with p)
    × (claim_line (claim_with p) ≡ pair_text (λ f. codes "f" ++ decimal f) (λ f. pair_text (λ vs. codes " : " ++ list_text value_text vs) (λ vs us. codes " : " ++ list_text value_text us)) p)
claim_into p g = (
  record { function = g.0; arguments = list_in_range p.1.0 g.1.0; values = g.1.1 },
  ap (λ (vs : List Value). (codes "f" ++ decimal p.0) ++ ((codes " : " ++ list_text value_text vs) ++ (codes " : " ++ list_text value_text p.1.1))) (listed_again p.1.0),
)

regrouped : (f d s a v l : List ℕ) → (f ++ (d ++ (s ++ a))) ++ (s ++ (v ++ l)) ≡ ((f ++ d) ++ ((s ++ a) ++ (s ++ v))) ++ l
regrouped f d s a v l = simp append_assoc

claim_lines : (c : Claim) → claim_text c ≡ claim_line c ++ codes "\n"
claim_lines c =
    regrouped (codes "f") (decimal c.function.0) (codes " : ") (list_text value_text (list_of c.arguments)) (list_text value_text c.values) (codes "\n")

colon_ends : (rest : List ℕ) → Ends list_end (codes " : " ++ rest)
colon_ends rest = refl

claim_reads : Reads always claim_at claim_text ClaimInRange
claim_reads =
    same_reads always claim_at (λ c. claim_line c ++ codes "\n") claim_text ClaimInRange ClaimInRange
    (ended_reads list_end always (made claim_with (pair (after (codes "f") index_at) (λ f. pair (after (codes " : ") values_at) (λ vs. after (codes " : ") values_at)))) (codes "\n") claim_line ClaimInRange
    (made_reads list_end claim_with (pair (after (codes "f") index_at) (λ f. pair (after (codes " : ") values_at) (λ vs. after (codes " : ") values_at)))
    (pair_text (λ f. codes "f" ++ decimal f) (λ f. pair_text (λ vs. codes " : " ++ list_text value_text vs) (λ vs us. codes " : " ++ list_text value_text us))) claim_line ClaimParts ClaimInRange
    (pair_reads no_digit list_end (after (codes "f") index_at) (λ f. pair (after (codes " : ") values_at) (λ vs. after (codes " : ") values_at)) (λ f. codes "f" ++ decimal f)
    (λ f. pair_text (λ vs. codes " : " ++ list_text value_text vs) (λ vs us. codes " : " ++ list_text value_text us)) FitsIn64
    (λ f. PairGood (AllByRecursion ValueInRange) (λ vs. AllByRecursion ValueInRange))
    (after_reads no_digit (codes "f") index_at decimal FitsIn64 index_reads)
    (λ f g.
    pair_reads list_end list_end (after (codes " : ") values_at) (λ vs. after (codes " : ") values_at) (λ vs. codes " : " ++ list_text value_text vs) (λ vs us. codes " : " ++ list_text value_text us)
    (AllByRecursion ValueInRange) (λ vs. AllByRecursion ValueInRange)
    (after_reads list_end (codes " : ") values_at (list_text value_text) (AllByRecursion ValueInRange) values_reads)
    (λ vs h. after_reads list_end (codes " : ") values_at (list_text value_text) (AllByRecursion ValueInRange) values_reads)
    (λ vs us rest g h e. refl))
    (λ f p rest g h e. refl))
    claim_onto claim_into)
    (λ rest. refl))
    (λ c g. (g, claim_lines c)) (λ c g. g)

-- ---- whole texts

abbrev CountOf : ℕ → Type 0
CountOf n = (1 ≤ n) × FitsIn64 n

from_one_reads : Reads no_digit (from_one 18446744073709551615) decimal CountOf
from_one_reads =
    same_reads no_digit (from_one 18446744073709551615) decimal decimal (λ n. between 18446744073709551615 n ≡ true) CountOf
    (number_reads (between 18446744073709551615) (between 18446744073709551615) (numbers.from_one 18446744073709551615 (omega arith) (omega arith)))
    (λ n g. (and_from (nat_le 1 n) (nat_le n 18446744073709551615) (grind (arith, nat_tests, g.0)) (grind (arith, nat_tests, g.1)), refl))
    (λ n g. let parts = and_parts (nat_le 1 n) (nat_le n 18446744073709551615) g in (grind (arith, nat_tests), grind (arith, nat_tests)))

heading_reads : (title : List ℕ) (r : Reader ℕ) (G : ℕ → Type 0) → Reads no_digit r decimal G → Reads always (heading_at title r) (λ n. (title ++ decimal n) ++ codes "\n") G
heading_reads title r G reads = ended_reads no_digit always (after title r) (codes "\n") (λ n. title ++ decimal n) G (after_reads no_digit title r decimal G reads) (λ rest. refl)

abbrev ClaimsGood : ℕ × List Claim → Type 0
ClaimsGood = PairGood FitsIn64 (ManyGood ClaimInRange)

abbrev claims_text : ℕ × List Claim → List ℕ
claims_text = pair_text (λ n. (codes "claims " ++ decimal n) ++ codes "\n") (λ n. flat_map claim_text)

claims_reads : Reads always claims_at claims_text ClaimsGood
claims_reads =
    pair_reads always always (heading_at (codes "claims ") index_at) (λ n. many claim_at n) (λ n. (codes "claims " ++ decimal n) ++ codes "\n") (λ n. flat_map claim_text) FitsIn64 (ManyGood ClaimInRange)
    (heading_reads (codes "claims ") index_at FitsIn64 index_reads)
    (λ n g. many_reads always claim_at claim_text ClaimInRange claim_reads (λ c rest h. ends_always (claim_text c ++ rest)) n)
    (λ n cs rest g h e. ends_always (flat_map claim_text cs ++ rest))

abbrev AllStepsGood : ℕ × List Step → Type 0
AllStepsGood = PairGood CountOf (λ n. StepsGood 0 n)

abbrev all_steps_text : ℕ × List Step → List ℕ
all_steps_text = pair_text (λ n. (codes "steps " ++ decimal n) ++ codes "\n") (λ n. flat_map step_text)

all_steps_reads : Reads always all_steps_at all_steps_text AllStepsGood
all_steps_reads =
    pair_reads always always (heading_at (codes "steps ") (from_one 18446744073709551615)) (λ n. steps_at 0 n) (λ n. (codes "steps " ++ decimal n) ++ codes "\n") (λ n. flat_map step_text) CountOf (λ n. StepsGood 0 n)
    (heading_reads (codes "steps ") (from_one 18446744073709551615) CountOf from_one_reads)
    (λ n g. steps_reads n 0 (let small : n < 2 ^ 64 = g.1 in omega arith))
    (λ n ss rest g h e. ends_always (flat_map step_text ss ++ rest))

-- ---- claims and steps

abbrev pub LinesGood : List Claim × List Step → Type 0
LinesGood q = FitsIn64 (length q.0) × AllByRecursion ClaimInRange q.0 × CountOf (length q.1) × StepsGood 0 (length q.1) q.1

abbrev pub lines_text : List Claim × List Step → List ℕ
lines_text q = proof_text q.0 q.1

steps_length : (number n : ℕ) (ss : List Step) → StepsGood number n ss → length ss ≡ n
steps_length number zero [] g = refl
steps_length number zero (s ∷ ss) g = absurd g
steps_length number (suc n) [] g = absurd g
steps_length number (suc n) (s ∷ ss) g = ap suc (steps_length (number + 1) n ss g.1)

lines_into : (p : (ℕ × List Claim) × (ℕ × List Step)) → PairGood ClaimsGood (λ c. AllStepsGood) p
    → LinesGood (lines_with p) × (lines_text (lines_with p) ≡ pair_text claims_text (λ c. all_steps_text) p)
lines_into p g =
    let claims : length p.0.1 ≡ p.0.0 = g.0.1.0 in
    let steps : length p.1.1 ≡ p.1.0 = steps_length 0 p.1.0 p.1.1 g.1.1 in (
      (subst FitsIn64 (sym claims) g.0.0, g.0.1.1, subst CountOf (sym steps) g.1.0, subst (λ (n : ℕ). StepsGood 0 n p.1.1) (sym steps) g.1.1),
      sym (append_assoc ((codes "claims " ++ decimal (length p.0.1)) ++ codes "\n") (flat_map claim_text p.0.1) (all_steps_text (length p.1.1, p.1.1)))
          ∙ ap₂ (λ (m n : ℕ). claims_text (m, p.0.1) ++ all_steps_text (n, p.1.1)) claims steps,
    )

-- the reader of whole texts, before their end
pub lines_reads : Reads always lines_at lines_text LinesGood
lines_reads =
    made_reads always lines_with (pair claims_at (λ c. all_steps_at)) (pair_text claims_text (λ c. all_steps_text)) lines_text (PairGood ClaimsGood (λ c. AllStepsGood)) LinesGood
    (pair_reads always always claims_at (λ c. all_steps_at) claims_text (λ c. all_steps_text) ClaimsGood (λ c. AllStepsGood) claims_reads (λ c g. all_steps_reads)
    (λ c s rest g h e. ends_always (all_steps_text s ++ rest)))
    (λ q g. (((length q.0, q.0), (length q.1, q.1)), ((g.0, (refl, g.1)), (g.2, g.3)), refl))
    lines_into

-- ---- what the format allows

steps_in_range : (number n : ℕ) (ss : List Step) → StepsGood number n ss → AllByRecursion (λ (s : Step). StatementInRange s.statement) ss
steps_in_range number zero [] g = tt
steps_in_range number zero (s ∷ ss) g = absurd g
steps_in_range number (suc n) [] g = absurd g
steps_in_range number (suc n) (s ∷ ss) g =
    (record { env = g.0.1.0.1; term = g.0.1.1.0; value = g.0.1.2 }, steps_in_range (number + 1) n ss g.1)

steps_ordered : (number n : ℕ) (ss : List Step) → StepsGood number n ss → StepsAreOrdered number ss
steps_ordered number zero [] g = tt
steps_ordered number zero (s ∷ ss) g = absurd g
steps_ordered number (suc n) [] g = absurd g
steps_ordered number (suc n) (s ∷ ss) g = (record { cites = g.0.0; rising = g.0.1.0.0 }, steps_ordered (number + 1) n ss g.1)

steps_nested : (number n : ℕ) (ss : List Step) → StepsGood number n ss → AreNested ss
steps_nested number zero [] g = tt
steps_nested number zero (s ∷ ss) g = absurd g
steps_nested number (suc n) [] g = absurd g
steps_nested number (suc n) (s ∷ ss) g = (g.0.1.1.1, steps_nested (number + 1) n ss g.1)

steps_good : (number : ℕ) (ss : List Step) → AllByRecursion (λ (s : Step). StatementInRange s.statement) ss → StepsAreOrdered number ss → AreNested ss → StepsGood number (length ss) ss
steps_good number [] r o n = tt
steps_good number (s ∷ ss) r o n =
    ((o.0.cites, ((o.0.rising, r.0.env), (r.0.term, n.0), r.0.value)), steps_good (number + 1) ss r.1 o.1 n.1)

begun_is : (ss : List Step) → 1 ≤ length ss → ss ≢ []
begun_is [] h = let never : ⊥ = omega arith in absurd never
begun_is (s ∷ ss) h = λ e. let never : ⊥ = cc e in never

begun_count : (ss : List Step) → ss ≢ [] → 1 ≤ length ss
begun_count [] h = absurd (h refl)
begun_count (s ∷ ss) h = omega arith

pub text_of_lines : (bytes : List ℕ) (q : List Claim × List Step) → LinesGood q → bytes ≡ lines_text q → IsTextOf q.0 q.1 bytes
text_of_lines bytes q g e = record {
  in_range = record { of_claims = g.1; of_steps = steps_in_range 0 (length q.1) q.1 g.3; claim_count = g.0; step_count = g.2.1 };
  ordered = record { begun = begun_is q.1 g.2.0; in_order = steps_ordered 0 (length q.1) q.1 g.3 };
  nested = steps_nested 0 (length q.1) q.1 g.3;
  text = e;
}

pub lines_of_text : (bytes : List ℕ) (claims : List Claim) (steps : List Step) → IsTextOf claims steps bytes → LinesGood (claims, steps)
lines_of_text bytes claims steps t = (
  t.in_range.claim_count,
  t.in_range.of_claims,
  (begun_count steps t.ordered.begun, t.in_range.step_count),
  steps_good 0 steps t.in_range.of_steps t.ordered.in_order t.nested,
)

-- ---- what is read, what is read again, and what a fault is

pub read_is : (bytes : List ℕ) (claims : List Claim) (steps : List Step) → read_alone lines_at bytes ≡ Ok (claims, steps) → IsTextOf claims steps bytes
read_is bytes claims steps e =
    let h = read_has lines_at lines_text LinesGood lines_reads bytes (claims, steps) e in text_of_lines bytes (claims, steps) h.0 h.1

pub text_is_read : (bytes : List ℕ) (claims : List Claim) (steps : List Step) → IsTextOf claims steps bytes → read_alone lines_at bytes ≡ Ok (claims, steps)
text_is_read bytes claims steps t = read_again lines_at lines_text LinesGood lines_reads bytes (claims, steps) (lines_of_text bytes claims steps t) t.text

proof_text_of : (bytes : List ℕ) → HasText lines_text LinesGood bytes → IsProofText bytes
proof_text_of bytes h = (h.0.0, h.0.1, text_of_lines bytes h.0 h.1 h.2)

has_text : (bytes : List ℕ) → IsProofText bytes → HasText lines_text LinesGood bytes
has_text bytes h = ((h.0, h.1), lines_of_text bytes h.0 h.1 h.2, h.2.text)

pub first_fault : (bytes : List ℕ) (n : ℕ) → read_alone lines_at bytes ≡ Err n → (n ≤ length bytes) × IsFault IsProofText bytes (length bytes - n)
first_fault bytes n e =
    let f = fault_is lines_at lines_text LinesGood lines_reads bytes n e in (
      f.0,
      record {
        within = f.1.within;
        begins = (f.1.begins.0, proof_text_of (take (length bytes - n) bytes ++ f.1.begins.0) f.1.begins.1);
        stops = λ less prefix. f.1.stops less (prefix.0, has_text (take (length bytes - n + 1) bytes ++ prefix.0) prefix.1);
        no_text = λ h. f.1.no_text (has_text bytes h);
      },
    )

-- a text is the text of one proof
pub one_proof : (bytes : List ℕ) (claims others : List Claim) (steps more : List Step) → IsTextOf claims steps bytes → IsTextOf others more bytes → (claims ≡ others) × (steps ≡ more)
one_proof bytes claims others steps more a b =
    let same = sym (text_is_read bytes claims steps a) ∙ text_is_read bytes others more b in
    let pairs : (claims, steps) ≡ (others, more) = cc same in
    (ap (λ (q : List Claim × List Step). q.0) pairs, ap (λ (q : List Claim × List Step). q.1) pairs)
