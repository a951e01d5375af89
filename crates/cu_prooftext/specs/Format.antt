-- What the format of texts allows of a proof and its claims: the ranges of their numbers, the order
-- of their steps and variables, and how deep their terms are nested.
use Rattle.std.specs.Prelude.{◌≢◌, ℕ, zero, suc, ◌+◌, ◌<◌, ◌^◌, List, [], ◌∷◌, IsTrue, length}
use Rattle.std.specs.List.{AllByRecursion}
use Rattle.cu_calculus.specs.declared.Head.{Head}
use Rattle.cu_calculus.specs.declared.Head.TheVariants as head
use Rattle.cu_calculus.specs.Gives.{Claim}
use Rattle.cu_calculus.specs.Literal.{is_literal}
use Rattle.cu_calculus.specs.Proof.{Statement, Step, are_rising}
use Rattle.cu_calculus.specs.Term as term
use Rattle.cu_calculus.specs.Term.{Alternatives, Pattern, Patterns, Term, Terms}
use Rattle.cu_calculus.specs.Valid.{pattern_count, term_count}
use Rattle.cu_calculus.specs.Value as value
use Rattle.cu_calculus.specs.Value.{Value, Values, count}
use Rattle.cu_prooftext.specs.Text.{alternative_count}

-- ---- numbers

-- a number that names no variable and doesn't count the arguments of a value
abbrev pub FitsIn64 : ℕ → Type 0
FitsIn64 n = n < 2 ^ 64

-- the number of a variable, or how many arguments follow in a value
abbrev pub FitsIn32 : ℕ → Type 0
FitsIn32 n = n < 2 ^ 32

abbrev pub HeadInRange : Head → Type 0
HeadInRange (head.Fun f) = FitsIn64 f.0
HeadInRange (head.Con c) = FitsIn64 c.0
HeadInRange (head.Set f) = FitsIn64 f.0

abbrev mutual
  -- the numbers and literals of a value are in their ranges
  pub ValueInRange : Value → Type 0
  ValueInRange value.Bottom = Unit {0}
  ValueInRange (value.Variable x) = FitsIn32 x
  ValueInRange (value.Literal l) = IsTrue (is_literal l)
  ValueInRange (value.Constructed c vs) = FitsIn64 c.0 × FitsIn32 (count vs) × ValuesInRange vs
  ValueInRange (value.Partial h vs) = HeadInRange h × FitsIn32 (count vs) × ValuesInRange vs

  pub ValuesInRange : Values → Type 0
  ValuesInRange value.NoValue = Unit {0}
  ValuesInRange (value.MoreValues v vs) = ValueInRange v × ValuesInRange vs

abbrev mutual
  -- the numbers and literals of a pattern are in their ranges
  pub PatternInRange : Pattern → Type 0
  PatternInRange (term.Any x) = FitsIn32 x
  PatternInRange (term.Exactly l) = IsTrue (is_literal l)
  PatternInRange (term.Built c ps) =
      FitsIn64 c.0 × FitsIn64 (pattern_count ps) × PatternsInRange ps
  PatternInRange (term.Named x p) = FitsIn32 x × PatternInRange p

  pub PatternsInRange : Patterns → Type 0
  PatternsInRange term.NoPattern = Unit {0}
  PatternsInRange (term.MorePatterns p ps) = PatternInRange p × PatternsInRange ps

abbrev mutual
  -- the numbers and literals of a term are in their ranges
  pub TermInRange : Term → Type 0
  TermInRange (term.Variable x) = FitsIn32 x
  TermInRange (term.Literal l) = IsTrue (is_literal l)
  TermInRange (term.Whole h ts) = HeadInRange h × FitsIn64 (term_count ts) × TermsInRange ts
  TermInRange (term.Part h ts) = HeadInRange h × FitsIn64 (term_count ts) × TermsInRange ts
  TermInRange (term.Apply f a) = TermInRange f × TermInRange a
  TermInRange (term.Let x a b) = FitsIn32 x × TermInRange a × TermInRange b
  TermInRange (term.Free x t) = FitsIn32 x × TermInRange t
  TermInRange (term.Or a b) = TermInRange a × TermInRange b
  TermInRange (term.Case mode a rows) =
      FitsIn64 (alternative_count rows) × TermInRange a × AlternativesInRange rows

  pub TermsInRange : Terms → Type 0
  TermsInRange term.NoTerm = Unit {0}
  TermsInRange (term.MoreTerms t ts) = TermInRange t × TermsInRange ts

  pub AlternativesInRange : Alternatives → Type 0
  AlternativesInRange term.NoAlternative = Unit {0}
  AlternativesInRange (term.MoreAlternatives p t rows) =
      PatternInRange p × TermInRange t × AlternativesInRange rows

abbrev pub BindingInRange : ℕ × Value → Type 0
BindingInRange b = FitsIn32 b.0 × ValueInRange b.1

pub record StatementInRange (s : Statement) : Type 0 where
  pub env : AllByRecursion BindingInRange s.env
  pub term : TermInRange s.term
  pub value : ValueInRange s.value

pub record ClaimInRange (claim : Claim) : Type 0 where
  pub function : FitsIn64 claim.function.0
  pub arguments : ValuesInRange claim.arguments
  pub values : AllByRecursion ValueInRange claim.values

-- The numbers and literals of a proof and its claims are in their ranges, and so are how many
-- claims and steps there are. The steps' own numbers are then too.
pub record ProofInRange (claims : List Claim) (steps : List Step) : Type 0 where
  pub of_claims : AllByRecursion ClaimInRange claims
  pub of_steps : AllByRecursion (λ step. StatementInRange step.statement) steps
  pub claim_count : FitsIn64 (length claims)
  pub step_count : FitsIn64 (length steps)

-- ---- order

-- The step of a number cites earlier ones, and the variables of its statement rise without repeats.
pub record StepIsOrdered (number : ℕ) (step : Step) : Type 0 where
  pub cites : AllByRecursion (λ k. k < number) step.cites
  pub rising : IsTrue (are_rising step.statement.env)

-- The first of the steps has this number. Each cites earlier ones, and variables rise.
abbrev pub StepsAreOrdered : ℕ → List Step → Type 0
StepsAreOrdered number [] = Unit {0}
StepsAreOrdered number (step ∷ steps) =
    StepIsOrdered number step × StepsAreOrdered (number + 1) steps

-- There is a step, each cites earlier ones, and the variables of each rise. Every proof that checks
-- is so.
pub record IsOrdered (steps : List Step) : Type 0 where
  pub begun : steps ≢ []
  pub in_order : StepsAreOrdered 0 steps

-- ---- nesting

-- how deep a term may be nested; a term or pattern in which none stands is nested 1 deep
abbrev pub max_nesting : ℕ
max_nesting = 16384

abbrev mutual
  -- a pattern is nested at most so deep
  pub PatternIsNested : ℕ → Pattern → Type 0
  PatternIsNested zero p = ⊥
  PatternIsNested (suc depth) (term.Any x) = Unit {0}
  PatternIsNested (suc depth) (term.Exactly l) = Unit {0}
  PatternIsNested (suc depth) (term.Built c ps) = PatternsAreNested depth ps
  PatternIsNested (suc depth) (term.Named x p) = PatternIsNested depth p

  pub PatternsAreNested : ℕ → Patterns → Type 0
  PatternsAreNested depth term.NoPattern = Unit {0}
  PatternsAreNested depth (term.MorePatterns p ps) =
      PatternIsNested depth p × PatternsAreNested depth ps

abbrev mutual
  -- A term is nested at most so deep. The patterns of a case distinction are nested in it, as its
  -- terms are.
  pub TermIsNested : ℕ → Term → Type 0
  TermIsNested zero t = ⊥
  TermIsNested (suc depth) (term.Variable x) = Unit {0}
  TermIsNested (suc depth) (term.Literal l) = Unit {0}
  TermIsNested (suc depth) (term.Whole h ts) = TermsAreNested depth ts
  TermIsNested (suc depth) (term.Part h ts) = TermsAreNested depth ts
  TermIsNested (suc depth) (term.Apply f a) = TermIsNested depth f × TermIsNested depth a
  TermIsNested (suc depth) (term.Let x a b) = TermIsNested depth a × TermIsNested depth b
  TermIsNested (suc depth) (term.Free x t) = TermIsNested depth t
  TermIsNested (suc depth) (term.Or a b) = TermIsNested depth a × TermIsNested depth b
  TermIsNested (suc depth) (term.Case mode a rows) =
      TermIsNested depth a × AlternativesAreNested depth rows

  pub TermsAreNested : ℕ → Terms → Type 0
  TermsAreNested depth term.NoTerm = Unit {0}
  TermsAreNested depth (term.MoreTerms t ts) = TermIsNested depth t × TermsAreNested depth ts

  pub AlternativesAreNested : ℕ → Alternatives → Type 0
  AlternativesAreNested depth term.NoAlternative = Unit {0}
  AlternativesAreNested depth (term.MoreAlternatives p t rows) =
      PatternIsNested depth p × TermIsNested depth t × AlternativesAreNested depth rows

-- No term of the steps is nested deeper than is allowed.
abbrev pub AreNested : List Step → Type 0
AreNested steps = AllByRecursion (λ step. TermIsNested max_nesting step.statement.term) steps
