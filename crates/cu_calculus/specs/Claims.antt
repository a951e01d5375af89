-- Set levels of functions, true claims, and derivations over them: which values a set function has
-- (Antoy and Hanus, Set functions for functional logic programming, 2009). Levels are a
-- stratification of the program by its set calls.
use Rattle.std.specs.Prelude.{◌≡◌, ℕ, ◌+◌, ◌<◌, ◌≤◌, zero, suc, List, [], ◌∷◌, ◌++◌, ◌⊎◌, Option, IsTrue, length, slice_get, slice_index, slice_index_or, flat_map}
use Rattle.cu_calculus.specs.declared.FunId.{FunId}
use Rattle.cu_calculus.specs.declared.Head.{Head}
use Rattle.cu_calculus.specs.declared.Head.TheVariants as head
use Rattle.cu_calculus.specs.Gives.{Claim, Gives}
use Rattle.cu_calculus.specs.Match.{Environment}
use Rattle.cu_calculus.specs.Order.{rises}
use Rattle.cu_calculus.specs.Program.{Body, External, Function, Program, Rules, arity_in}
use Rattle.cu_calculus.specs.Shape.{are_ground, are_of, is_ground, takes}
use Rattle.cu_calculus.specs.Term as term
use Rattle.cu_calculus.specs.Term.{Alternatives, Term, Terms}
use Rattle.cu_calculus.specs.Value as value
use Rattle.cu_calculus.specs.Value.{Value, Values, count, list_of}

-- a mention of a function in a term: by itself, or in a set call
pub data Mention : Type 0 where
  Plain : FunId → Mention
  Collected : FunId → Mention

-- what a head mentions
abbrev pub head_mentions : Head → List Mention
head_mentions (head.Fun f) = Plain f ∷ []
head_mentions (head.Con c) = []
head_mentions (head.Set f) = Collected f ∷ []

abbrev mutual
  -- all mentions in a term, from left to right
  pub mentions : Term → List Mention
  mentions (term.Variable x) = []
  mentions (term.Literal l) = []
  mentions (term.Whole h ts) = head_mentions h ++ all_mentions ts
  mentions (term.Part h ts) = head_mentions h ++ all_mentions ts
  mentions (term.Apply f a) = mentions f ++ mentions a
  mentions (term.Let x a b) = mentions a ++ mentions b
  mentions (term.Free x t) = mentions t
  mentions (term.Or a b) = mentions a ++ mentions b
  mentions (term.Case mode a alternatives) = mentions a ++ alternative_mentions alternatives

  -- all mentions in several terms, from left to right
  pub all_mentions : Terms → List Mention
  all_mentions term.NoTerm = []
  all_mentions (term.MoreTerms t ts) = mentions t ++ all_mentions ts

  -- all mentions in the terms of alternatives, from left to right
  pub alternative_mentions : Alternatives → List Mention
  alternative_mentions term.NoAlternative = []
  alternative_mentions (term.MoreAlternatives p t alternatives) =
      mentions t ++ alternative_mentions alternatives

-- all mentions in the right sides of a body's rules
abbrev pub body_mentions : Body → List Mention
body_mentions (Rules rules) = flat_map (λ rule. mentions rule.body) rules
body_mentions (External operation) = []

-- the level of a function, by a list that has one for each function of the program
abbrev pub level_of : List ℕ → FunId → ℕ
level_of levels f = slice_index levels f.0

-- A level allows a mention: it is at least that of a function that is mentioned by itself, and
-- above that of one in a set call.
abbrev pub Allows : List ℕ → ℕ → Mention → Type 0
Allows levels level (Plain f) = level_of levels f ≤ level
Allows levels level (Collected f) = level_of levels f < level

-- Each function's level allows what its rules mention.
pub record AreLevels (program : Program) (levels : List ℕ) : Type 0 where
  pub each : length levels ≡ length program.functions
  pub allowed : (k m : ℕ) (function : Function) (mention : Mention)
      → slice_get program.functions k ≡ Option.Some function
      → slice_get (body_mentions function.body) m ≡ Option.Some mention
      → Allows levels (slice_index levels k) mention

-- The least levels: no function has a lower one by other levels of the program.
pub record AreLeastLevels (program : Program) (levels : List ℕ) : Type 0 where
  pub are_levels : AreLevels program levels
  pub least : (others : List ℕ) (k : ℕ) → AreLevels program others
      → slice_index levels k ≤ slice_index others k

-- the environment of a call on values: its variables, counted from 0, stand for the arguments
abbrev pub arguments_env : Values → Environment
arguments_env vs x = slice_index_or (list_of vs) x value.Bottom

-- n variables, counted from x
abbrev pub variables_from : ℕ → ℕ → Terms
variables_from x zero = term.NoTerm
variables_from x (suc n) = term.MoreTerms (term.Variable x) (variables_from (x + 1) n)

-- A function of the program has a value on argument values of the program, as many as it takes.
abbrev pub Concludes : Program → List Claim → FunId → Values → Value → Type 0
Concludes program claims f vs v =
    IsTrue (takes (arity_in program (head.Fun f)) (count vs)) × IsTrue (are_of program vs)
    × Gives program claims (arguments_env vs)
    (term.Whole (head.Fun f) (variables_from 0 (count vs))) v

-- A claim lists exactly the ground values that its function has on its arguments over claims that
-- are true, in their order and without repeats.
pub record IsExact (program : Program) (are_true : List Claim → Type 0)
    (claim : Claim) : Type 0 where
  pub known : IsTrue (takes (arity_in program (head.Fun claim.function)) (count claim.arguments))
  pub of_program : IsTrue (are_of program claim.arguments)
  pub ground : IsTrue (are_ground claim.arguments)
  pub ordered : IsTrue (rises claim.values)
  pub each : (k : ℕ) (v : Value) → slice_get claim.values k ≡ Option.Some v
      → IsTrue (is_ground v) × (claims : List Claim) × are_true claims
      × Concludes program claims claim.function claim.arguments v
  pub every : (claims : List Claim) (v : Value) → are_true claims → IsTrue (is_ground v)
      → Concludes program claims claim.function claim.arguments v
      → (k : ℕ) × (slice_get claim.values k ≡ Option.Some v)

-- Claims are true below a level. Below 0 no claim is true. Below level + 1 a claim is true if its
-- function has this level and it is exact by the claims that are true below the level, or if it is
-- true below the level already.
unfoldable pub AreTrue : Program → List ℕ → ℕ → List Claim → Type 0
AreTrue program levels zero claims = claims ≡ []
AreTrue program levels (suc level) claims = (k : ℕ) (claim : Claim)
    → slice_get claims k ≡ Option.Some claim
    → ((level_of levels claim.function ≡ level)
    × IsExact program (AreTrue program levels level) claim)
    ⊎ AreTrue program levels level (claim ∷ [])

-- A function has a value on argument values, over claims that are true below the function's level.
abbrev pub DerivesAt : Program → List ℕ → FunId → Values → Value → Type 0
DerivesAt program levels f vs v =
    (claims : List Claim) × AreTrue program levels (level_of levels f) claims
    × Concludes program claims f vs v

-- A function has a value on argument values, over claims that are true by the least levels.
pub record Derives (program : Program) (f : FunId) (vs : Values) (v : Value) : Type 0 where
  pub levels : List ℕ
  pub least : AreLeastLevels program levels
  pub derives : DerivesAt program levels f vs v
