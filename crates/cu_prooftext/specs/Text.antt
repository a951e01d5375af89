-- The text of a proof and of the claims that it may use: a line for each claim and for each step.
-- Terms, patterns and values are written in prefix notation, a head before its parts; functions and
-- constructors by their numbers in the program, and all numbers in decimal.
use Rattle.std.specs.Prelude.{ℕ, ◌+◌, List, [], ◌∷◌, ◌++◌, codes, decimal, length}
use Rattle.std.specs.Fmt.{signed_decimal}
use Rattle.std.specs.List.{flat_map}
use Rattle.cu_calculus.specs.declared.Head.{Head}
use Rattle.cu_calculus.specs.declared.Head.TheVariants as head
use Rattle.cu_calculus.specs.declared.Lit.{Lit}
use Rattle.cu_calculus.specs.declared.Lit.TheVariants as lit
use Rattle.cu_calculus.specs.declared.Mode.{Mode}
use Rattle.cu_calculus.specs.declared.Mode.TheVariants as mode
use Rattle.cu_calculus.specs.Gives.{Claim}
use Rattle.cu_calculus.specs.Proof.{Statement, Step}
use Rattle.cu_calculus.specs.Term as term
use Rattle.cu_calculus.specs.Term.{Alternatives, Pattern, Patterns, Term, Terms}
use Rattle.cu_calculus.specs.Value as value
use Rattle.cu_calculus.specs.Valid.{pattern_count, term_count}
use Rattle.cu_calculus.specs.Value.{Value, Values, count, list_of}

-- ---- lists

-- a further item of a list, after a comma
abbrev pub further_text : {A : Type 0} → (A → List ℕ) → A → List ℕ
further_text text a = codes "," ++ text a

-- the items of a list, separated by commas, and `-` where there are none
abbrev pub list_text : {A : Type 0} → (A → List ℕ) → List A → List ℕ
list_text text [] = codes "-"
list_text text (a ∷ more) = text a ++ flat_map (further_text text) more

-- ---- literals and heads

-- a literal: `i` before an integer, and `h` before the number of a character
abbrev pub literal_text : Lit → List ℕ
literal_text (lit.Int n) = codes "i" ++ signed_decimal n
literal_text (lit.Char c) = codes "h" ++ decimal c

-- a head: `f` before a function's number, `c` before a constructor's, and `s` before that of the
-- function of a set function
abbrev pub head_text : Head → List ℕ
head_text (head.Fun f) = codes "f" ++ decimal f.0
head_text (head.Con c) = codes "c" ++ decimal c.0
head_text (head.Set f) = codes "s" ++ decimal f.0

-- how many parts follow
abbrev pub count_text : ℕ → List ℕ
count_text n = codes "/" ++ decimal n

-- ---- values

abbrev mutual
  -- a value: `_` for Bottom, `v` for a variable, `k` for a constructor, `p` for a partial
  -- application
  pub value_text : Value → List ℕ
  value_text value.Bottom = codes "_"
  value_text (value.Variable x) = codes "v" ++ decimal x
  value_text (value.Literal l) = literal_text l
  value_text (value.Constructed c vs) =
      codes "k" ++ (decimal c.0 ++ (count_text (count vs) ++ values_after vs))
  value_text (value.Partial h vs) =
      codes "p" ++ (head_text h ++ (count_text (count vs) ++ values_after vs))

  -- values, each after a space
  pub values_after : Values → List ℕ
  values_after value.NoValue = []
  values_after (value.MoreValues v vs) = codes " " ++ (value_text v ++ values_after vs)

-- ---- patterns

abbrev mutual
  -- a pattern: `x` for a variable, `k` for a constructor, `a` for a pattern with a name
  pub pattern_text : Pattern → List ℕ
  pattern_text (term.Any x) = codes "x" ++ decimal x
  pattern_text (term.Exactly l) = literal_text l
  pattern_text (term.Built c ps) =
      codes "k" ++ (decimal c.0 ++ (count_text (pattern_count ps) ++ patterns_after ps))
  pattern_text (term.Named x p) = codes "a" ++ (decimal x ++ (codes " " ++ pattern_text p))

  -- patterns, each after a space
  pub patterns_after : Patterns → List ℕ
  patterns_after term.NoPattern = []
  patterns_after (term.MorePatterns p ps) = codes " " ++ (pattern_text p ++ patterns_after ps)

-- ---- terms

-- how many alternatives there are
abbrev pub alternative_count : Alternatives → ℕ
alternative_count term.NoAlternative = 0
alternative_count (term.MoreAlternatives p t rows) = alternative_count rows + 1

-- a case distinction: `r` for one that waits for a free variable, `f` for one that binds it
abbrev pub mode_text : Mode → List ℕ
mode_text mode.Rigid = codes "r"
mode_text mode.Flex = codes "f"

abbrev mutual
  -- a term: `x` for a variable, `w` for a head with all its arguments, `q` for one with fewer, `@`
  -- for an application, `l` for a Let, `n` for a free variable, `o` for a choice
  pub term_text : Term → List ℕ
  term_text (term.Variable x) = codes "x" ++ decimal x
  term_text (term.Literal l) = literal_text l
  term_text (term.Whole h ts) =
      codes "w" ++ (head_text h ++ (count_text (term_count ts) ++ terms_after ts))
  term_text (term.Part h ts) =
      codes "q" ++ (head_text h ++ (count_text (term_count ts) ++ terms_after ts))
  term_text (term.Apply f a) = codes "@ " ++ (term_text f ++ (codes " " ++ term_text a))
  term_text (term.Let x a b) =
      codes "l" ++ (decimal x ++ (codes " " ++ (term_text a ++ (codes " " ++ term_text b))))
  term_text (term.Free x t) = codes "n" ++ (decimal x ++ (codes " " ++ term_text t))
  term_text (term.Or a b) = codes "o " ++ (term_text a ++ (codes " " ++ term_text b))
  term_text (term.Case m a rows) =
      mode_text m
      ++ (count_text (alternative_count rows)
      ++ (codes " " ++ (term_text a ++ alternatives_after rows)))

  -- terms, each after a space
  pub terms_after : Terms → List ℕ
  terms_after term.NoTerm = []
  terms_after (term.MoreTerms t ts) = codes " " ++ (term_text t ++ terms_after ts)

  -- alternatives, a pattern and a term, each of them after a space
  pub alternatives_after : Alternatives → List ℕ
  alternatives_after term.NoAlternative = []
  alternatives_after (term.MoreAlternatives p t rows) =
      codes " " ++ (pattern_text p ++ (codes " " ++ (term_text t ++ alternatives_after rows)))

-- ---- steps and claims

-- a variable and its value: `NUMBER=VALUE`
abbrev pub binding_text : ℕ × Value → List ℕ
binding_text b = decimal b.0 ++ (codes "=" ++ value_text b.1)

-- a statement: `ENVIRONMENT : TERM => VALUE`
abbrev pub statement_text : Statement → List ℕ
statement_text s =
    list_text binding_text s.env
    ++ (codes " : " ++ (term_text s.term ++ (codes " => " ++ value_text s.value)))

-- the line of a step: the numbers of the steps that it cites, and its statement
abbrev pub step_text : Step → List ℕ
step_text step =
    list_text decimal step.cites ++ (codes " : " ++ (statement_text step.statement ++ codes "\n"))

-- the call that a claim is about: `fNUMBER : ARGUMENTS`
abbrev pub claimed_text : Claim → List ℕ
claimed_text claim =
    codes "f"
    ++ (decimal claim.function.0
    ++ (codes " : " ++ list_text value_text (list_of claim.arguments)))

-- the line of a claim: `fNUMBER : ARGUMENTS : VALUES`
abbrev pub claim_text : Claim → List ℕ
claim_text claim =
    claimed_text claim ++ (codes " : " ++ (list_text value_text claim.values ++ codes "\n"))

-- ---- all

-- a line that says how many lines of a kind follow
abbrev pub heading_text : List ℕ → ℕ → List ℕ
heading_text title n = title ++ (codes " " ++ (decimal n ++ codes "\n"))

-- the text of a proof and of its claims: the claims, and then the steps, which are numbered from 0
abbrev pub proof_text : List Claim → List Step → List ℕ
proof_text claims steps =
    heading_text (codes "claims") (length claims)
    ++ (flat_map claim_text claims
    ++ (heading_text (codes "steps") (length steps) ++ flat_map step_text steps))
