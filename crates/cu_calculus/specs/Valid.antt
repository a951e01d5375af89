-- Valid programs: numbers name something, calls are whole, patterns are linear, and every variable
-- is bound.
use Rattle.std.specs.Prelude.{◌≡◌, ◌≢◌, ℕ, ◌+◌, ◌-◌, ◌^◌, ◌<◌, Bool, true, not, ◌&&◌, ◌||◌, List, [], ◌∷◌, ◌++◌, Some, IsTrue, nat_eq, nat_lt}
use Rattle.std.specs.List.{list_all, list_any}
use Rattle.cu_calculus.specs.declared.builtin.Primitive.{Primitive}
use Rattle.cu_calculus.specs.declared.builtin.Primitive.TheVariants as prim
use Rattle.cu_calculus.specs.declared.builtin.Special.{Special}
use Rattle.cu_calculus.specs.Literal.{is_literal}
use Rattle.cu_calculus.specs.declared.ConId.{ConId}
use Rattle.cu_calculus.specs.declared.Head.TheVariants as head
use Rattle.cu_calculus.specs.declared.Mode.TheVariants.{Flex}
use Rattle.cu_calculus.specs.Program.{Body, External, Function, Program, Rule, Rules, arity_in, function_of}
use Rattle.cu_calculus.specs.Shape.{is_allowed, takes, takes_more}
use Rattle.cu_calculus.specs.Term as term
use Rattle.cu_calculus.specs.Term.{Alternatives, Pattern, Patterns, Term, Terms}

-- whether a list has this number
abbrev pub holds : ℕ → List ℕ → Bool
holds x xs = list_any (nat_eq x) xs

-- whether no variable stands twice
abbrev pub is_linear : List ℕ → Bool
is_linear [] = true
is_linear (x ∷ xs) = not (holds x xs) && is_linear xs

-- the variables that a pattern binds
abbrev mutual
  pub variables_of : Pattern → List ℕ
  variables_of (term.Any x) = x ∷ []
  variables_of (term.Exactly l) = []
  variables_of (term.Built c ps) = all_variables ps
  variables_of (term.Named x p) = x ∷ variables_of p

  -- the variables that several patterns bind
  pub all_variables : Patterns → List ℕ
  all_variables term.NoPattern = []
  all_variables (term.MorePatterns p ps) = variables_of p ++ all_variables ps

-- how many patterns there are
abbrev pub pattern_count : Patterns → ℕ
pattern_count term.NoPattern = 0
pattern_count (term.MorePatterns p ps) = pattern_count ps + 1

-- how many terms there are
abbrev pub term_count : Terms → ℕ
term_count term.NoTerm = 0
term_count (term.MoreTerms t ts) = term_count ts + 1

-- whether the constructors of a pattern are the program's and have all their arguments
abbrev mutual
  pub fits_pattern : Program → Pattern → Bool
  fits_pattern program (term.Any x) = true
  fits_pattern program (term.Exactly l) = is_literal l
  fits_pattern program (term.Built c ps) =
      takes (arity_in program (head.Con c)) (pattern_count ps) && fit_patterns program ps
  fits_pattern program (term.Named x p) = fits_pattern program p

  -- whether the constructors of several patterns are the program's and have all their arguments
  pub fit_patterns : Program → Patterns → Bool
  fit_patterns program term.NoPattern = true
  fit_patterns program (term.MorePatterns p ps) = fits_pattern program p && fit_patterns program ps

-- which variables may stand where x is bound beside those that may stand around
abbrev pub also : ℕ → (ℕ → Bool) → ℕ → Bool
also x may y = nat_eq x y || may y

-- which variables may stand where x may not: those that may stand around, but for x
abbrev pub but : ℕ → (ℕ → Bool) → ℕ → Bool
but x may y = not (nat_eq x y) && may y

-- which variables may stand where these are bound beside those that may stand around
abbrev pub also_all : List ℕ → (ℕ → Bool) → ℕ → Bool
also_all xs may y = holds y xs || may y

-- Whether a term is the program's and all its variables pass a test. A variable doesn't stand in
-- its own definition by Let.
abbrev mutual
  pub fits_term : Program → (ℕ → Bool) → Term → Bool
  fits_term program may (term.Variable x) = may x
  fits_term program may (term.Literal l) = is_literal l
  fits_term program may (term.Whole h ts) =
      is_allowed program h && takes (arity_in program h) (term_count ts) && fit_terms program may ts
  fits_term program may (term.Part h ts) =
      is_allowed program h && takes_more (arity_in program h) (term_count ts)
      && fit_terms program may ts
  fits_term program may (term.Apply f a) = fits_term program may f && fits_term program may a
  fits_term program may (term.Let x a b) =
      fits_term program (but x may) a && fits_term program (also x may) b
  fits_term program may (term.Free x t) = fits_term program (also x may) t
  fits_term program may (term.Or a b) = fits_term program may a && fits_term program may b
  fits_term program may (term.Case mode a alternatives) =
      fits_term program may a && fit_alternatives program may alternatives

  -- whether several terms are the program's and all their variables pass a test
  pub fit_terms : Program → (ℕ → Bool) → Terms → Bool
  fit_terms program may term.NoTerm = true
  fit_terms program may (term.MoreTerms t ts) = fits_term program may t && fit_terms program may ts

  -- whether alternatives are the program's, and their variables pass a test or are bound by their
  -- patterns
  pub fit_alternatives : Program → (ℕ → Bool) → Alternatives → Bool
  fit_alternatives program may term.NoAlternative = true
  fit_alternatives program may (term.MoreAlternatives p t alternatives) =
      fits_pattern program p && is_linear (variables_of p)
      && fits_term program (also_all (variables_of p) may) t
      && fit_alternatives program may alternatives

-- whether a rule has a pattern for each of so many parameters, and fits the program
abbrev pub fits_rule : Program → ℕ → Rule → Bool
fits_rule program arity rule =
    nat_eq (pattern_count rule.params) arity && fit_patterns program rule.params
    && is_linear (all_variables rule.params)
    && fits_term program (λ x. holds x (all_variables rule.params)) rule.body

-- how many arguments a built-in operation takes
abbrev pub external_arity : Primitive → ℕ
external_arity prim.Ord = 1
external_arity prim.Chr = 1
external_arity prim.Failed = 0
external_arity _ = 2

-- whether an arity is one that a graph can hold
abbrev pub is_arity : ℕ → Bool
is_arity n = nat_lt n (2 ^ 32 - 1)

-- whether a function's body has rules with so many parameters that fit the program, or is an
-- operation that takes so many arguments
abbrev pub fits_body : Program → ℕ → Body → Bool
fits_body program arity (Rules rules) = list_all (fits_rule program arity) rules
fits_body program arity (External operation) = nat_eq arity (external_arity operation)

-- whether a function has an arity that a graph can hold, and a body that fits it
abbrev pub fits_function : Program → Function → Bool
fits_function program function = is_arity function.arity
    && fits_body program function.arity function.body

-- The body of `&&`: its rules (True && x = x, False && _ = False), or its case distinction in a
-- flat program.
pub data IsConjunction (special : Special) : Body → Type 0 where
  by_rules : (body : Body) (x y : ℕ)
      → body ≡ Rules (record {
        params = term.MorePatterns (term.Built special.truth term.NoPattern)
            (term.MorePatterns (term.Any x) term.NoPattern);
        body = term.Variable x;
      }
      ∷ record {
        params = term.MorePatterns (term.Built special.falsity term.NoPattern)
            (term.MorePatterns (term.Any y) term.NoPattern);
        body = term.Whole (head.Con special.falsity) term.NoTerm;
      } ∷ [])
      → IsConjunction special body
  by_case : (body : Body) (x y : ℕ) → x ≢ y
      → body ≡ Rules (record {
        params = term.MorePatterns (term.Any x) (term.MorePatterns (term.Any y) term.NoPattern);
        body = term.Case Flex (term.Variable x)
            (term.MoreAlternatives (term.Built special.falsity term.NoPattern)
            (term.Whole (head.Con special.falsity) term.NoTerm)
            (term.MoreAlternatives (term.Built special.truth term.NoPattern)
            (term.Variable y) term.NoAlternative));
      } ∷ [])
      → IsConjunction special body

-- The built-in entities are there, with their arities, and False is declared before True.
pub record HasSpecial (program : Program) : Type 0 where
  pub falsity : arity_in program (head.Con program.special.falsity) ≡ Some 0
  pub truth : arity_in program (head.Con program.special.truth) ≡ Some 0
  pub ordered : program.special.falsity.0 < program.special.truth.0
  pub nil : arity_in program (head.Con program.special.nil) ≡ Some 0
  pub cons : arity_in program (head.Con program.special.cons) ≡ Some 2
  pub both : (function : Function) × (function_of program program.special.both ≡ Some function)
      × (function.arity ≡ 2)
      × IsConjunction program.special function.body
  pub values : (c : ConId) → program.special.values ≡ Some c
      → arity_in program (head.Con c) ≡ Some 1

-- The program is valid: its functions fit, constructors have arities that a graph can hold, and the
-- built-in entities are there.
pub record IsValid (program : Program) : Type 0 where
  pub constructors : IsTrue
      (list_all (λ constructor. is_arity constructor.arity) program.constructors)
  pub functions : IsTrue (list_all (fits_function program) program.functions)
  pub special : HasSpecial program
