-- Programs before lifting: what is right of each part alone, and what is right where all parts are
-- joined. Of a program for which both hold lifting makes a valid program.
use Rattle.std.specs.Prelude.{◌≡◌, ℕ, ◌+◌, Bool, true, false, ◌&&◌, List, [], ◌∷◌, ◌++◌, Option, None, Some, IsTrue, flat_map, length, map, nat_eq, nat_lt, option_map, slice_get, take, drop}
use Rattle.std.specs.List.{list_all}
use Rattle.cu_calculus.specs.Literal.{is_literal}
use Rattle.cu_calculus.specs.Program as calculus
use Rattle.cu_calculus.specs.Shape.{is_allowed, takes, takes_more}
use Rattle.cu_calculus.specs.Term as clean
use Rattle.cu_calculus.specs.Valid.{IsConjunction, all_variables, external_arity, holds, is_arity, is_linear, pattern_count, variables_of}
use Rattle.cu_calculus.specs.declared.ConId.{ConId}
use Rattle.cu_calculus.specs.declared.Head.TheVariants as plain
use Rattle.cu_calculus.specs.declared.builtin.Special.{Special}
use Rattle.cu_kernel.specs.Captures.{Captures, IsFree}
use Rattle.cu_kernel.specs.FirstTypes.{has_first_types}
use Rattle.cu_kernel.specs.Kernel.{Constructor, DataType, Goal, Mark, Synonym, constructors_from}
use Rattle.cu_kernel.specs.LocalKernel.{External, LocalBody, LocalFunction, LocalKernel, LocalRule, Rules, TopFunction}
use Rattle.cu_kernel.specs.LocalTerm as local
use Rattle.cu_kernel.specs.LocalTerm.{LocalAlternatives, LocalTerm, LocalTerms}
use Rattle.cu_kernel.specs.TypeExpr as type
use Rattle.cu_kernel.specs.TypeExpr.{TypeExpr, TypeExprs}
use Rattle.cu_kernel.specs.declared.local.LocalHead.{LocalHead}
use Rattle.cu_kernel.specs.declared.local.LocalHead.TheVariants as head
use Rattle.cu_kernel.specs.declared.type_term.TypeName.TheVariants as name
use Rattle.cu_kernel.specs.declared.type_term.TypeName.{TypeName}

-- ---- heads

-- which heads a term may have with n arguments as all of them and with n as fewer than they take,
-- and which constructors a pattern may have
pub record Heads : Type 0 where
  pub whole : LocalHead → ℕ → Bool
  pub part : LocalHead → ℕ → Bool
  pub built : ConId → ℕ → Bool

-- how many terms there are
abbrev pub term_count : LocalTerms → ℕ
term_count local.NoTerm = 0
term_count (local.MoreTerms t ts) = term_count ts + 1

abbrev mutual
  -- whether a pattern has only constructors and literals that it may have
  pub pattern_passes : Heads → clean.Pattern → Bool
  pattern_passes heads (clean.Any x) = true
  pattern_passes heads (clean.Exactly l) = is_literal l
  pattern_passes heads (clean.Built c ps) =
      heads.built c (pattern_count ps) && patterns_pass heads ps
  pattern_passes heads (clean.Named x p) = pattern_passes heads p

  -- whether several patterns have only constructors and literals that they may have
  pub patterns_pass : Heads → clean.Patterns → Bool
  patterns_pass heads clean.NoPattern = true
  patterns_pass heads (clean.MorePatterns p ps) = pattern_passes heads p && patterns_pass heads ps

abbrev mutual
  -- whether a term has only heads, constructors in patterns and literals that it may have
  pub term_passes : Heads → LocalTerm → Bool
  term_passes heads (local.Variable x) = true
  term_passes heads (local.Literal l) = is_literal l
  term_passes heads (local.Whole h ts) = heads.whole h (term_count ts) && terms_pass heads ts
  term_passes heads (local.Part h ts) = heads.part h (term_count ts) && terms_pass heads ts
  term_passes heads (local.Apply f a) = term_passes heads f && term_passes heads a
  term_passes heads (local.Let x a b) = term_passes heads a && term_passes heads b
  term_passes heads (local.Free x t) = term_passes heads t
  term_passes heads (local.Or a b) = term_passes heads a && term_passes heads b
  term_passes heads (local.Case mode a alternatives) =
      term_passes heads a && alternatives_pass heads alternatives

  -- whether several terms have only heads, constructors in patterns and literals that they may have
  pub terms_pass : Heads → LocalTerms → Bool
  terms_pass heads local.NoTerm = true
  terms_pass heads (local.MoreTerms t ts) = term_passes heads t && terms_pass heads ts

  -- whether alternatives have only heads, constructors in patterns and literals that they may have
  pub alternatives_pass : Heads → LocalAlternatives → Bool
  alternatives_pass heads local.NoAlternative = true
  alternatives_pass heads (local.MoreAlternatives p t alternatives) =
      pattern_passes heads p && term_passes heads t && alternatives_pass heads alternatives

-- whether a rule has only heads, constructors in patterns and literals that it may have
abbrev pub rule_passes : Heads → LocalRule → Bool
rule_passes heads rule = patterns_pass heads rule.params && term_passes heads rule.body

-- the rules of a top-level function
abbrev pub rules_of : LocalBody → List LocalRule
rules_of (Rules rules) = rules
rules_of (External operation) = []

-- the rules of a local function
abbrev pub local_rules : LocalFunction → List LocalRule
local_rules f = f.rules

-- the rules of a top-level function and those of its local functions
abbrev pub all_rules : TopFunction → List LocalRule
all_rules f = rules_of f.body ++ flat_map local_rules f.locals

-- ---- one part alone

-- how many parameters the local function of a number has, where there is one
abbrev pub local_arity : List LocalFunction → ℕ → Option ℕ
local_arity locals k = option_map (λ f. f.arity) (slice_get locals k)

-- whether a local function takes exactly n arguments of its own, beside the variables that it
-- captures; another head passes
abbrev pub takes_locally : List LocalFunction → LocalHead → ℕ → Bool
takes_locally locals (head.Local k) n = takes (local_arity locals k) n
takes_locally locals (head.Global h) n = true

-- whether a local function takes more than n arguments of its own, beside the variables that it
-- captures; another head passes
abbrev pub takes_more_locally : List LocalFunction → LocalHead → ℕ → Bool
takes_more_locally locals (head.Local k) n = takes_more (local_arity locals k) n
takes_more_locally locals (head.Global h) n = true

-- what is asked of the heads in one part alone: local functions take their arguments; other heads
-- may be any
abbrev pub local_heads : List LocalFunction → Heads
local_heads locals =
    record { whole = takes_locally locals; part = takes_more_locally locals; built = λ c n. true }

-- the variables that a term binds, in the order in which they stand
abbrev mutual
  pub binders : LocalTerm → List ℕ
  binders (local.Variable x) = []
  binders (local.Literal l) = []
  binders (local.Whole h ts) = binders_all ts
  binders (local.Part h ts) = binders_all ts
  binders (local.Apply f a) = binders f ++ binders a
  binders (local.Let x a b) = x ∷ (binders a ++ binders b)
  binders (local.Free x t) = x ∷ binders t
  binders (local.Or a b) = binders a ++ binders b
  binders (local.Case mode a alternatives) = binders a ++ alternative_binders alternatives

  -- the variables that several terms bind
  pub binders_all : LocalTerms → List ℕ
  binders_all local.NoTerm = []
  binders_all (local.MoreTerms t ts) = binders t ++ binders_all ts

  -- the variables that alternatives bind, those of their patterns among them
  pub alternative_binders : LocalAlternatives → List ℕ
  alternative_binders local.NoAlternative = []
  alternative_binders (local.MoreAlternatives p t alternatives) =
      variables_of p ++ (binders t ++ alternative_binders alternatives)

-- the variables that a rule binds
abbrev pub rule_binders : LocalRule → List ℕ
rule_binders rule = all_variables rule.params ++ binders rule.body

-- the variables that several rules bind
abbrev pub rules_binders : List LocalRule → List ℕ
rules_binders rules = flat_map rule_binders rules

-- the variables that a local function's rules bind
abbrev pub local_binders : LocalFunction → List ℕ
local_binders f = rules_binders f.rules

-- all variables that a top-level function binds, in its own rules and in those of its local
-- functions
abbrev pub all_binders : TopFunction → List ℕ
all_binders f = rules_binders (rules_of f.body) ++ flat_map local_binders f.locals

-- the variables that a top-level function binds outside of its local function k
abbrev pub outer_binders : TopFunction → ℕ → List ℕ
outer_binders f k =
    rules_binders (rules_of f.body)
    ++ (flat_map local_binders (take k f.locals)
    ++ flat_map local_binders (drop (k + 1) f.locals))

-- the definitions in a term, each a variable of a `Let` with the term that defines it
abbrev mutual
  pub lets : LocalTerm → List (ℕ × LocalTerm)
  lets (local.Variable x) = []
  lets (local.Literal l) = []
  lets (local.Whole h ts) = lets_of_all ts
  lets (local.Part h ts) = lets_of_all ts
  lets (local.Apply f a) = lets f ++ lets a
  lets (local.Let x a b) = (x, a) ∷ (lets a ++ lets b)
  lets (local.Free x t) = lets t
  lets (local.Or a b) = lets a ++ lets b
  lets (local.Case mode a alternatives) = lets a ++ lets_of_alternatives alternatives

  -- the definitions in several terms
  pub lets_of_all : LocalTerms → List (ℕ × LocalTerm)
  lets_of_all local.NoTerm = []
  lets_of_all (local.MoreTerms t ts) = lets t ++ lets_of_all ts

  -- the definitions in the terms of alternatives
  pub lets_of_alternatives : LocalAlternatives → List (ℕ × LocalTerm)
  lets_of_alternatives local.NoAlternative = []
  lets_of_alternatives (local.MoreAlternatives p t alternatives) =
      lets t ++ lets_of_alternatives alternatives

-- the definitions in the right side of a rule
abbrev pub rule_lets : LocalRule → List (ℕ × LocalTerm)
rule_lets rule = lets rule.body

-- whether a rule has a pattern for each parameter
abbrev pub has_arity : ℕ → LocalRule → Bool
has_arity arity rule = nat_eq (pattern_count rule.params) arity

-- whether a body has rules with so many parameters, or is an operation that takes so many arguments
abbrev pub fits_arity : ℕ → LocalBody → Bool
fits_arity arity (Rules rules) = list_all (has_arity arity) rules
fits_arity arity (External operation) = nat_eq arity (external_arity operation)

-- whether a local function has an arity that a graph can hold, and rules with so many parameters
abbrev pub fits_local : LocalFunction → Bool
fits_local f = is_arity f.arity && list_all (has_arity f.arity) f.rules

-- A top-level function and its local functions are well-scoped.
pub record IsScoped (f : TopFunction) : Type 0 where
  pub arity : IsTrue (is_arity f.arity && fits_arity f.arity f.body)
  pub locals : IsTrue (list_all fits_local f.locals)
  -- Local functions are called with as many arguments as they have parameters, captured variables
  -- apart, and literals are the language's.
  pub calls : IsTrue (list_all (rule_passes (local_heads f.locals)) (all_rules f))
  -- Each variable has one number, and so is bound once.
  pub once : IsTrue (is_linear (all_binders f))
  -- The rules of the function itself use no variable that they don't bind, by way of local
  -- functions neither.
  pub closed : (k v : ℕ) (rule : LocalRule) → slice_get (rules_of f.body) k ≡ Some rule
      → IsFree f.locals v rule.body
      → IsTrue (holds v (all_variables rule.params))
  -- What a local function captures is bound outside of it.
  pub captured : (k v : ℕ) → Captures f.locals k v → IsTrue (holds v (outer_binders f k))
  -- No variable is defined by itself, by way of local functions neither.
  pub lets : (k x : ℕ) (a : LocalTerm) → slice_get (flat_map rule_lets (all_rules f)) k
      ≡ Some (x, a) → IsFree f.locals x a → ⊥

-- whether all variables of a type are among the parameters of its declaration, which have the
-- numbers from 0
abbrev mutual
  pub has_parameters : ℕ → TypeExpr → Bool
  has_parameters count (type.Variable x) = nat_lt x count
  has_parameters count (type.Arrow a b) = has_parameters count a && has_parameters count b
  has_parameters count (type.Named n ts) = all_have_parameters count ts

  -- whether all variables of several types are among the parameters of their declaration
  pub all_have_parameters : ℕ → TypeExprs → Bool
  all_have_parameters count type.NoType = true
  all_have_parameters count (type.MoreTypes t ts) =
      has_parameters count t && all_have_parameters count ts

-- whether a constructor has an arity that a graph can hold, and the types of its arguments have
-- only parameters for variables
abbrev pub is_constructor : ℕ → Constructor → Bool
is_constructor count c = is_arity (length c.fields) && list_all (has_parameters count) c.fields

-- whether a data type and its constructors have only parameters for type variables
abbrev pub is_data_type : DataType → Bool
is_data_type t = list_all (is_constructor t.arity) t.constructors

-- whether the type that a synonym stands for has only parameters for variables
abbrev pub is_synonym : Synonym → Bool
is_synonym s = has_parameters s.arity s.body

-- whether a function's mark says that it captured nothing
abbrev pub captures_nothing : Mark → Bool
captures_nothing mark = nat_eq mark.captured 0

-- What is right of each part alone.
pub record IsPart (kernel : LocalKernel) : Type 0 where
  pub types : IsTrue (list_all is_data_type kernel.types)
  pub synonyms : IsTrue (list_all is_synonym kernel.synonyms)
  pub functions : (k : ℕ) (f : TopFunction) → slice_get kernel.functions k ≡ Some f → IsScoped f
  -- Each function has its mark.
  pub marks : length kernel.marks ≡ length kernel.functions
  pub uncaptured : IsTrue (list_all captures_nothing kernel.marks)

-- ---- all parts joined

-- a top-level function by its arity alone
abbrev pub without_rules : TopFunction → calculus.Function
without_rules f = record { arity = f.arity; body = calculus.Rules [] }

-- the program of the calculus by which the arities of heads are known: its functions have no rules
abbrev pub heads_program : LocalKernel → calculus.Program
heads_program kernel = record {
  functions = map without_rules kernel.functions;
  constructors = constructors_from 0 kernel.types;
  special = kernel.special;
}

-- whether a head may stand in the program and takes exactly n arguments; a local function passes
abbrev pub takes_globally : calculus.Program → LocalHead → ℕ → Bool
takes_globally program (head.Local k) n = true
takes_globally program (head.Global h) n =
    is_allowed program h && takes (calculus.arity_in program h) n

-- whether a head may stand in the program and takes more than n arguments; a local function passes
abbrev pub takes_more_globally : calculus.Program → LocalHead → ℕ → Bool
takes_more_globally program (head.Local k) n = true
takes_more_globally program (head.Global h) n =
    is_allowed program h && takes_more (calculus.arity_in program h) n

-- whether a constructor is the program's and takes exactly n arguments
abbrev pub builds : calculus.Program → ConId → ℕ → Bool
builds program c n = takes (calculus.arity_in program (plain.Con c)) n

-- what is asked of the heads where all parts are joined: heads of the program take their arguments
abbrev pub global_heads : calculus.Program → Heads
global_heads program =
    record {
      whole = takes_globally program;
      part = takes_more_globally program;
      built = builds program;
    }

-- whether a named type or synonym is one of the program's
abbrev pub is_type_name : LocalKernel → TypeName → Bool
is_type_name kernel (name.Data t) = nat_lt t.0 (length kernel.types)
is_type_name kernel (name.Synonym s) = nat_lt s.0 (length kernel.synonyms)

abbrev mutual
  -- whether a type names only types and synonyms of the program
  pub names_types : LocalKernel → TypeExpr → Bool
  names_types kernel (type.Variable x) = true
  names_types kernel (type.Arrow a b) = names_types kernel a && names_types kernel b
  names_types kernel (type.Named n ts) = is_type_name kernel n && all_name_types kernel ts

  -- whether several types name only types and synonyms of the program
  pub all_name_types : LocalKernel → TypeExprs → Bool
  all_name_types kernel type.NoType = true
  all_name_types kernel (type.MoreTypes t ts) = names_types kernel t && all_name_types kernel ts

-- whether the program has the module of a number
abbrev pub is_module : LocalKernel → ℕ → Bool
is_module kernel m = nat_lt m (length kernel.modules)

-- whether a declared type, if any, names only types and synonyms of the program
abbrev pub signature_names_types : LocalKernel → Option TypeExpr → Bool
signature_names_types kernel None = true
signature_names_types kernel (Some t) = names_types kernel t

-- whether the types of a constructor's arguments name only types and synonyms of the program
abbrev pub constructor_names_types : LocalKernel → Constructor → Bool
constructor_names_types kernel c = list_all (names_types kernel) c.fields

-- whether a data type is of a module of the program, and names only types and synonyms of it
abbrev pub type_is_placed : LocalKernel → DataType → Bool
type_is_placed kernel t = is_module kernel t.module
    && list_all (constructor_names_types kernel) t.constructors

-- whether a synonym is of a module of the program, and names only types and synonyms of it
abbrev pub synonym_is_placed : LocalKernel → Synonym → Bool
synonym_is_placed kernel s = is_module kernel s.module && names_types kernel s.body

-- whether a mark is of a module of the program, and names only types and synonyms of it
abbrev pub mark_is_placed : LocalKernel → Mark → Bool
mark_is_placed kernel m = is_module kernel m.module && signature_names_types kernel m.declared

-- whether the declared type of a local function, if any, names only types and synonyms of the
-- program
abbrev pub local_signature_fits : LocalKernel → LocalFunction → Bool
local_signature_fits kernel f = signature_names_types kernel f.declared

-- whether the heads of a function's rules are the program's and take their arguments, and the
-- declared types of its local functions name only types and synonyms of it
abbrev pub function_fits : LocalKernel → TopFunction → Bool
function_fits kernel f =
    list_all (rule_passes (global_heads (heads_program kernel))) (all_rules f)
    && list_all (local_signature_fits kernel) f.locals

-- whether a body is made of rules
abbrev pub has_rules : LocalBody → Bool
has_rules (Rules rules) = true
has_rules (External operation) = false

-- whether a goal's function is there, has rules, and has n parameters
abbrev pub takes_names : ℕ → Option TopFunction → Bool
takes_names count None = false
takes_names count (Some f) = nat_eq f.arity count && has_rules f.body

-- whether a goal's function, where there is a goal, is there with rules and a parameter for each
-- name
abbrev pub goal_fits : LocalKernel → Option Goal → Bool
goal_fits kernel None = true
goal_fits kernel (Some g) = takes_names (length g.names) (slice_get kernel.functions g.function.0)

-- a term of the calculus as a term before lifting, in which no head is a local function
abbrev mutual
  pub unlifted : clean.Term → LocalTerm
  unlifted (clean.Variable x) = local.Variable x
  unlifted (clean.Literal l) = local.Literal l
  unlifted (clean.Whole h ts) = local.Whole (head.Global h) (all_unlifted ts)
  unlifted (clean.Part h ts) = local.Part (head.Global h) (all_unlifted ts)
  unlifted (clean.Apply f a) = local.Apply (unlifted f) (unlifted a)
  unlifted (clean.Let x a b) = local.Let x (unlifted a) (unlifted b)
  unlifted (clean.Free x t) = local.Free x (unlifted t)
  unlifted (clean.Or a b) = local.Or (unlifted a) (unlifted b)
  unlifted (clean.Case mode a alternatives) =
      local.Case mode (unlifted a) (alternatives_unlifted alternatives)

  -- several terms of the calculus as terms before lifting
  pub all_unlifted : clean.Terms → LocalTerms
  all_unlifted clean.NoTerm = local.NoTerm
  all_unlifted (clean.MoreTerms t ts) = local.MoreTerms (unlifted t) (all_unlifted ts)

  -- alternatives of the calculus as alternatives before lifting
  pub alternatives_unlifted : clean.Alternatives → LocalAlternatives
  alternatives_unlifted clean.NoAlternative = local.NoAlternative
  alternatives_unlifted (clean.MoreAlternatives p t alternatives) =
      local.MoreAlternatives p (unlifted t) (alternatives_unlifted alternatives)

-- a rule of the calculus as one before lifting
abbrev pub rule_unlifted : calculus.Rule → LocalRule
rule_unlifted rule = record { params = rule.params; body = unlifted rule.body }

-- The function is `&&`: it has two parameters, and the two rules of `&&` or one rule with its case
-- distinction.
pub record IsBoth (special : Special) (f : TopFunction) : Type 0 where
  pub arity : f.arity ≡ 2
  pub rules : List calculus.Rule
  pub body : f.body ≡ Rules (map rule_unlifted rules)
  pub conjunction : IsConjunction special (calculus.Rules rules)

-- The built-in entities are there, with their arities, and False is declared before True.
pub record HasEntities (kernel : LocalKernel) : Type 0 where
  pub falsity : IsTrue (builds (heads_program kernel) kernel.special.falsity 0)
  pub truth : IsTrue (builds (heads_program kernel) kernel.special.truth 0)
  pub ordered : IsTrue (nat_lt kernel.special.falsity.0 kernel.special.truth.0)
  pub values : (c : ConId) → kernel.special.values ≡ Some c
      → IsTrue (builds (heads_program kernel) c 1)
  pub both : (f : TopFunction) × (slice_get kernel.functions kernel.special.both.0 ≡ Some f)
      × IsBoth kernel.special f

-- The numbers of the parts begin with 0.
pub record IsFirst (kernel : LocalKernel) : Type 0 where
  pub types : kernel.start.types ≡ 0
  pub constructors : kernel.start.constructors ≡ 0
  pub functions : kernel.start.functions ≡ 0
  pub synonyms : kernel.start.synonyms ≡ 0
  pub modules : kernel.start.modules ≡ 0

-- What is asked where all parts are joined: each entity that they use is there, and is used as what
-- it is.
pub record IsJoined (kernel : LocalKernel) : Type 0 where
  pub first : IsFirst kernel
  pub first_types : IsTrue (has_first_types kernel.special kernel.types)
  pub types : IsTrue (list_all (type_is_placed kernel) kernel.types)
  pub synonyms : IsTrue (list_all (synonym_is_placed kernel) kernel.synonyms)
  pub functions : IsTrue (list_all (function_fits kernel) kernel.functions)
  pub marks : IsTrue (list_all (mark_is_placed kernel) kernel.marks)
  pub goal : IsTrue (goal_fits kernel kernel.goal)
  pub entities : HasEntities kernel
