-- The equations between types that the rules of a dependency group ask for (Damas and Milner,
-- "Principal type-schemes for functional programs", 1982; for groups with declared types Mycroft,
-- "Polymorphic type schemes and recursive definitions", 1984).
use Rattle.std.specs.Prelude.{ℕ, zero, suc, ◌+◌, List, [], ◌∷◌, ◌++◌, Option, None, Some, drop, if◌then◌else◌, length, nat_eq, option_map, slice_get, slice_index_or, take}
use Rattle.cu_calculus.specs.Program as calculus
use Rattle.cu_calculus.specs.Program.{Body, Rule}
use Rattle.cu_calculus.specs.Term as term
use Rattle.cu_calculus.specs.Term.{Alternatives, Pattern, Patterns, Term, Terms}
use Rattle.cu_calculus.specs.Valid.{all_variables, pattern_count, term_count, variables_of}
use Rattle.cu_calculus.specs.declared.ConId.{ConId}
use Rattle.cu_calculus.specs.declared.FunId.{FunId}
use Rattle.cu_calculus.specs.declared.Head.TheVariants as head
use Rattle.cu_calculus.specs.declared.Head.{Head}
use Rattle.cu_kernel.specs.Kernel.{Function, Kernel, Mark}
use Rattle.cu_kernel.specs.TypeExpr as type
use Rattle.cu_kernel.specs.TypeExpr.{TypeExpr, TypeExprs}
use Rattle.cu_types.specs.BuiltInTypes.{arrows, constructor_type, external_type, literal_type, values, variables_from}
use Rattle.cu_types.specs.Numbered.{numbered, variables_in}
use Rattle.cu_types.specs.Synonyms.{expanded}
use Rattle.cu_types.specs.Types.{apply}
use Rattle.cu_types.specs.Unification.{Equation}

-- ---- types of what has a name, and their instances

-- the greater of x + 1 and a bound
abbrev pub above : ℕ → ℕ → ℕ
above x zero = x + 1
above zero bound = bound
above (suc x) (suc bound) = above x bound + 1

-- the least number above all numbers of a list
abbrev pub above_all : List ℕ → ℕ
above_all [] = 0
above_all (x ∷ xs) = above x (above_all xs)

-- how many type variables an instance of a type takes
abbrev pub breadth : TypeExpr → ℕ
breadth t = above_all (variables_in t)

-- a type with its variables renamed, so that they are new from number `next` on
abbrev pub renamed : ℕ → TypeExpr → TypeExpr
renamed next t = apply (λ x. type.Variable (next + x)) t

pub data Scheme : Type 0 where
  -- a type that is the same at each use
  Monomorphic : TypeExpr → Scheme
  -- a type of which each use has an instance, after the types of captured variables, which are the
  -- same at each use
  Polymorphic : List TypeExpr → TypeExpr → Scheme

abbrev pub instance : ℕ → Scheme → TypeExpr
instance next (Monomorphic t) = t
instance next (Polymorphic fixed t) = arrows fixed (renamed next t)

abbrev pub scheme_breadth : Scheme → ℕ
scheme_breadth (Monomorphic t) = 0
scheme_breadth (Polymorphic fixed t) = breadth t

-- what is known of the heads that a term may have
pub record Assumptions : Type 0 where
  pub function : FunId → Scheme
  pub constructor : ConId → TypeExpr
  -- how many arguments a set function takes: as many as its function
  pub arity : FunId → ℕ
  -- the type of all values of a type, which set functions give
  pub values : TypeExpr → TypeExpr

-- ---- equations that are asked for, in order, and the next type variable

pub record Asked : Type 0 where
  pub next : ℕ
  pub equations : List Equation

-- so many more type variables are taken, those from the next one on
abbrev pub taking : ℕ → Asked → Asked
taking count asked = record { next = asked.next + count; equations = asked.equations }

-- one more equation is asked for: the two types shall be the same
abbrev pub asking : TypeExpr → TypeExpr → Asked → Asked
asking s t asked =
    record { next = asked.next; equations = asked.equations ++ record { left = s; right = t } ∷ [] }

-- ---- heads

-- The equation is asked for that an instance of the scheme is this type.
abbrev pub scheme_asks : Scheme → TypeExpr → Asked → Asked
scheme_asks scheme t asked =
    taking (scheme_breadth scheme) (asking (instance asked.next scheme) t asked)

-- The equation is asked for that the type of a set function is this one: it takes the arguments of
-- its function, and gives all values of what the function gives.
abbrev pub set_asks : Assumptions → FunId → TypeExpr → Asked → Asked
set_asks assumptions f t asked =
    let arguments = variables_from asked.next (assumptions.arity f) in
    let result = type.Variable (asked.next + assumptions.arity f) in
    scheme_asks (assumptions.function f) (arrows arguments result)
    (asking (arrows arguments (assumptions.values result)) t
    (taking (assumptions.arity f + 1) asked))

-- the equations are asked for that make a head's type this one
abbrev pub head_asks : Assumptions → Head → TypeExpr → Asked → Asked
head_asks assumptions (head.Fun f) t asked = scheme_asks (assumptions.function f) t asked
head_asks assumptions (head.Con c) t asked =
    scheme_asks (Polymorphic [] (assumptions.constructor c)) t asked
head_asks assumptions (head.Set f) t asked = set_asks assumptions f t asked

-- ---- patterns and terms: each variable, each pattern and each term has a type variable

-- the type variable of each variable
abbrev pub Environment : Type 0
Environment = ℕ → ℕ

abbrev pub bind : Environment → ℕ → ℕ → Environment
bind env x t y = if nat_eq x y then t else env y

-- an environment in which variables get type variables, one after another from `next` on
abbrev pub bind_from : Environment → ℕ → List ℕ → Environment
bind_from env next [] = env
bind_from env next (x ∷ xs) = bind_from (bind env x next) (next + 1) xs

-- the equation is asked for that two type variables are the same
abbrev pub asking_same : ℕ → ℕ → Asked → Asked
asking_same x y asked = asking (type.Variable x) (type.Variable y) asked

-- the equations are asked for of a head with arguments that have the type variables from `first`
-- on, where the result has the type variable t
abbrev pub call_asks : Assumptions → Head → ℕ → ℕ → ℕ → Asked → Asked
call_asks assumptions h first count t asked =
    head_asks assumptions h (arrows (variables_from first count) (type.Variable t)) asked

abbrev mutual
  pub pattern_asks : Assumptions → Environment → ℕ → Pattern → Asked → Asked
  pattern_asks assumptions env t (term.Any x) asked = asking_same (env x) t asked
  pattern_asks assumptions env t (term.Exactly l) asked =
      asking (literal_type l) (type.Variable t) asked
  pattern_asks assumptions env t (term.Built c ps) asked =
      patterns_ask assumptions env asked.next ps
      (call_asks assumptions (head.Con c) asked.next (pattern_count ps) t
      (taking (pattern_count ps) asked))
  pattern_asks assumptions env t (term.Named x p) asked =
      pattern_asks assumptions env t p (asking_same (env x) t asked)

  -- the equations of patterns, whose types are type variables one after another
  pub patterns_ask : Assumptions → Environment → ℕ → Patterns → Asked → Asked
  patterns_ask assumptions env first term.NoPattern asked = asked
  patterns_ask assumptions env first (term.MorePatterns p ps) asked =
      patterns_ask assumptions env (first + 1) ps (pattern_asks assumptions env first p asked)

-- The equations of a term, whose type is the type variable t. A variable of a Let has one type, as
-- any variable.
abbrev mutual
  pub term_asks : Assumptions → Environment → ℕ → Term → Asked → Asked
  term_asks assumptions env t (term.Variable x) asked = asking_same (env x) t asked
  term_asks assumptions env t (term.Literal l) asked =
      asking (literal_type l) (type.Variable t) asked
  term_asks assumptions env t (term.Whole h ts) asked =
      terms_ask assumptions env asked.next ts
      (call_asks assumptions h asked.next (term_count ts) t (taking (term_count ts) asked))
  term_asks assumptions env t (term.Part h ts) asked =
      terms_ask assumptions env asked.next ts
      (call_asks assumptions h asked.next (term_count ts) t (taking (term_count ts) asked))
  term_asks assumptions env t (term.Apply f a) asked =
      let argument = asked.next in
      let function = asked.next + 1 in
      term_asks assumptions env argument a
      (term_asks assumptions env function f
      (asking (type.Arrow (type.Variable argument) (type.Variable t)) (type.Variable function)
      (taking 2 asked)))
  term_asks assumptions env t (term.Let x a b) asked =
      term_asks assumptions (bind env x asked.next) t b
      (term_asks assumptions env asked.next a (taking 1 asked))
  term_asks assumptions env t (term.Free x a) asked =
      term_asks assumptions (bind env x asked.next) t a (taking 1 asked)
  term_asks assumptions env t (term.Or a b) asked =
      term_asks assumptions env t b (term_asks assumptions env t a asked)
  term_asks assumptions env t (term.Case mode a alternatives) asked =
      alternatives_ask assumptions env asked.next t alternatives
      (term_asks assumptions env asked.next a (taking 1 asked))

  -- the equations of terms, whose types are type variables one after another
  pub terms_ask : Assumptions → Environment → ℕ → Terms → Asked → Asked
  terms_ask assumptions env first term.NoTerm asked = asked
  terms_ask assumptions env first (term.MoreTerms t ts) asked =
      terms_ask assumptions env (first + 1) ts (term_asks assumptions env first t asked)

  -- the equations of alternatives: the patterns have the type variable s, and the terms after them
  -- t
  pub alternatives_ask : Assumptions → Environment → ℕ → ℕ → Alternatives → Asked → Asked
  alternatives_ask assumptions env s t term.NoAlternative asked = asked
  alternatives_ask assumptions env s t (term.MoreAlternatives p a alternatives) asked =
      let inner = bind_from env asked.next (variables_of p) in
      alternatives_ask assumptions env s t alternatives
      (term_asks assumptions inner t a
      (pattern_asks assumptions inner s p (taking (length (variables_of p)) asked)))

-- ---- functions of a group

-- A function of a dependency group. Its parameters have the type variables from `first` on, its
-- result has the next one, and its declared type has those after that.
pub record Member : Type 0 where
  pub function : FunId
  pub arity : ℕ
  -- how many of the function's parameters, the first ones, are variables that it captured as a
  -- local function
  pub captured : ℕ
  -- the declared type of the parameters that weren't captured and of the result, if there is one
  pub declared : Option TypeExpr
  pub body : Body
  pub first : ℕ

abbrev pub parameters : Member → List TypeExpr
parameters m = variables_from m.first m.arity

abbrev pub result : Member → ℕ
result m = m.first + m.arity

-- where the variables of a member's declared type begin
abbrev pub first_declared : Member → ℕ
first_declared m = m.first + m.arity + 1

abbrev pub member_type : Member → TypeExpr
member_type m = arrows (parameters m) (type.Variable (result m))

-- The scheme that a member of a group has in its own group. Where its type is declared, each use
-- there has an instance too, and captured variables have one type.
abbrev pub scheme_by : Member → Option TypeExpr → Scheme
scheme_by m None = Monomorphic (member_type m)
scheme_by m (Some t) = Polymorphic (take m.captured (parameters m)) t

abbrev pub scheme_in : List Member → Scheme → FunId → Scheme
scheme_in [] other f = other
scheme_in (m ∷ ms) other f = if nat_eq m.function.0 f.0 then scheme_by m m.declared
    else scheme_in ms other f

-- the equations that a rule of a member asks for
abbrev pub rule_asks : Assumptions → Member → Rule → Asked → Asked
rule_asks assumptions m rule asked =
    let env = bind_from (λ x. 0) asked.next (all_variables rule.params) in
    term_asks assumptions env (result m) rule.body
    (patterns_ask assumptions env m.first rule.params
    (taking (length (all_variables rule.params)) asked))

abbrev pub rules_ask : Assumptions → Member → List Rule → Asked → Asked
rules_ask assumptions m [] asked = asked
rules_ask assumptions m (rule ∷ rules) asked =
    rules_ask assumptions m rules (rule_asks assumptions m rule asked)

abbrev pub body_asks : Kernel → Assumptions → Member → Body → Asked → Asked
body_asks kernel assumptions m (calculus.Rules rules) asked = rules_ask assumptions m rules asked
body_asks kernel assumptions m (calculus.External operation) asked =
    scheme_asks (Polymorphic [] (external_type kernel operation)) (member_type m) asked

-- the equation that a member's declared type asks for, if it has one
abbrev pub signature_asks : Member → Option TypeExpr → Asked → Asked
signature_asks m None asked = asked
signature_asks m (Some t) asked =
    asking (arrows (drop m.captured (parameters m)) (type.Variable (result m)))
    (renamed (first_declared m) t) asked

abbrev pub members_ask : Kernel → Assumptions → List Member → Asked → Asked
members_ask kernel assumptions [] asked = asked
members_ask kernel assumptions (m ∷ ms) asked =
    members_ask kernel assumptions ms
    (body_asks kernel assumptions m m.body (signature_asks m m.declared asked))

-- ---- the group

abbrev pub arity_of : Option Function → ℕ
arity_of None = 0
arity_of (Some f) = f.arity

abbrev pub function_body : Option Function → Body
function_body None = calculus.Rules []
function_body (Some f) = f.body

abbrev pub captured_by : Option Mark → ℕ
captured_by None = 0
captured_by (Some mark) = mark.captured

abbrev pub declared_by : Kernel → Option Mark → Option TypeExpr
declared_by kernel None = None
declared_by kernel (Some mark) = option_map (λ t. numbered (expanded kernel t)) mark.declared

abbrev pub member : Kernel → ℕ → FunId → Member
member kernel first f = record {
  function = f;
  arity = arity_of (slice_get kernel.functions f.0);
  captured = captured_by (slice_get kernel.marks f.0);
  declared = declared_by kernel (slice_get kernel.marks f.0);
  body = function_body (slice_get kernel.functions f.0);
  first = first;
}

abbrev pub declared_breadth : Option TypeExpr → ℕ
declared_breadth None = 0
declared_breadth (Some t) = breadth t

-- the first type variable after those of a member
abbrev pub end_of : Member → ℕ
end_of m = first_declared m + declared_breadth m.declared

-- the members of a group that these functions are, whose type variables follow one another
abbrev pub members_from : Kernel → ℕ → List FunId → List Member
members_from kernel first [] = []
members_from kernel first (f ∷ fs) =
    member kernel first f ∷ members_from kernel (end_of (member kernel first f)) fs

unfoldable pub members : Kernel → List FunId → List Member
members kernel group = members_from kernel 0 group

abbrev pub end_of_all : ℕ → List Member → ℕ
end_of_all first [] = first
end_of_all first (m ∷ ms) = end_of_all (end_of m) ms

-- What is known of heads in a group. Functions outside the group have a type each, which is
-- generalised.
abbrev pub assumptions_of : Kernel → List TypeExpr → List Member → Assumptions
assumptions_of kernel interface ms = record {
  function = λ f. scheme_in ms (Polymorphic [] (slice_index_or interface f.0 (type.Variable 0))) f;
  constructor = constructor_type kernel;
  arity = λ f. arity_of (slice_get kernel.functions f.0);
  values = values kernel;
}

-- the equations of a group, where a type is known of each function that it mentions outside it
unfoldable pub equations : Kernel → List TypeExpr → List FunId → List Equation
equations kernel interface group =
    let ms = members kernel group in
    let asked = members_ask kernel (assumptions_of kernel interface ms) ms
    (record { next = end_of_all 0 ms; equations = [] }) in
    asked.equations
