-- The rewriting logic with call-time choice: what a term may be worth. It is CRWL (González-Moreno,
-- Hortalá-González, López-Fraguas and Rodríguez-Artalejo 1999) with partial applications (HO-CRWL,
-- 1997); the choice of an argument's value at the call is Hussmann's (1993). This system's profile
-- adds choices, case distinctions, built-in operations and set functions (Antoy and Hanus, Set
-- functions for functional logic programming, 2009) as rows of their own. A free variable stands
-- for total data, and a set function asks for ground arguments.
use Rattle.std.specs.Prelude.{◌≡◌, ℕ, List, [], ◌∷◌, Some, IsTrue, slice_get}
use Rattle.cu_calculus.specs.declared.ConId.{ConId}
use Rattle.cu_calculus.specs.declared.FunId.{FunId}
use Rattle.cu_calculus.specs.declared.Head.{Head}
use Rattle.cu_calculus.specs.declared.Head.TheVariants as head
use Rattle.cu_calculus.specs.declared.Lit.{Lit}
use Rattle.cu_calculus.specs.declared.Mode.{Mode}
use Rattle.cu_calculus.specs.declared.builtin.Primitive.{Primitive}
use Rattle.cu_calculus.specs.Below.{Below}
use Rattle.cu_calculus.specs.Builtin.{Answers}
use Rattle.cu_calculus.specs.Choose.{Selects}
use Rattle.cu_calculus.specs.Match.{Bindings, Environment, all_matched, bind, bind_all, empty}
use Rattle.cu_calculus.specs.Program.{External, Function, Program, Rule, Rules, arity_in, function_of}
use Rattle.cu_calculus.specs.Shape.{are_ground, is_of, is_total_data, takes, takes_more}
use Rattle.cu_calculus.specs.Term as term
use Rattle.cu_calculus.specs.Term.{Alternatives, Term, Terms}
use Rattle.cu_calculus.specs.Value as value
use Rattle.cu_calculus.specs.Value.{Value, Values, and_then, count, values_of}

-- A claim: these are all the ground values of a function on ground arguments.
pub record Claim : Type 0 where
  pub function : FunId
  pub arguments : Values
  pub values : List Value

-- several values as a list of the language, by the constructors `[]` and `:`
abbrev pub listed : ConId → ConId → List Value → Value
listed nil cons [] = value.Constructed nil value.NoValue
listed nil cons (v ∷ vs) =
    value.Constructed cons
    (value.MoreValues v (value.MoreValues (listed nil cons vs) value.NoValue))

-- the value of a set call: the constructor of the values of set functions, on the list of the
-- values
abbrev pub collected : Program → ConId → List Value → Value
collected program c vs =
    value.Constructed c
    (value.MoreValues (listed program.special.nil program.special.cons vs) value.NoValue)

mutual
  -- A term has a value, where its variables stand for what the environment says.
  pub data Gives (program : Program) (claims : List Claim) : Environment → Term → Value
      → Type 0 where
    bottom : (env : Environment) (t : Term) → Gives program claims env t value.Bottom
    variable : (env : Environment) (x : ℕ) (v : Value) → Below v (env x)
        → Gives program claims env (term.Variable x) v
    literal : (env : Environment) (l : Lit)
        → Gives program claims env (term.Literal l) (value.Literal l)
    whole : (env : Environment) (h : Head) (ts : Terms) (us : Values) (v : Value)
        → AllGive program claims env ts us
        → Applied program claims h us v → Gives program claims env (term.Whole h ts) v
    part : (env : Environment) (h : Head) (ts : Terms) (us : Values)
        → AllGive program claims env ts us
        → Gives program claims env (term.Part h ts) (value.Partial h us)
    applied : (env : Environment) (f a : Term) (w u v : Value) → Gives program claims env f w
        → Gives program claims env a u
        → AppliedTo program claims w u v → Gives program claims env (term.Apply f a) v
    bound : (env : Environment) (x : ℕ) (a b : Term) (u v : Value) → Gives program claims env a u
        → Gives program claims (bind env x u) b v
        → Gives program claims env (term.Let x a b) v
    free : (env : Environment) (x : ℕ) (t : Term) (u v : Value) → IsTrue (is_total_data u)
        → IsTrue (is_of program u) → Gives program claims (bind env x u) t v
        → Gives program claims env (term.Free x t) v
    left : (env : Environment) (a b : Term) (v : Value) → Gives program claims env a v
        → Gives program claims env (term.Or a b) v
    right : (env : Environment) (a b : Term) (v : Value) → Gives program claims env b v
        → Gives program claims env (term.Or a b) v
    chosen : (env : Environment) (mode : Mode) (a t : Term) (alternatives : Alternatives)
        (bindings : Bindings) (u v : Value)
        → Gives program claims env a u → Selects program alternatives u t bindings
        → Gives program claims (bind_all env bindings) t v
        → Gives program claims env (term.Case mode a alternatives) v

  -- Terms have values, one each.
  pub data AllGive (program : Program) (claims : List Claim) : Environment → Terms → Values
      → Type 0 where
    none : (env : Environment) → AllGive program claims env term.NoTerm value.NoValue
    more : (env : Environment) (t : Term) (ts : Terms) (v : Value) (vs : Values)
        → Gives program claims env t v → AllGive program claims env ts vs
        → AllGive program claims env (term.MoreTerms t ts) (value.MoreValues v vs)

  -- A head on as many values as it takes has a value.
  pub data Applied (program : Program) (claims : List Claim) : Head → Values → Value → Type 0 where
    constructed : (c : ConId) (us : Values)
        → Applied program claims (head.Con c) us (value.Constructed c us)
    by_rule : (f : FunId) (function : Function) (rules : List Rule) (k : ℕ) (rule : Rule)
        (bindings : Bindings) (us : Values) (v : Value)
        → function_of program f ≡ Some function → function.body ≡ Rules rules
        → slice_get rules k ≡ Some rule
        → all_matched rule.params us ≡ Some bindings
        → Gives program claims (bind_all empty bindings) rule.body v
        → Applied program claims (head.Fun f) us v
    builtin : (f : FunId) (function : Function) (operation : Primitive) (us : Values) (v : Value)
        → function_of program f ≡ Some function
        → function.body ≡ External operation → Answers program operation us v
        → Applied program claims (head.Fun f) us v
    collect : (f : FunId) (claim : Claim) (k : ℕ) (c : ConId) (us : Values) (v : Value)
        → IsTrue (are_ground us)
        → slice_get claims k ≡ Some claim → claim.function ≡ f → claim.arguments ≡ us
        → program.special.values ≡ Some c
        → Below v (collected program c claim.values) → Applied program claims (head.Set f) us v

  -- The application of a functional value to one argument more has a value: a functional value
  -- where its head lacks further arguments, else what the head gives on all of them.
  pub data AppliedTo (program : Program) (claims : List Claim) : Value → Value → Value
      → Type 0 where
    extended : (h : Head) (us more : Values) (u : Value) → more ≡ and_then us u
        → IsTrue (takes_more (arity_in program h) (count more))
        → AppliedTo program claims (value.Partial h us) u (value.Partial h more)
    completed : (h : Head) (us all : Values) (u v : Value) → all ≡ and_then us u
        → IsTrue (takes (arity_in program h) (count all))
        → Applied program claims h all v → AppliedTo program claims (value.Partial h us) u v
