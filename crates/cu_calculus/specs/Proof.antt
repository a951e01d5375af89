-- Proofs: derivations of the rewriting logic (González-Moreno and others 1999) as lists of
-- statements. Each statement follows from earlier ones, which it cites in the order in which its
-- row names them.
use Rattle.std.specs.Prelude.{◌≡◌, ◌≢◌, ℕ, Bool, true, ◌&&◌, List, [], ◌∷◌, ◌++◌, Option, None, Some, IsTrue, is_some, map, nat_lt, slice_get}
use Rattle.std.specs.List.{list_all}
use Rattle.cu_calculus.specs.declared.ConId.{ConId}
use Rattle.cu_calculus.specs.declared.FunId.{FunId}
use Rattle.cu_calculus.specs.declared.Head.{Head}
use Rattle.cu_calculus.specs.declared.Head.TheVariants as head
use Rattle.cu_calculus.specs.declared.Lit.{Lit}
use Rattle.cu_calculus.specs.declared.Mode.{Mode}
use Rattle.cu_calculus.specs.declared.builtin.Primitive.{Primitive}
use Rattle.cu_calculus.specs.Below.{Below}
use Rattle.cu_calculus.specs.Builtin.{Answers}
use Rattle.cu_calculus.specs.Choose.{Selects}
use Rattle.cu_calculus.specs.Gives.{Claim, collected}
use Rattle.cu_calculus.specs.Match.{Bindings, Environment, all_matched, bind, bind_all, empty}
use Rattle.cu_calculus.specs.Program.{External, Function, Program, Rule, Rules, arity_in, function_of}
use Rattle.cu_calculus.specs.Shape.{are_ground, are_of, is_of, is_total_data, takes, takes_more}
use Rattle.cu_calculus.specs.Term as term
use Rattle.cu_calculus.specs.Term.{Alternatives, Term, Terms}
use Rattle.cu_calculus.specs.Valid.{fits_term}
use Rattle.cu_calculus.specs.Value as value
use Rattle.cu_calculus.specs.Value.{Value, Values, and_then, count}

-- a statement: a term has a value, where its variables stand for what the bindings say
pub record Statement : Type 0 where
  pub env : Bindings
  pub term : Term
  pub value : Value

-- the environment that the bindings of a statement describe
abbrev pub env_of : Statement → Environment
env_of statement = bind_all empty statement.env

-- A statement is about this term in this environment, and gives this value. A variable that it
-- doesn't bind stands for Bottom.
pub record Says (statement : Statement) (env : Environment) (t : Term) (v : Value) : Type 0 where
  pub at : (x : ℕ) → env_of statement x ≡ env x
  pub term : statement.term ≡ t
  pub value : statement.value ≡ v

-- The statements are about these terms, one for each, and give these values.
abbrev pub AllSay : List Statement → Environment → Terms → Values → Type 0
AllSay [] env term.NoTerm value.NoValue = Unit {0}
AllSay (s ∷ ss) env (term.MoreTerms t ts) (value.MoreValues v vs) =
    Says s env t v × AllSay ss env ts vs
AllSay _ env _ _ = ⊥

-- The statements that a call of a head on values cites for a value: none, or that of the rule's
-- right side under the bindings of the match.
pub data Applies (program : Program) (claims : List Claim) : Head → Values → List Statement → Value
    → Type 0 where
  constructed : (c : ConId) (us : Values) (v : Value) → v ≡ value.Constructed c us
      → Applies program claims (head.Con c) us [] v
  by_rule : (f : FunId) (function : Function) (rules : List Rule) (k : ℕ) (rule : Rule)
      (bindings : Bindings) (us : Values) (s : Statement) (v : Value)
      → function_of program f ≡ Some function → function.body ≡ Rules rules
      → slice_get rules k ≡ Some rule
      → all_matched rule.params us ≡ Some bindings → Says s (bind_all empty bindings) rule.body v
      → Applies program claims (head.Fun f) us (s ∷ []) v
  builtin : (f : FunId) (function : Function) (operation : Primitive) (us : Values) (v : Value)
      → function_of program f ≡ Some function
      → function.body ≡ External operation → Answers program operation us v
      → Applies program claims (head.Fun f) us [] v
  collect : (f : FunId) (claim : Claim) (k : ℕ) (c : ConId) (us : Values) (v : Value)
      → IsTrue (are_ground us)
      → slice_get claims k ≡ Some claim → claim.function ≡ f → claim.arguments ≡ us
      → program.special.values ≡ Some c
      → Below v (collected program c claim.values) → Applies program claims (head.Set f) us [] v

-- The statements that the application of a functional value to one more argument cites for a value:
-- none where its head lacks further arguments, else those that the call of the head cites.
pub data AppliesTo (program : Program) (claims : List Claim) : Value → Value → List Statement
    → Value → Type 0 where
  extended : (h : Head) (us more : Values) (u : Value) → more ≡ and_then us u
      → IsTrue (takes_more (arity_in program h) (count more))
      → AppliesTo program claims (value.Partial h us) u [] (value.Partial h more)
  completed : (h : Head) (us all : Values) (u : Value) (last : List Statement) (v : Value)
      → all ≡ and_then us u
      → IsTrue (takes (arity_in program h) (count all)) → Applies program claims h all last v
      → AppliesTo program claims (value.Partial h us) u last v

-- The table of the calculus: a statement follows from cited ones, by the row for its form of term
-- or by that for Bottom. The cited statements stand in the order in which the row names them.
pub data Follows (program : Program) (claims : List Claim) : List Statement → Environment → Term
    → Value → Type 0 where
  bottom : (env : Environment) (t : Term) → Follows program claims [] env t value.Bottom
  variable : (env : Environment) (x : ℕ) (v : Value) → Below v (env x)
      → Follows program claims [] env (term.Variable x) v
  literal : (env : Environment) (l : Lit)
      → Follows program claims [] env (term.Literal l) (value.Literal l)
  whole : (cited parts last : List Statement) (env : Environment) (h : Head) (ts : Terms)
      (us : Values) (v : Value) → cited ≡ parts ++ last
      → AllSay parts env ts us → Applies program claims h us last v
      → Follows program claims cited env (term.Whole h ts) v
  part : (cited : List Statement) (env : Environment) (h : Head) (ts : Terms) (us : Values)
      → AllSay cited env ts us
      → Follows program claims cited env (term.Part h ts) (value.Partial h us)
  applied : (s r : Statement) (last : List Statement) (env : Environment) (f a : Term)
      (w u v : Value) → Says s env f w → Says r env a u
      → AppliesTo program claims w u last v
      → Follows program claims (s ∷ r ∷ last) env (term.Apply f a) v
  bound : (s r : Statement) (env : Environment) (x : ℕ) (a b : Term) (u v : Value) → Says s env a u
      → Says r (bind env x u) b v
      → Follows program claims (s ∷ r ∷ []) env (term.Let x a b) v
  free : (s : Statement) (env : Environment) (x : ℕ) (t : Term) (u v : Value)
      → IsTrue (is_total_data u) → IsTrue (is_of program u)
      → Says s (bind env x u) t v → Follows program claims (s ∷ []) env (term.Free x t) v
  left : (s : Statement) (env : Environment) (a b : Term) (v : Value) → Says s env a v
      → Follows program claims (s ∷ []) env (term.Or a b) v
  right : (s : Statement) (env : Environment) (a b : Term) (v : Value) → Says s env b v
      → Follows program claims (s ∷ []) env (term.Or a b) v
  chosen : (s r : Statement) (env : Environment) (mode : Mode) (a t : Term)
      (alternatives : Alternatives) (bindings : Bindings) (u v : Value)
      → Says s env a u → Selects program alternatives u t bindings
      → Says r (bind_all env bindings) t v
      → Follows program claims (s ∷ r ∷ []) env (term.Case mode a alternatives) v

-- a step: a statement, and the numbers of the statements that it cites
pub record Step : Type 0 where
  pub cites : List ℕ
  pub statement : Statement

-- the statements of the steps of a proof
abbrev pub statements : List Step → List Statement
statements steps = map (λ step. step.statement) steps

-- The statements are those with these numbers, among the earlier ones.
abbrev pub Cites : List Statement → List ℕ → List Statement → Type 0
Cites before [] [] = Unit {0}
Cites before (k ∷ ks) (s ∷ ss) = (slice_get before k ≡ Some s) × Cites before ks ss
Cites before _ _ = ⊥

-- Each step follows from the statements that it cites, which stand before it.
pub data AllFollow (program : Program) (claims : List Claim) : List Step → Type 0 where
  nothing : AllFollow program claims []
  followed : (before after : List Step) (cited : List Statement) (step : Step)
      → AllFollow program claims before
      → Cites (statements before) step.cites cited
      → Follows program claims cited
      (env_of step.statement) step.statement.term step.statement.value
      → after ≡ before ++ step ∷ [] → AllFollow program claims after

-- whether bindings stand in rising order of their variables, without repeats
abbrev pub are_rising : Bindings → Bool
are_rising [] = true
are_rising (b ∷ []) = true
are_rising (b ∷ c ∷ more) = nat_lt b.0 c.0 && are_rising (c ∷ more)

-- whether a statement is one of the program: its values are the program's, and its term fits,
-- whatever variables it has
abbrev pub is_statement_of : Program → Statement → Bool
is_statement_of program s =
    are_rising s.env && list_all (λ b. is_of program b.1) s.env
    && fits_term program (λ x. true) s.term && is_of program s.value

-- whether a claim is one of the program: its function and its values are the program's
abbrev pub is_claim_of : Program → Claim → Bool
is_claim_of program claim =
    is_some (function_of program claim.function) && are_of program claim.arguments
    && list_all (is_of program) claim.values

-- A proof checks: it has at least one step, speaks of the program, and each of its steps follows.
pub record Checks (program : Program) (claims : List Claim) (proof : List Step) : Type 0 where
  pub begun : proof ≢ []
  pub speaks : IsTrue (list_all (λ step. is_statement_of program step.statement) proof)
  pub claimed : IsTrue (list_all (is_claim_of program) claims)
  pub follows : AllFollow program claims proof

-- the last statement of a proof, which it concludes
abbrev pub conclusion : List Step → Option Statement
conclusion [] = None
conclusion (step ∷ []) = Some step.statement
conclusion (step ∷ next ∷ steps) = conclusion (next ∷ steps)
