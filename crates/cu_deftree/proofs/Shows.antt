-- Derivations of flat terms whose calls are those of the source program, and whose case distinctions on a variable look at all
-- that it stands for.
use Rattle.std.proofs.Common.{◌≡◌, ℕ, List, Some, IsTrue, IsFalse}
use Rattle.cu_calculus.specs.declared.Head.{Head}
use Rattle.cu_calculus.specs.declared.Lit.{Lit}
use Rattle.cu_calculus.specs.declared.Mode.{Mode}
use Rattle.cu_calculus.specs.Below.{Below}
use Rattle.cu_calculus.specs.Choose.{alternative_at}
use Rattle.cu_calculus.specs.Gives.{Applied, AppliedTo, Claim}
use Rattle.cu_calculus.specs.Match.{Bindings, Environment, bind, bind_all, matched}
use Rattle.cu_calculus.specs.Program.{Program}
use Rattle.cu_calculus.specs.Shape.{is_of, is_total_data}
use Rattle.cu_calculus.specs.Term as term
use Rattle.cu_calculus.specs.Term.{Alternatives, Pattern, Term, Terms}
use Rattle.cu_calculus.specs.Value as value
use Rattle.cu_calculus.specs.Value.{Value, Values, and_then, count}
use Rattle.cu_deftree.specs.Lowering.{is_variable}

mutual
  pub data Shows (program : Program) (claims : List Claim) : Environment → Term → Value → Type 0 where
    bottom : (env : Environment) (t : Term) → Shows program claims env t value.Bottom
    variable : (env : Environment) (x : ℕ) (v : Value) → Below v (env x) → Shows program claims env (term.Variable x) v
    literal : (env : Environment) (l : Lit) → Shows program claims env (term.Literal l) (value.Literal l)
    whole : (env : Environment) (h : Head) (ts : Terms) (us : Values) (v : Value) → AllShow program claims env ts us
        → Applied program claims h us v → Shows program claims env (term.Whole h ts) v
    part : (env : Environment) (h : Head) (ts : Terms) (us : Values) → AllShow program claims env ts us
        → Shows program claims env (term.Part h ts) (value.Partial h us)
    applied : (env : Environment) (f a : Term) (w u v : Value) → Shows program claims env f w → Shows program claims env a u
        → AppliedTo program claims w u v → Shows program claims env (term.Apply f a) v
    bound : (env : Environment) (x : ℕ) (a b : Term) (u v : Value) → Shows program claims env a u → Shows program claims (bind env x u) b v
        → Shows program claims env (term.Let x a b) v
    free : (env : Environment) (x : ℕ) (t : Term) (u v : Value) → IsTrue (is_total_data u) → IsTrue (is_of program u)
        → Shows program claims (bind env x u) t v → Shows program claims env (term.Free x t) v
    left : (env : Environment) (a b : Term) (v : Value) → Shows program claims env a v → Shows program claims env (term.Or a b) v
    right : (env : Environment) (a b : Term) (v : Value) → Shows program claims env b v → Shows program claims env (term.Or a b) v
    looked : (env : Environment) (mode : Mode) (x : ℕ) (t : Term) (alternatives : Alternatives) (k : ℕ) (p : Pattern) (bindings : Bindings)
        (v : Value) → alternative_at alternatives k ≡ Some (p, t) → matched p (env x) ≡ Some bindings
        → Shows program claims (bind_all env bindings) t v → Shows program claims env (term.Case mode (term.Variable x) alternatives) v
    chosen : (env : Environment) (mode : Mode) (a t : Term) (alternatives : Alternatives) (k : ℕ) (p : Pattern) (bindings : Bindings)
        (u v : Value) → IsFalse (is_variable a) → Shows program claims env a u → alternative_at alternatives k ≡ Some (p, t)
        → matched p u ≡ Some bindings → Shows program claims (bind_all env bindings) t v
        → Shows program claims env (term.Case mode a alternatives) v

  pub data AllShow (program : Program) (claims : List Claim) : Environment → Terms → Values → Type 0 where
    none : (env : Environment) → AllShow program claims env term.NoTerm value.NoValue
    more : (env : Environment) (t : Term) (ts : Terms) (v : Value) (vs : Values) → Shows program claims env t v
        → AllShow program claims env ts vs → AllShow program claims env (term.MoreTerms t ts) (value.MoreValues v vs)
