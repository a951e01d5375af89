-- Matching: whether a value matches a pattern, and what the pattern's variables stand for then.
use Rattle.std.specs.Prelude.{ℕ, Bool, List, [], ◌∷◌, ◌++◌, Option, None, Some, if◌then◌else◌, nat_eq, option_map}
use Rattle.cu_calculus.specs.declared.ConId.{ConId}
use Rattle.cu_calculus.specs.Literal.{same_literal}
use Rattle.cu_calculus.specs.Term.{Any, Built, Exactly, MorePatterns, Named, NoPattern, Pattern, Patterns}
use Rattle.cu_calculus.specs.Value as value
use Rattle.cu_calculus.specs.Value.{Value, Values, MoreValues, NoValue}

-- what variables stand for: a value each, Bottom where nothing is known
abbrev pub Environment : Type 0
Environment = ℕ → Value

-- variables, each with the value that it is bound to
abbrev pub Bindings : Type 0
Bindings = List (ℕ × Value)

-- the environment in which nothing is known of any variable
abbrev pub empty : Environment
empty x = value.Bottom

-- an environment in which a variable stands for a value
abbrev pub bind : Environment → ℕ → Value → Environment
bind env x v y = if nat_eq x y then v else env y

-- an environment in which variables stand for the values that they are bound to; the first binding
-- of a variable counts
abbrev pub bind_all : Environment → Bindings → Environment
bind_all env [] = env
bind_all env ((x, v) ∷ bindings) = bind (bind_all env bindings) x v

-- whether two constructors are the same
abbrev pub same_constructor : ConId → ConId → Bool
same_constructor c d = nat_eq c.0 d.0

-- the bindings of both sides, where both match
abbrev pub both : Option Bindings → Option Bindings → Option Bindings
both (Some a) (Some b) = Some (a ++ b)
both _ _ = None

-- The bindings of a match, where the value matches the pattern. A variable is bound to the value,
-- and so is an alias; a literal or a constructor matches only itself, and a constructor's arguments
-- match its patterns.
abbrev mutual
  pub matched : Pattern → Value → Option Bindings
  matched (Any x) v = Some ((x, v) ∷ [])
  matched (Named x p) v = option_map (λ bindings. (x, v) ∷ bindings) (matched p v)
  matched (Exactly l) (value.Literal m) = if same_literal l m then Some [] else None
  matched (Exactly l) _ = None
  matched (Built c ps) (value.Constructed d vs) = if same_constructor c d then all_matched ps vs
      else None
  matched (Built c ps) _ = None

  -- the bindings of values that match patterns in pairs, where each does
  pub all_matched : Patterns → Values → Option Bindings
  all_matched NoPattern NoValue = Some []
  all_matched (MorePatterns p ps) (MoreValues v vs) = both (matched p v) (all_matched ps vs)
  all_matched _ _ = None
