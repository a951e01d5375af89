-- The order of approximation on partial values (González-Moreno and others 1999): what is below
-- says less, and never anything different.
use Rattle.std.specs.Prelude.{◌≡◌, ℕ, [], ◌∷◌}
use Rattle.cu_calculus.specs.declared.ConId.{ConId}
use Rattle.cu_calculus.specs.declared.Head.{Head}
use Rattle.cu_calculus.specs.declared.Lit.{Lit}
use Rattle.cu_calculus.specs.Match.{Bindings, Environment}
use Rattle.cu_calculus.specs.Value as value
use Rattle.cu_calculus.specs.Value.{Value, Values}

mutual
  -- the first value approximates the second
  pub data Below : Value → Value → Type 0 where
    bottom : (v : Value) → Below value.Bottom v
    variable : (x : ℕ) → Below (value.Variable x) (value.Variable x)
    literal : (l : Lit) → Below (value.Literal l) (value.Literal l)
    constructed : (c : ConId) (us vs : Values) → AllBelow us vs
        → Below (value.Constructed c us) (value.Constructed c vs)
    partial : (h : Head) (us vs : Values) → AllBelow us vs
        → Below (value.Partial h us) (value.Partial h vs)

  -- as many values on both sides, each of which approximates its partner
  pub data AllBelow : Values → Values → Type 0 where
    none : AllBelow value.NoValue value.NoValue
    more : (u v : Value) (us vs : Values) → Below u v → AllBelow us vs
        → AllBelow (value.MoreValues u us) (value.MoreValues v vs)

-- an environment says at most what another does
abbrev pub EnvBelow : Environment → Environment → Type 0
EnvBelow low high = (x : ℕ) → Below (low x) (high x)

-- bindings of the same variables on both sides, each to at most the value that its partner binds
abbrev pub BindingsBelow : Bindings → Bindings → Type 0
BindingsBelow [] [] = Unit {0}
BindingsBelow ((x, u) ∷ low) ((y, v) ∷ high) = (x ≡ y) × Below u v × BindingsBelow low high
BindingsBelow _ _ = ⊥
