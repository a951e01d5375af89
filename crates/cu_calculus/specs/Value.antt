-- Partial values: approximations of what an expression may be worth (González-Moreno and others, An
-- approach to declarative programming based on a rewriting logic, 1999; with partial applications,
-- A higher order rewriting logic for functional logic programming, 1997).
use Rattle.std.specs.Prelude.{ℕ, ◌+◌, List, [], ◌∷◌}
use Rattle.cu_calculus.specs.declared.ConId.{ConId}
use Rattle.cu_calculus.specs.declared.Head.{Head}
use Rattle.cu_calculus.specs.declared.Lit.{Lit}

mutual
  -- a partial value
  pub data Value : Type 0 where
    -- the value of which nothing is known
    Bottom : Value
    -- a free variable
    Variable : ℕ → Value
    Literal : Lit → Value
    -- a constructor with all its arguments
    Constructed : ConId → Values → Value
    -- a partial application: a head with fewer arguments than it takes
    Partial : Head → Values → Value

  -- several values
  pub data Values : Type 0 where
    NoValue : Values
    MoreValues : Value → Values → Values

-- the values of a list
abbrev pub values_of : List Value → Values
values_of [] = NoValue
values_of (v ∷ vs) = MoreValues v (values_of vs)

-- the list of some values
abbrev pub list_of : Values → List Value
list_of NoValue = []
list_of (MoreValues v vs) = v ∷ list_of vs

-- some values, and one more at their end
abbrev pub and_then : Values → Value → Values
and_then NoValue v = MoreValues v NoValue
and_then (MoreValues u us) v = MoreValues u (and_then us v)

-- how many values there are
abbrev pub count : Values → ℕ
count NoValue = 0
count (MoreValues v vs) = count vs + 1
