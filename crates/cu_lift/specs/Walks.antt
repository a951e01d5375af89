-- The graph of a program's functions: which of them mention which, and walks along mentions.
use Rattle.std.specs.Prelude.{◌≡◌, ℕ, List, [], ◌∷◌, Some, slice_get, ◌⊎◌}
use Rattle.cu_calculus.specs.Claims.{Collected, Mention, Plain, body_mentions}
use Rattle.cu_calculus.specs.Program.{Function, Program, function_of}
use Rattle.cu_calculus.specs.declared.FunId.{FunId}

-- a mention stands in the rules of a function
pub record Has (program : Program) (f : FunId) (mention : Mention) : Type 0 where
  pub function : Function
  pub is_function : function_of program f ≡ Some function
  pub place : ℕ
  pub is_there : slice_get (body_mentions function.body) place ≡ Some mention

-- an edge of the graph: the rules of f mention g, by itself or in a set call
abbrev pub Mentions : Program → FunId → FunId → Type 0
Mentions program f g = Has program f (Plain g) ⊎ Has program f (Collected g)

-- a walk along edges from one function to another; the list has the functions that it leaves, in
-- order
pub data Walk (program : Program) : FunId → List FunId → FunId → Type 0 where
  stay : (f : FunId) → Walk program f [] f
  go : (f g h : FunId) (fs : List FunId) → Mentions program f g → Walk program g fs h
      → Walk program f (f ∷ fs) h

abbrev pub Reaches : Program → FunId → FunId → Type 0
Reaches program f g = (fs : List FunId) × Walk program f fs g

-- mutual recursion
abbrev pub AreConnected : Program → FunId → FunId → Type 0
AreConnected program f g = Reaches program f g × Reaches program g f
