-- Values as graphs and graphs as values: reading a value off a graph, and pushing the nodes of a
-- value.
use Rattle.std.specs.Prelude.{ℕ, zero, suc, ◌+◌, List, [], ◌∷◌, ◌++◌, if◌then◌else◌, length, map, nat_eq}
use Rattle.cu_calculus.specs.Value as value
use Rattle.cu_calculus.specs.Value.{Value, Values, values_of}
use Rattle.cu_machine.specs.declared.Kind.{Kind}
use Rattle.cu_machine.specs.declared.Kind.TheVariants as kind
use Rattle.cu_machine.specs.Build.{Built, BuiltParts, build_alone, build_node, place_of, pushed}
use Rattle.cu_machine.specs.Graph.{Graph, alone, head_at, head_of, stuck}
use Rattle.cu_machine.specs.Places.{joined}

-- the value that a head spells, where `part` gives those of its arguments
abbrev pub spelled_at : (ℕ → Value) → ℕ → Kind → List ℕ → Value
spelled_at part id (kind.Cons c) args = value.Constructed c (values_of (map part args))
spelled_at part id (kind.Lit l) args = value.Literal l
spelled_at part id (kind.Part h) args = value.Partial h (values_of (map part args))
spelled_at part id kind.Free args = value.Variable id
spelled_at part id _ _ = value.Bottom

-- The value that a node spells. A free variable has the number of its node, and a node that isn't a
-- value's is Bottom. The first number bounds how deep the graph is looked at.
unfoldable pub spelled_within : ℕ → Graph → ℕ → Value
spelled_within zero graph id = value.Bottom
spelled_within (suc depth) graph id =
    spelled_at (spelled_within depth graph) (head_of graph id) (head_at graph id).kind
    (head_at graph id).args

-- the value that a node spells, in a graph without cycles
abbrev pub spelled : Graph → ℕ → Value
spelled graph id = spelled_within (length graph) graph id

-- the variables in a value, each once, in the order in which they are met
abbrev mutual
  pub variables_in : Value → List ℕ
  variables_in value.Bottom = []
  variables_in (value.Variable x) = x ∷ []
  variables_in (value.Literal l) = []
  variables_in (value.Constructed c vs) = all_variables_in vs
  variables_in (value.Partial h vs) = all_variables_in vs

  -- the variables in the arguments of a value, each once, in the order in which they are met
  pub all_variables_in : Values → List ℕ
  all_variables_in value.NoValue = []
  all_variables_in (value.MoreValues v vs) = joined (variables_in v) (all_variables_in vs)

-- the variables in several values, each once, in the order in which they are met
abbrev pub variables_of_all : List Value → List ℕ
variables_of_all [] = []
variables_of_all (v ∷ vs) = joined (variables_in v) (variables_of_all vs)

-- the position of a number in a list, counted from 1; 0 where it isn't there
abbrev pub ordinal : List ℕ → ℕ → ℕ
ordinal [] x = 0
ordinal (y ∷ ys) x = if nat_eq x y then 1 else elim (ordinal ys x) [ zero ↦ 0 | suc k ↦ suc k + 1 ]

-- a value with other numbers for its variables
abbrev mutual
  pub renumbered : (ℕ → ℕ) → Value → Value
  renumbered number value.Bottom = value.Bottom
  renumbered number (value.Variable x) = value.Variable (number x)
  renumbered number (value.Literal l) = value.Literal l
  renumbered number (value.Constructed c vs) = value.Constructed c (all_renumbered number vs)
  renumbered number (value.Partial h vs) = value.Partial h (all_renumbered number vs)

  -- several values with other numbers for their variables
  pub all_renumbered : (ℕ → ℕ) → Values → Values
  all_renumbered number value.NoValue = value.NoValue
  all_renumbered number (value.MoreValues v vs) =
      value.MoreValues (renumbered number v) (all_renumbered number vs)

-- how many cells a value has: its constructors, literals, variables and heads of partial
-- applications
abbrev mutual
  pub cells : Value → ℕ
  cells value.Bottom = 1
  cells (value.Variable x) = 1
  cells (value.Literal l) = 1
  cells (value.Constructed c vs) = all_cells vs + 1
  cells (value.Partial h vs) = all_cells vs + 1

  -- how many cells the arguments of a value have
  pub all_cells : Values → ℕ
  all_cells value.NoValue = 0
  all_cells (value.MoreValues v vs) = cells v + all_cells vs

-- how many cells several values have
abbrev pub cells_of_all : List Value → ℕ
cells_of_all [] = 0
cells_of_all (v ∷ vs) = cells v + cells_of_all vs

-- What is built for a value, without sharing: the nodes of its arguments from left to right, and
-- then its own. A variable and Bottom become stuck nodes.
abbrev mutual
  pub push_value : ℕ → Value → Built
  push_value next value.Bottom = build_alone stuck
  push_value next (value.Variable x) = build_alone stuck
  push_value next (value.Literal l) = build_alone (alone (kind.Lit l))
  push_value next (value.Constructed c vs) = build_node (kind.Cons c) (push_values next vs)
  push_value next (value.Partial h vs) = build_node (kind.Part h) (push_values next vs)

  -- what is built for several values, one after the other
  pub push_values : ℕ → Values → BuiltParts
  push_values next value.NoValue = record { nodes = []; ids = [] }
  push_values next (value.MoreValues v vs) =
      let first = push_value next v in
      let others = push_values (next + length (pushed first)) vs
      in record { nodes = pushed first ++ others.nodes; ids = place_of next first ∷ others.ids }
