-- Values whose nodes are pushed cell by cell: what becomes of them with each cell.
use Rattle.std.specs.Prelude.{ℕ, zero, suc, ◌-◌, List, [], ◌∷◌, ◌++◌, if◌then◌else◌, nat_lt, length, take, drop, reverse}
use Rattle.cu_machine.specs.declared.Kind.{Kind}
use Rattle.cu_machine.specs.declared.Kind.TheVariants as kind
use Rattle.cu_machine.specs.Graph.{Graph, alone}
use Rattle.cu_values.specs.declared.cell.Cell.{Cell}
use Rattle.cu_values.specs.declared.cell.Cell.TheVariants as cell
use Rattle.cu_values.specs.Cells.{arity_of}
use Rattle.cu_step.specs.declared.push.Unfinished.{Unfinished}
use Rattle.cu_step.specs.declared.push.Pushing.{Pushing}

-- what is there while the cells of a value are pushed as nodes
pub record Work : Type 0 where
  pub graph : Graph
  -- the indices of nodes that are arguments of nodes to come
  pub ids : List ℕ
  -- the nodes to come, the innermost first
  pub unfinished : List Unfinished

-- what is there in the code while the cells of a value are pushed as nodes
abbrev pub work_of : Graph → Pushing → Work
work_of graph pushing =
    record { graph = graph; ids = pushing.ids.items; unfinished = reverse pushing.unfinished.items }

-- the kind of a cell's node
abbrev pub kind_of_cell : Cell → Kind
kind_of_cell cell.Bottom = kind.Stuck
kind_of_cell (cell.LVar x) = kind.Stuck
kind_of_cell (cell.Lit l) = kind.Lit l
kind_of_cell (cell.Con c n) = kind.Cons c
kind_of_cell (cell.Part h n) = kind.Part h

-- the graph and the arguments that are left after a node was pushed over the last arguments
pub record Closed : Type 0 where
  pub graph : Graph
  pub ids : List ℕ

-- what is left after a node to come was pushed, whose arguments are the last ones
abbrev pub closed : Graph → List ℕ → Unfinished → Closed
closed graph ids outer = record {
  graph = graph ++ record { kind = outer.kind; args = drop (length ids - outer.count) ids } ∷ [];
  ids = take (length ids - outer.count) ids;
}

-- The state after the innermost node to come has one argument more. A node is pushed with its last
-- argument, and then is an argument itself.
unfoldable pub given_to : Graph → List ℕ → ℕ → List Unfinished → Work
given_to graph ids id [] = record { graph = graph; ids = ids ++ id ∷ []; unfinished = [] }
given_to graph ids id (outer ∷ others) =
    if nat_lt 1 outer.missing
    then record {
      graph = graph;
      ids = ids ++ id ∷ [];
      unfinished = record { kind = outer.kind; count = outer.count; missing = outer.missing - 1 }
          ∷ others;
    }
    else
    let after = closed graph (ids ++ id ∷ []) outer in
    given_to after.graph after.ids (length graph) others

-- the state after a node is there as an argument
abbrev pub given : Work → ℕ → Work
given work id = given_to work.graph work.ids id work.unfinished

-- the state after a cell: a node without arguments is pushed, and one with arguments is to come
abbrev pub fed_by : Work → Kind → ℕ → Work
fed_by work k zero = given_to (work.graph ++ alone k ∷ []) work.ids
    (length work.graph) work.unfinished
fed_by work k (suc n) =
    record {
      graph = work.graph;
      ids = work.ids;
      unfinished = record { kind = k; count = suc n; missing = suc n } ∷ work.unfinished;
    }

-- the state after a cell
abbrev pub fed : Work → Cell → Work
fed work c = fed_by work (kind_of_cell c) (arity_of c)

-- the state after several cells
abbrev pub all_fed : Work → List Cell → Work
all_fed work [] = work
all_fed work (c ∷ cells) = all_fed (fed work c) cells
