-- The walk that a branch keeps from one step to the next: the frames that were open when the node
-- that is needed was found. The next walk goes on from them, at the node that was rewritten.
use Rattle.std.specs.Prelude.{◌≡◌, ℕ, ◌<◌, ◌≤◌, false, List, [], ◌∷◌, ◌++◌, Option, None, Some, if◌then◌else◌, length, nat_eq, take, Bool}
use Rattle.std.specs.List.{All}
use Rattle.cu_calculus.specs.declared.ConId.{ConId}
use Rattle.cu_calculus.specs.declared.FunId.{FunId}
use Rattle.cu_machine.specs.declared.Kind.TheVariants as kind
use Rattle.cu_machine.specs.Graph.{Graph, head_of, node_at}
use Rattle.cu_machine.specs.Need as need
use Rattle.cu_machine.specs.Need.{Need}
use Rattle.cu_machine.specs.Rewrite.{Become, Move}
use Rattle.cu_step.specs.declared.need.Ask.{Ask}
use Rattle.cu_step.specs.declared.need.Ask.TheVariants as ask
use Rattle.cu_step.specs.declared.need.Demand.{Demand}
use Rattle.cu_step.specs.declared.need.Demand.TheVariants as demand
use Rattle.cu_step.specs.declared.need.Frame.{Frame}
use Rattle.cu_step.specs.declared.need.KeptWalk.{KeptWalk}
use Rattle.cu_step.specs.declared.need.Look.TheVariants as look
use Rattle.cu_step.specs.Inside.Walk.{Found, asked, looked, looked_at}

-- The argument at which a frame stands is `argument`, nothing waited before it, and what the frame
-- asks of each argument before it is there.
pub record StandsAt (truth : ConId) (graph : Graph) (frame : Frame) (argument : ℕ) : Type 0 where
  pub there : frame.node < length graph
  pub waits : frame.waits ≡ false
  pub next : frame.next ≤ length (looked_at graph frame.node)
  pub earlier : List ℕ
  pub splits : take frame.next (looked_at graph frame.node) ≡ earlier ++ argument ∷ []
  pub known : All (λ other. asked truth graph frame.ask frame.node other ≡ need.Done) earlier

-- A look at `start`, of which the node `by` asks `a`, comes to the node of this frame, and to what
-- it asks of its arguments.
pub record LooksTo (truth : ConId) (graph : Graph) (by : ℕ) (a : Ask) (start : ℕ) (frame : Frame)
    : Type 0 where
  pub head : head_of graph start ≡ frame.node
  pub look : looked truth by a frame.node (node_at graph frame.node).kind
      (node_at graph frame.node).args
      ≡ look.Node frame.node frame.ask

-- From `start`, of which the node `by` asks `a`, the frames lead to the node `id`: a look at the
-- argument at which one stands comes to the next one, and the argument at which the last one
-- stands has the same head as `id`.
unfoldable pub Leads : ConId → Graph → ℕ → Ask → ℕ → List Frame → ℕ → Type 0
Leads truth graph by a start [] id = head_of graph start ≡ head_of graph id
Leads truth graph by a start (frame ∷ frames) id =
    LooksTo truth graph by a start frame
    × (argument : ℕ) × StandsAt truth graph frame argument
    × Leads truth graph frame.node frame.ask argument frames id

-- The frames may be kept: from the root, of which the whole value is asked, they lead to the node
-- `id`.
abbrev pub IsKept : ConId → Graph → ℕ → List Frame → ℕ → Type 0
IsKept truth graph root frames id = Leads truth graph root ask.All root frames id

-- A walk that is kept, where one is, may go on in this graph.
abbrev pub MayGoOn : Graph → ℕ → Option KeptWalk → Type 0
MayGoOn graph root None = Unit {0}
MayGoOn graph root (Some walk) = (walk.place < length graph)
    × IsKept walk.truth graph root walk.frames.items walk.place

-- A walk that is kept, where one is, may go on in each graph that follows.
abbrev pub AllMayGoOn : ℕ → Option KeptWalk → Move → Type 0
AllMayGoOn root walk (Become graphs) = All (λ graph. MayGoOn graph root walk) graphs
AllMayGoOn root walk _ = Unit {0}

-- A walk that is kept, where one is, stands at the node `id`.
abbrev pub StandsAtNode : ConId → ℕ → Option KeptWalk → Type 0
StandsAtNode truth id None = Unit {0}
StandsAtNode truth id (Some walk) = (walk.truth ≡ truth) × (walk.place ≡ id)

-- The answer fits: the node whose value is there has the head of the root, and the walk to the node
-- that is needed, where one is kept, may go on from there.
abbrev pub DemandFits : ConId → Graph → ℕ → Demand → Type 0
DemandFits truth graph root (demand.There id) = (id < length graph)
    × (head_of graph root ≡ head_of graph id)
DemandFits truth graph root (demand.Rewrite id walk) = StandsAtNode truth id walk
    × MayGoOn graph root walk
DemandFits truth graph root _ = Unit {0}

-- what was found where a walk goes on from these frames
abbrev pub resumed : List Frame → Found
resumed frames = record { frames = frames; whole = []; inside = []; waits = false; ids = [] }

-- the node at which these frames begin, or else `place`
unfoldable pub first_node : ℕ → List Frame → ℕ
first_node place [] = place
first_node place (frame ∷ frames) = frame.node

-- what the node asks that stands last among these frames, or else `a`
unfoldable pub last_ask : Ask → List Frame → Ask
last_ask a [] = a
last_ask a (frame ∷ frames) = last_ask frame.ask frames

-- the node that stands last among these frames, or else `by`
unfoldable pub last_node : ℕ → List Frame → ℕ
last_node by [] = by
last_node by (frame ∷ frames) = last_node frame.node frames

-- ---- while a walk goes on

-- What a frame asks of each argument that was looked at is there.
pub record AllThere (truth : ConId) (graph : Graph) (frame : Frame) : Type 0 where
  pub there : frame.node < length graph
  pub next : frame.next ≤ length (looked_at graph frame.node)
  pub waits : frame.waits ≡ false
  pub known : All (λ other. asked truth graph frame.ask frame.node other ≡ need.Done)
      (take frame.next (looked_at graph frame.node))

-- How the frames of a walk stand between two looks, where nothing waits: there is none; or those
-- before the last one lead to its node, and what it asks of the arguments that were looked at is
-- there; or those before the frame of a set function's call lead to that call, whose arguments are
-- looked at for free variables.
pub data Standing (truth : ConId) (graph : Graph) (root : ℕ) (frames : List Frame) : Type 0 where
  none : frames ≡ [] → Standing truth graph root frames
  at_last : (rest : List Frame) (frame : Frame) → frames ≡ rest ++ frame ∷ []
      → IsKept truth graph root rest frame.node
      → looked truth (last_node root rest) (last_ask ask.All rest) frame.node
      (node_at graph frame.node).kind (node_at graph frame.node).args
      ≡ look.Node frame.node frame.ask
      → AllThere truth graph frame → Standing truth graph root frames
  inside : (rest : List Frame) (frame : Frame) (others : List Frame)
      → frames ≡ rest ++ frame ∷ others → frame.ask ≡ ask.Ground
      → (g : FunId) → (node_at graph frame.node).kind ≡ kind.SetCall g
      → IsKept truth graph root rest frame.node → All (λ other. other.ask ≡ ask.Inside) others
      → Standing truth graph root frames

-- what stands, where nothing waits
abbrev pub Stands : ConId → Graph → ℕ → Found → Type 0
Stands truth graph root f = f.waits ≡ false → Standing truth graph root f.frames

-- the frames without the last one where this is one of the node `id`
unfoldable pub without_own : ℕ → List Frame → List Frame
without_own id [] = []
without_own id (frame ∷ []) = if nat_eq frame.node id then [] else frame ∷ []
without_own id (frame ∷ other ∷ frames) = frame ∷ without_own id (other ∷ frames)

-- whether the last one of these frames is one of the node `id`
unfoldable pub ends_with : ℕ → List Frame → Bool
ends_with id [] = false
ends_with id (frame ∷ []) = nat_eq frame.node id
ends_with id (frame ∷ other ∷ frames) = ends_with id (other ∷ frames)

-- The walk found that the node `id` is needed: where nothing waits, its frames may be kept, without
-- one of this node itself.
abbrev pub Ends : ConId → Graph → ℕ → Found → ℕ → Type 0
Ends truth graph root f id = f.waits ≡ false
    → IsKept truth graph root (without_own id f.frames) id

-- what follows where an answer is that a node is needed
abbrev pub EndsAt : ConId → Graph → ℕ → Found → Need → Type 0
EndsAt truth graph root f (need.At id) = Ends truth graph root f id
EndsAt truth graph root f _ = Unit {0}
