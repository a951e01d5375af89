-- The rows of mentions that the code keeps, and those of a program.
use Rattle.std.specs.Prelude.{◌≡◌, ℕ, Bool, true, false, List, Some, map, slice_get}
use Rattle.std.specs.declared.alloc.Global.{Global}
use Rattle.std.specs.declared.vec.Vec.{Vec}
use Rattle.cu_calculus.specs.Claims as claims
use Rattle.cu_calculus.specs.Claims.{Collected, Plain, body_mentions}
use Rattle.cu_calculus.specs.Program.{Program}
use Rattle.cu_calculus.specs.declared.FunId.{FunId}
use Rattle.cu_cycles.specs.Graph.{Graph}
use Rattle.cu_lift.specs.declared.mentions.Mention.{Mention}

-- a row of mentions for each function
abbrev pub MentionRows : Type 0
MentionRows = List (Vec Mention Global)

abbrev pub IsRow : MentionRows → ℕ → List Mention → Type 0
IsRow rows u row = (r : Vec Mention Global) × (slice_get rows u ≡ Some r) × (r.items ≡ row)

abbrev pub targets : List Mention → List ℕ
targets ms = map (λ m. m.function.0) ms

-- the graph of rows of mentions: an edge goes from each function to those that its row mentions
abbrev pub targets_in : MentionRows → Graph
targets_in rows = map (λ row. targets row.items) rows

abbrev pub mention_by : Bool → FunId → claims.Mention
mention_by true f = Collected f
mention_by false f = Plain f

abbrev pub mention_meaning : Mention → claims.Mention
mention_meaning m = mention_by m.collected m.function

abbrev pub mention_meanings : List Mention → List claims.Mention
mention_meanings ms = map mention_meaning ms

abbrev pub rows_of : MentionRows → List (List claims.Mention)
rows_of rows = map (λ row. mention_meanings row.items) rows

-- for each function, what its rules mention
abbrev pub graph_of : Program → List (List claims.Mention)
graph_of program = map (λ function. body_mentions function.body) program.functions
