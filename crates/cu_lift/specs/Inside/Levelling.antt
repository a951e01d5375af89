-- Set levels over the rows of mentions that the code keeps, and how they are found.
use Rattle.std.specs.Prelude.{◌≡◌, ℕ, ◌+◌, ◌<◌, ◌≤◌, ◌⊎◌, true, cond, nat_eq, List, [], ◌∷◌, ◌++◌, Option, None, Some, length, slice_get, slice_index}
use Rattle.std.specs.declared.alloc.Global.{Global}
use Rattle.std.specs.declared.vec.Vec.{Vec}
use Rattle.cu_calculus.specs.declared.FunId.{FunId}
use Rattle.cu_cycles.specs.Graph.{Graph}
use Rattle.cu_lift.specs.Inside.MentionsOf.{MentionRows}
use Rattle.cu_lift.specs.Inside.Trail.{Steps}
use Rattle.cu_lift.specs.declared.set_levels.Call.{Call}
use Rattle.cu_lift.specs.declared.mentions.Mention.{Mention}

-- the row of u has a mention
pub record Mentioned (g : MentionRows) (u : ℕ) (m : Mention) : Type 0 where
  pub row : Vec Mention Global
  pub is_row : slice_get g u ≡ Some row
  pub place : ℕ
  pub is_there : slice_get row.items place ≡ Some m

-- the functions of a rank, where these are the ranks of those from a place on
abbrev pub of_rank : ℕ → ℕ → List ℕ → List FunId
of_rank r f [] = []
of_rank r f (x ∷ ranks) =
    cond (nat_eq x r) (record { 0 = f } ∷ of_rank r (f + 1) ranks) (of_rank r (f + 1) ranks)

-- for each rank, its functions in program order
pub record AreMembers (ranks : List ℕ) (count : ℕ)
    (members : List (Vec FunId Global)) : Type 0 where
  pub sized : length members ≡ count
  pub each : (r : ℕ) (row : Vec FunId Global) → slice_get members r ≡ Some row
      → row.items ≡ of_rank r 0 ranks

-- the least level that a mention allows
abbrev pub demand : List ℕ → Mention → ℕ
demand levels m = slice_index levels m.function.0 + cond m.collected 1 0

pub record AreLevelsOn (g : MentionRows) (levels : List ℕ) : Type 0 where
  pub each : length levels ≡ length g
  pub allowed : (u : ℕ) (m : Mention) → Mentioned g u m → demand levels m ≤ slice_index levels u

-- no set call stays in its component
pub record IsCalm (g : MentionRows) (ranks : List ℕ) : Type 0 where
  pub calm : (u r : ℕ) (m : Mention) → Mentioned g u m → m.collected ≡ true
      → slice_get ranks u ≡ Some r
      → slice_get ranks m.function.0 ≡ Some r → ⊥

-- the levels of the components before one
pub record LevelsTo (g : MentionRows) (ranks : List ℕ) (r : ℕ) (levels : List ℕ) : Type 0 where
  pub sized : length levels ≡ length g
  pub low : (v x : ℕ) → slice_get ranks v ≡ Some x → slice_index levels v ≤ x
  pub none : (v x : ℕ) → slice_get ranks v ≡ Some x → r ≤ x → slice_index levels v ≡ 0
  pub allowed : (u x : ℕ) (m : Mention) → Mentioned g u m → slice_get ranks u ≡ Some x → x < r
      → demand levels m ≤ slice_index levels u
  pub least : (others : List ℕ) (v : ℕ) → AreLevelsOn g others
      → slice_index levels v ≤ slice_index others v

-- the greatest of what some mentions demand, and of a least number
pub record IsDemand (levels : List ℕ) (row : List Mention) (least level : ℕ) : Type 0 where
  pub at_least : least ≤ level
  pub bound : (k : ℕ) (m : Mention) → slice_get row k ≡ Some m → demand levels m ≤ level
  pub attained : (level ≡ least)
      ⊎ ((k : ℕ) × (m : Mention) × (slice_get row k ≡ Some m) × (demand levels m ≡ level))

-- the greatest of what the mentions of some functions demand
pub record AreDemands (g : MentionRows) (levels : List ℕ) (members : List FunId)
    (level : ℕ) : Type 0 where
  pub bound : (k : ℕ) (f : FunId) (m : Mention) → slice_get members k ≡ Some f → Mentioned g f.0 m
      → demand levels m ≤ level
  pub attained : (level ≡ 0) ⊎ ((k : ℕ) × (f : FunId) × (m : Mention)
      × (slice_get members k ≡ Some f) × Mentioned g f.0 m × (demand levels m ≡ level))

-- some functions have a level, and the others what they had
pub record AreRaised (members : List FunId) (level : ℕ) (old new : List ℕ) : Type 0 where
  pub sized : length new ≡ length old
  pub raised : (k : ℕ) (f : FunId) → slice_get members k ≡ Some f → slice_index new f.0 ≡ level
  pub others : (v : ℕ) → ((k : ℕ) (f : FunId) → slice_get members k ≡ Some f → f.0 ≡ v → ⊥)
      → slice_index new v ≡ slice_index old v

-- a row collects a function of a rank
pub record Collects (ranks : List ℕ) (row : List Mention) (rank f : ℕ) : Type 0 where
  pub place : ℕ
  pub mention : Mention
  pub is_there : slice_get row place ≡ Some mention
  pub collected : mention.collected ≡ true
  pub function : mention.function.0 ≡ f
  pub is_rank : slice_get ranks f ≡ Some rank

-- a set call whose two functions have a rank
pub record IsCall (g : MentionRows) (ranks : List ℕ) (r : ℕ) (call : Call) : Type 0 where
  pub mention : Mention
  pub mentioned : Mentioned g call.caller mention
  pub collected : mention.collected ≡ true
  pub function : mention.function.0 ≡ call.collected
  pub caller_rank : slice_get ranks call.caller ≡ Some r
  pub collected_rank : slice_get ranks call.collected ≡ Some r

-- for each rank such a call of one of the first functions, where there is one
pub record AreCalls (g : MentionRows) (ranks : List ℕ) (count n : ℕ)
    (calls : List (Option Call)) : Type 0 where
  pub sized : length calls ≡ count
  pub some : (r : ℕ) (call : Call) → slice_get calls r ≡ Some (Some call) → IsCall g ranks r call
  pub none : (u r : ℕ) (m : Mention) → u < n → Mentioned g u m → m.collected ≡ true
      → slice_get ranks u ≡ Some r
      → slice_get ranks m.function.0 ≡ Some r → slice_get calls r ≡ Some None → ⊥

-- the first function whose rank has a call
pub record IsFirstCall (ranks : List ℕ) (calls : List (Option Call)) (first : ℕ)
    (call : Call) : Type 0 where
  pub rank : ℕ
  pub is_rank : slice_get ranks first ≡ Some rank
  pub is_call : slice_get calls rank ≡ Some (Some call)
  pub before : (f r : ℕ) → f < first → slice_get ranks f ≡ Some r → slice_get calls r ≡ Some None

-- a walk from a function to a caller, and from what it collects back
pub record IsCycleOf (g : Graph) (first caller collected : ℕ) (cycle : List FunId) : Type 0 where
  pub prefix : List FunId
  pub suffix : List FunId
  pub to : Steps g first prefix caller
  pub from : Steps g collected suffix first
  pub whole : cycle ≡ prefix ++ record { 0 = caller } ∷ suffix

-- each demand fits below a bound
abbrev pub AreBelow : ℕ → List ℕ → Type 0
AreBelow bound levels = (v : ℕ) → slice_index levels v ≤ bound
