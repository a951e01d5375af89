-- Dependency groups: functions that mention each other, by themselves or by way of others, and the
-- order in which groups come after those that they mention.
use Rattle.std.specs.Prelude.{◌≡◌, ◌↔◌, ℕ, ◌<◌, ◌⊎◌, IsTrue, List, [], ◌∷◌, Some, length, map, slice_get, take}
use Rattle.std.specs.declared.alloc.Global.{Global}
use Rattle.std.specs.declared.vec.Vec.{Vec}
use Rattle.cu_calculus.specs.Program.{Program}
use Rattle.cu_calculus.specs.declared.FunId.{FunId}
use Rattle.cu_kernel.specs.Captures.{are_rising}
use Rattle.cu_lift.specs.Walks.{AreConnected, Mentions}

abbrev pub IsIn : {A : Type 0} → List A → A → Type 0
IsIn xs x = (k : ℕ) × (slice_get xs k ≡ Some x)

abbrev pub IsFunction : Program → FunId → Type 0
IsFunction program f = f.0 < length program.functions

-- the places of functions in their program
abbrev pub numbers : List FunId → List ℕ
numbers fs = map (λ f. f.0) fs

-- A class of mutual recursion, in program order.
pub record IsGroup (program : Program) (group : List FunId) : Type 0 where
  pub some : (f : FunId) × IsIn group f
  pub rising : IsTrue (are_rising (numbers group))
  pub exact : (f g : FunId) → IsIn group f
      → IsIn group g ↔ (IsFunction program g × AreConnected program f g)

-- one of these groups has the function
abbrev pub IsPlaced : List (List FunId) → FunId → Type 0
IsPlaced groups f = (group : List FunId) × IsIn groups group × IsIn group f

-- What the functions of a group mention is in the group, or placed.
abbrev pub IsReady : Program → List (List FunId) → List FunId → Type 0
IsReady program placed group = (f g : FunId) → IsIn group f → Mentions program f g
    → IsIn group g ⊎ IsPlaced placed g

-- the first function of a group
abbrev pub first_of : List FunId → ℕ
first_of [] = 0
first_of (f ∷ fs) = f.0

-- All groups, each after those that it mentions. Of the groups that are ready the one comes next
-- whose first function comes first.
pub record AreGroups (program : Program) (groups : List (List FunId)) : Type 0 where
  pub each : (k : ℕ) (group : List FunId) → slice_get groups k ≡ Some group → IsGroup program group
  pub every : (f : FunId) → IsFunction program f → IsPlaced groups f
  pub once : (j k : ℕ) (group : List FunId) → slice_get groups j ≡ Some group
      → slice_get groups k ≡ Some group → j ≡ k
  pub ready : (k : ℕ) (group : List FunId) → slice_get groups k ≡ Some group
      → IsReady program (take k groups) group
  pub next : (j k : ℕ) (group later : List FunId) → slice_get groups j ≡ Some group
      → slice_get groups k ≡ Some later → j < k
      → IsReady program (take j groups) later → first_of group < first_of later

-- the functions of each row
abbrev pub lists_of : List (Vec FunId Global) → List (List FunId)
lists_of rows = map (λ row. row.items) rows
