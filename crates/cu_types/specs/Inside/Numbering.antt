-- Numbering the variables of a type: a walk with a stack of its own, in which each type of a table
-- is made once.
use Rattle.std.specs.Prelude.{◌≡◌, ℕ, ◌+◌, ◌*◌, ◌<◌, ◌++◌, List, [], ◌∷◌, Option, Some, IsTrue, cond, drop, length, map, nat_eq, slice_get, take, ◌-◌}
use Rattle.indexmap.specs.IndexMap.{get}
use Rattle.cu_calculus.specs.Valid.{holds}
use Rattle.cu_kernel.specs.TypeExpr.{TypeExpr}
use Rattle.cu_types.specs.Inside.Cycles.{size}
use Rattle.cu_types.specs.Inside.Reading.{HasVariables, IsReader, Reads, shapes}
use Rattle.cu_types.specs.Numbered.{all_noted, by_place, variables_in}
use Rattle.cu_types.specs.Table as shape
use Rattle.cu_types.specs.Table.{Shape, at, built, trees}
use Rattle.cu_types.specs.Types.{apply}
use Rattle.cu_types.specs.declared.node.TypeHead.{TypeHead}
use Rattle.cu_types.specs.declared.numbering.Numbering.{Numbering}
use Rattle.cu_types.specs.declared.order.Task.{Task}
use Rattle.cu_types.specs.declared.order.Task.TheVariants as task

-- the variables of the types that are still to be entered, in order
abbrev pub pending : List TypeExpr → List Task → List ℕ
pending ts [] = []
pending ts (task.Enter p ∷ tasks) = variables_in (at ts p) ++ pending ts tasks
pending ts (task.Leave p ∷ tasks) = pending ts tasks

-- Once the tasks are done, the type at one place is made, and no other. To enter a place is to make
-- its type, and to leave one is to make its type of those that were made last.
abbrev pub Makes : List Shape → ℕ → List Task → List ℕ → Type 0
Makes ss root [] stack = stack ≡ root ∷ []
Makes ss root (task.Enter p ∷ tasks) stack = Makes ss root tasks (stack ++ p ∷ [])
Makes ss root (task.Leave p ∷ tasks) stack =
    (head : TypeHead) × (arguments : List ℕ) × (rest : List ℕ)
    × (slice_get ss p ≡ Some (shape.Applied head arguments))
    × (stack ≡ rest ++ arguments) × Makes ss root tasks (rest ++ p ∷ [])

-- the tasks are at places below n
abbrev pub AreTasks : ℕ → List Task → Type 0
AreTasks n [] = Unit {0}
AreTasks n (task.Enter p ∷ tasks) = (p < n) × AreTasks n tasks
AreTasks n (task.Leave p ∷ tasks) = (p < n) × AreTasks n tasks

-- each of these variables is in the list, in which its place is its number
abbrev pub AreNoted : List ℕ → List ℕ → Type 0
AreNoted ks [] = Unit {0}
AreNoted ks (v ∷ vs) = IsTrue (holds v ks) × AreNoted ks vs

-- the type at place p was made with its variables numbered, and stands at place m
pub record IsMade (ts : List TypeExpr) (final ks : List ℕ) (made : List Shape)
    (p m : ℕ) : Type 0 where
  pub within : m < length made
  pub value : at (trees made) m ≡ apply (by_place final) (at ts p)
  pub numbers : AreNoted ks (variables_in (at ts p))

-- P holds of each pair of elements of two lists, which have equally many
abbrev pub AllMade : (ℕ → ℕ → Type 0) → List ℕ → List ℕ → Type 0
AllMade P [] [] = Unit {0}
AllMade P [] (m ∷ ms) = ⊥
AllMade P (p ∷ ps) [] = ⊥
AllMade P (p ∷ ps) (m ∷ ms) = P p m × AllMade P ps ms

-- once the tasks are done, the type at the root is made, with the final numbers
pub record IsNumbering (ss : List Shape) (root : ℕ) (final : List ℕ) (find : ℕ → Option ℕ)
    (made : List Shape)
    (known : ℕ → Option ℕ) (ks places : List ℕ) (tasks : List Task) : Type 0 where
  pub variables : HasVariables find made
  pub keys : all_noted ks (pending (trees ss) tasks) ≡ final
  pub within : AreTasks (length ss) tasks
  pub stack : List ℕ
  pub makes : Makes ss root tasks stack
  pub are : AllMade (IsMade (trees ss) final ks made) stack places
  pub seen : (p m : ℕ) → known p ≡ Some m → IsMade (trees ss) final ks made p m

-- a numbering has come so far that these tasks, once done, make the type at the root
abbrev pub Goes : List Shape → ℕ → List ℕ → Numbering → List Task → Type 0
Goes ss root final n tasks =
    IsNumbering ss root final (get nat_eq n.made.variables) (shapes n.made)
    (get nat_eq n.known) n.variables.keys n.places.items tasks

-- the effort of a task: to enter a type is to enter and to leave each type in it
abbrev pub effort : List TypeExpr → Task → ℕ
effort ts (task.Enter p) = 2 * size (at ts p)
effort ts (task.Leave p) = 1

abbrev pub efforts : List TypeExpr → List Task → ℕ
efforts ts [] = 0
efforts ts (t ∷ tasks) = effort ts t + efforts ts tasks

-- a task leaves these tasks, whose effort is less
pub record Proceeds (ss : List Shape) (root : ℕ) (final : List ℕ) (n : Numbering)
    (was tasks : List Task) : Type 0 where
  pub goes : Goes ss root final n tasks
  pub nearer : efforts (trees ss) tasks < efforts (trees ss) was

-- a type was made, and its place comes last of the places
pub record Pushes (before after : Numbering) (prefix : List ℕ) (t : TypeExpr) : Type 0 where
  pub place : ℕ
  pub reader : IsReader after.made
  pub reads : Reads (shapes before.made) (shapes after.made) t place
  pub pushed : after.places.items ≡ prefix ++ place ∷ []

-- the type at a place was made of the types that were made last, `count` of them
pub record Joins (before after : Numbering) (p : ℕ) (h : TypeHead) (count : ℕ) : Type 0 where
  pub pushes : Pushes before after (take (length before.places.items - count) before.places.items)
      (built h (map (at (trees (shapes before.made)))
      (drop (length before.places.items - count) before.places.items)))
  pub known : (q : ℕ) → get nat_eq after.known q
      ≡ cond (nat_eq p q) (Some pushes.place) (get nat_eq before.known q)
  pub keys : after.variables.keys ≡ before.variables.keys
