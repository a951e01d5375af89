-- Reading a type with a stack of its own: what is still to do, and the types that were made.
use Rattle.std.specs.Prelude.{◌≡◌, ℕ, ◌+◌, ◌-◌, ◌*◌, ◌<◌, ◌≤◌, ◌++◌, List, [], ◌∷◌, Option, Some, drop, length, map, nat_eq, reverse, slice_get, take}
use Rattle.indexmap.specs.IndexMap.{get}
use Rattle.cu_kernel.specs.TypeExpr.{TypeExpr}
use Rattle.cu_kernel.specs.TypesOf.{type_of}
use Rattle.cu_types.specs.Inside.Cycles.{size}
use Rattle.cu_types.specs.Inside.Reading.{HasVariables, shapes}
use Rattle.cu_types.specs.Table.{IsFull, Shape, at, built, trees}
use Rattle.cu_types.specs.declared.node.TypeHead.{TypeHead}
use Rattle.cu_types.specs.declared.reader.Reader.{Reader}
use Rattle.cu_types.specs.declared.reading.Reading.{Reading}
use Rattle.cu_types.specs.declared.reading.Reading.TheVariants as reading

-- a step of reading: to read a type, or to apply a head to the types that were made last
pub data Step : Type 0 where
  Read : TypeExpr → Step
  Apply : TypeHead → ℕ → Step

abbrev pub step_of : Reading → Step
step_of (reading.Read t) = Read (type_of t.now)
step_of (reading.Apply h count) = Apply h count

-- the steps that tasks stand for; tasks are kept with the next one last
abbrev pub steps_of : List Reading → List Step
steps_of tasks = reverse (map step_of tasks)

-- the types that are made once the steps are done, the last one first
abbrev pub done : List Step → List TypeExpr → List TypeExpr
done [] ts = ts
done (Read t ∷ steps) ts = done steps (t ∷ ts)
done (Apply h count ∷ steps) ts = done steps (built h (take count ts) ∷ drop count ts)

-- each head that is applied finds its arguments among the types that were made
abbrev pub AreEnough : List Step → ℕ → Type 0
AreEnough [] count = Unit {0}
AreEnough (Read t ∷ steps) count = AreEnough steps (count + 1)
AreEnough (Apply h n ∷ steps) count = (n ≤ count) × IsFull h n × AreEnough steps (count - n + 1)

abbrev pub effort : Step → ℕ
effort (Read t) = 2 * size t
effort (Apply h count) = 1

abbrev pub efforts : List Step → ℕ
efforts [] = 0
efforts (s ∷ steps) = effort s + efforts steps

-- once the steps are done, this type is made
pub record IsReading (before : List Shape) (find : ℕ → Option ℕ) (ss : List Shape)
    (steps : List Step) (places : List ℕ)
    (t : TypeExpr) : Type 0 where
  pub variables : HasVariables find ss
  pub more : List Shape
  pub extends : ss ≡ before ++ more
  pub within : (k a : ℕ) → slice_get places k ≡ Some a → a < length ss
  pub enough : AreEnough steps (length places)
  pub makes : done steps (map (at (trees ss)) (reverse places)) ≡ t ∷ []

-- a step leaves these steps, which still make the type
pub record Proceeds (before : List Shape) (t : TypeExpr) (was : List Step) (find : ℕ → Option ℕ)
    (ss : List Shape) (steps : List Step)
    (places : List ℕ) : Type 0 where
  pub reading : IsReading before find ss steps places t
  pub nearer : efforts steps < efforts was

abbrev pub ReaderProceeds : List Shape → TypeExpr → List Step → Reader → List Reading → List ℕ
    → Type 0
ReaderProceeds before t was r tasks places =
    Proceeds before t was (get nat_eq r.variables) (shapes r) (steps_of tasks) places

abbrev pub ReaderReads : List Shape → TypeExpr → Reader → List Step → List ℕ → Type 0
ReaderReads before t r steps places =
    IsReading before (get nat_eq r.variables) (shapes r) steps places t
