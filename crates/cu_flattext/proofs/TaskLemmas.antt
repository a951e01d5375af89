-- Tasks that were taken from the end of a list, one at a time.
use Rattle.std.proofs.Common.{◌≡◌, ℕ, List, [], ◌∷◌, ◌++◌, reverse, ap, sym, ◌∙◌, append_assoc}
use Rattle.std.proofs.lemmas.List.{reverse-append}
use Rattle.cu_flattext.specs.Inside.InferredTasks.{inferred_left, inferred_parts}
use Rattle.cu_flattext.specs.Inside.Stands.{lowered_of, numbers_of}
use Rattle.cu_flattext.specs.Inside.Tasks.{Writes, all_parts, left_of}
use Rattle.cu_flattext.specs.Inside.TypeTasks.{type_parts, types_left}
use Rattle.cu_flattext.specs.declared.expressions.Expressions.{Expressions}
use Rattle.cu_flattext.specs.declared.inferred.InferredTask.{InferredTask}
use Rattle.cu_flattext.specs.declared.inferred.InferredType.{InferredType}
use Rattle.cu_flattext.specs.declared.task.Task.{Task}
use Rattle.cu_flattext.specs.declared.type_task.TypeTask.{TypeTask}
use Rattle.cu_flattext.specs.declared.types.Types.{Types}

last_first : {A : Type 0} → (all others : List A) (last : A) → all ≡ others ++ last ∷ [] → reverse all ≡ last ∷ reverse others
last_first all others last is = ap reverse is ∙ reverse-append others (last ∷ [])

-- what was written of the first part of what is left was written of all of it
writes_after : (old left new now rest : List ℕ) → Writes old left new now → Writes old (left ++ rest) new (now ++ rest)
writes_after old left new now rest h =
    sym (append_assoc new now rest) ∙ ap (λ text. text ++ rest) h ∙ append_assoc old left rest

-- nothing is left of expressions where there is no task
nothing_left : (s : Expressions) → s.tasks.items ≡ [] → left_of s ≡ []
nothing_left s none = ap (λ ts. all_parts (lowered_of s.wording) s.wording.flat.now (reverse ts) s.next (numbers_of s.numbers)) none

-- and of types
no_types_left : (s : Types) → s.tasks.items ≡ [] → types_left s ≡ []
no_types_left s none = ap (λ ts. type_parts (lowered_of s.wording) s.scopes.items (reverse ts)) none

-- a task of types was written
pub types_popped : (expressions : Expressions) (before : Types) (tasks : List TypeTask) (after : Types) (t : TypeTask) (old new rest : List ℕ)
    → expressions.tasks.items ≡ [] → before.tasks.items ≡ tasks ++ t ∷ []
    → Writes old (type_parts (lowered_of before.wording) before.scopes.items (t ∷ reverse tasks)) new (types_left after)
    → Writes old (left_of expressions ++ (types_left before ++ rest)) new (left_of expressions ++ (types_left after ++ rest))
types_popped expressions before tasks after t old new rest none popped h =
    let first : types_left before ≡ type_parts (lowered_of before.wording) before.scopes.items (t ∷ reverse tasks) =
    ap (type_parts (lowered_of before.wording) before.scopes.items) (last_first before.tasks.items tasks t popped) in
    rw (nothing_left expressions none, first)
    (writes_after old (type_parts (lowered_of before.wording) before.scopes.items (t ∷ reverse tasks)) new (types_left after) rest h)

-- a task of an inferred type was written
pub inferred_popped : (expressions : Expressions) (types : Types) (before : InferredType) (tasks : List InferredTask) (after : InferredType)
    (t : InferredTask) (old new rest : List ℕ) → expressions.tasks.items ≡ [] → types.tasks.items ≡ [] → before.tasks.items ≡ tasks ++ t ∷ []
    → Writes old (inferred_parts (lowered_of before.wording) before.count before.table (t ∷ reverse tasks)) new (inferred_left after)
    → Writes old (left_of expressions ++ (types_left types ++ (inferred_left before ++ rest)))
    new (left_of expressions ++ (types_left types ++ (inferred_left after ++ rest)))
inferred_popped expressions types before tasks after t old new rest none no_types popped h =
    let parts : List InferredTask → List ℕ = λ ts. inferred_parts (lowered_of before.wording) before.count before.table ts in
    let first : inferred_left before ≡ parts (t ∷ reverse tasks) = ap parts (last_first before.tasks.items tasks t popped) in
    rw (nothing_left expressions none, no_types_left types no_types, first)
    (writes_after old (parts (t ∷ reverse tasks)) new (inferred_left after) rest h)

-- a task of expressions was written
pub expressions_popped : (before : Expressions) (tasks : List Task) (after : Expressions) (t : Task) (old new rest : List ℕ)
    → before.tasks.items ≡ tasks ++ t ∷ []
    → Writes old (all_parts (lowered_of before.wording) before.wording.flat.now (t ∷ reverse tasks) before.next (numbers_of before.numbers)) new (left_of after)
    → Writes old (left_of before ++ rest) new (left_of after ++ rest)
expressions_popped before tasks after t old new rest popped h =
    let parts : List Task → List ℕ = λ ts. all_parts (lowered_of before.wording) before.wording.flat.now ts before.next (numbers_of before.numbers) in
    let first : left_of before ≡ parts (t ∷ reverse tasks) = ap parts (last_first before.tasks.items tasks t popped) in
    rw first (writes_after old (parts (t ∷ reverse tasks)) new (left_of after) rest h)
