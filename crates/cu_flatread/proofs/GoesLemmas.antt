-- Laws on tasks of types: what each step leaves gives what was left.
use Rattle.std.proofs.Common.{◌≡◌, ℕ, ◌+◌, List, [], ◌∷◌, ◌++◌, All, IfErr, OnOk, Result, Ok, Err, IsErrAnd, codes, length, map, reverse, refl, sym, ap, subst, ◌∙◌, arith, append-nil}
use Rattle.std.proofs.lemmas.List.{map_push, reverse-append}
use Rattle.std.proofs.lemmas.List.Elements.{recursion_from_All}
use Rattle.cu_names.specs.Texts.{Extends}
use Rattle.cu_flatread.proofs.DecimalLemmas.{given, given_is}
use Rattle.cu_flatread.proofs.KeptLemmas.{all_has, entity_has, entity_kept, map_kept}
use Rattle.cu_flatread.proofs.ListLemmas.{joined-joined}
use Rattle.cu_flatread.proofs.SoundLemmas.{bound}
use Rattle.cu_flatread.specs.Inside.TypeTasks.{Goes, HasCell, Label, OfNamed, cells_at, label, labels, list_labels, tasks_at, weight, weights}
use Rattle.cu_flatread.specs.FlatText.{most_nested}
use Rattle.cu_flatread.specs.Inside.Types.{all_types, type_at, types_at}
use Rattle.cu_flatread.specs.Inside.Words.{Fails, Passes, Read, ◌>>=◌, after_word, joined, list_after, list_at, mark_text}
use Rattle.cu_flatread.specs.Modules.{TypeExpression}
use Rattle.cu_flatread.specs.Notation.{Entity}
use Rattle.cu_flatread.specs.declared.cells.TypeCell.{TypeCell}
use Rattle.cu_flatread.specs.declared.cells.TypeCell.TheVariants as type
use Rattle.cu_flatread.specs.declared.mark.Mark.{Mark}
use Rattle.cu_flatread.specs.declared.stop.Stop.{Stop}
use Rattle.cu_flatread.specs.declared.stop.Stop.TheVariants as stop
use Rattle.cu_flatread.specs.declared.types.Task.{Task}
use Rattle.cu_flatread.specs.declared.types.Task.TheVariants as task

-- an error that is handed on
pub goes_err : {X : Type 0} (result : Result X Stop) (e : Stop) (names : List (List ℕ))
    (cells cells2 : List TypeCell) (tasks tasks2 : List Task) (bytes rest : List ℕ)
    → IsErrAnd result (λ s. s ≡ e) → Fails e (tasks_at tasks bytes)
    → Goes result names cells tasks bytes cells2 tasks2 rest
goes_err (Ok x) e names cells cells2 tasks tasks2 bytes rest is fails = absurd is
goes_err (Err (stop.At left)) e names cells cells2 tasks tasks2 bytes rest is fails =
    subst (λ (s : Stop). Fails s (tasks_at tasks bytes)) (sym is) fails
goes_err (Err stop.NoMemory) e names cells cells2 tasks tasks2 bytes rest is fails = tt

-- a cell was added, and tasks
pub goes_cell : (names : List (List ℕ)) (cells cells2 : List TypeCell) (c : TypeCell)
    (tasks tasks2 now : List Task) (bytes rest : List ℕ) → cells2 ≡ cells ++ c ∷ []
    → reverse tasks2 ≡ now
    → tasks_at tasks bytes ≡ joined (label names c ∷ []) (tasks_at now rest)
    → cells_at names cells2 (reverse tasks2) rest ≡ cells_at names cells tasks bytes
goes_cell names cells cells2 c tasks tasks2 now bytes rest is turned so =
    ap (λ ts. joined (map (label names) cells2) (tasks_at ts rest)) turned
    ∙ ap (λ cs. joined (map (label names) cs) (tasks_at now rest)) is
    ∙ ap (λ ls. joined ls (tasks_at now rest)) (map_push (label names) cells c)
    ∙ sym (joined-joined (map (label names) cells) (label names c ∷ []) (tasks_at now rest))
    ∙ sym (ap (joined (map (label names) cells)) so)

-- tasks that were pushed come first
pub pushed_one : (tasks : List Task) (a : Task) → reverse (tasks ++ a ∷ []) ≡ a ∷ reverse tasks
pushed_one tasks a = reverse-append tasks (a ∷ [])

pub pushed_two : (tasks : List Task) (a b : Task)
    → reverse ((tasks ++ a ∷ []) ++ b ∷ []) ≡ b ∷ a ∷ reverse tasks
pushed_two tasks a b =
    pushed_one (tasks ++ a ∷ []) b ∙ ap (λ ts. b ∷ ts) (pushed_one tasks a)

pub pushed_four : (tasks : List Task) (a b c d : Task)
    → reverse ((((tasks ++ a ∷ []) ++ b ∷ []) ++ c ∷ []) ++ d ∷ [])
    ≡ d ∷ c ∷ b ∷ a ∷ reverse tasks
pushed_four tasks a b c d =
    pushed_two ((tasks ++ a ∷ []) ++ b ∷ []) c d
    ∙ ap (λ ts. d ∷ c ∷ ts) (pushed_two tasks a b)

pub weights_push : (tasks : List Task) (a : Task)
    → weights (tasks ++ a ∷ []) ≡ weights tasks + weight a
weights_push [] a = omega arith
weights_push (t ∷ tasks) a = omega (arith, weights_push tasks a)

-- ---- names

pub label_kept : (old new : List (List ℕ)) (c : TypeCell) → Extends old new → HasCell old c
    → label new c ≡ label old c
label_kept old new (type.Named e) more has = ap (λ x. OfNamed x) (entity_kept old new e more has)
label_kept old new (type.Variable x) more has = refl
label_kept old new type.Arrow more has = refl
label_kept old new type.More more has = refl
label_kept old new type.End more has = refl

pub cell_has : (old new : List (List ℕ)) (c : TypeCell) → Extends old new → HasCell old c
    → HasCell new c
cell_has old new (type.Named e) more has = entity_has old new e more has
cell_has old new (type.Variable x) more has = has
cell_has old new type.Arrow more has = has
cell_has old new type.More more has = has
cell_has old new type.End more has = has

pub labels_kept : (old new : List (List ℕ)) (cells : List TypeCell) → Extends old new
    → All (HasCell old) cells → map (label new) cells ≡ map (label old) cells
labels_kept old new cells more has =
    map_kept (label new) (label old) (HasCell old) cells (λ c. label_kept old new c more)
    (recursion_from_All (HasCell old) cells has)

pub cells_have : (old new : List (List ℕ)) (cells : List TypeCell) → Extends old new
    → All (HasCell old) cells → All (HasCell new) cells
cells_have old new cells more =
    all_has (HasCell old) (HasCell new) cells (λ c. cell_has old new c more)

-- a task was done
pub goes_on_with : (old new : List (List ℕ)) (cells cells2 : List TypeCell)
    (tasks popped tasks2 : List Task) (t : Task) (bytes rest : List ℕ) (whole : Read (List Label))
    → tasks ≡ popped ++ t ∷ [] → Extends old new → All (HasCell old) cells
    → cells_at new cells2 (reverse tasks2) rest ≡ cells_at new cells (t ∷ reverse popped) bytes
    → cells_at old cells (reverse tasks) bytes ≡ whole
    → cells_at new cells2 (reverse tasks2) rest ≡ whole
goes_on_with old new cells cells2 tasks popped tasks2 t bytes rest whole is more has step so =
    step
    ∙ ap (λ ls. joined ls (tasks_at (t ∷ reverse popped) bytes)) (labels_kept old new cells more has)
    ∙ ap (λ ts. joined (map (label old) cells) (tasks_at ts bytes))
    (sym (ap reverse is ∙ pushed_one popped t)) ∙ so

-- ---- one task alone

pub type_alone : (depth : ℕ) (bytes rest : List ℕ) (ls : List Label)
    → tasks_at (task.Type depth ∷ []) bytes ≡ given ls rest
    → (t : TypeExpression Entity) × (type_at depth bytes ≡ given t rest) × (ls ≡ labels t)
unfolding tasks_at
type_alone depth bytes rest ls e =
    let t = bound (type_at depth bytes) _ (ls, rest) e in
    let same = given_is (labels t.0.0 ++ []) ls t.0.1 rest t.2 in
    (t.0.0, t.1 ∙ ap (given t.0.0) same.1, sym same.0 ∙ append-nil (labels t.0.0))

pub list_alone : (depth : ℕ) (bytes rest : List ℕ) (ls : List Label)
    → tasks_at (task.First depth ∷ []) bytes ≡ given ls rest
    → (ts : List (TypeExpression Entity)) × (list_after (type_at depth) bytes ≡ given ts rest)
    × (ls ≡ list_labels (all_types ts))
unfolding tasks_at
list_alone depth bytes rest ls e =
    let ts = bound (list_after (type_at depth) bytes) _ (ls, rest) e in
    let same = given_is (list_labels (all_types ts.0.0) ++ []) ls ts.0.1 rest ts.2 in (
      ts.0.0,
      ts.1 ∙ ap (given ts.0.0) same.1,
      sym same.0 ∙ append-nil (list_labels (all_types ts.0.0)),
    )

type_failed : (read : Read (TypeExpression Entity)) (left : ℕ)
    → (read >>= λ t. joined (labels t.0) (Ok ([], t.1))) ≡ Err left → read ≡ Err left
type_failed (Ok t) left e = let no : ⊥ = cc in absurd no
type_failed (Err l) left e = let is : l ≡ left = cc in ap (λ n. Err n) is

pub type_alone_stops : (depth : ℕ) (bytes : List ℕ) (left : ℕ)
    → tasks_at (task.Type depth ∷ []) bytes ≡ Err left → type_at depth bytes ≡ Err left
unfolding tasks_at
type_alone_stops depth bytes left e = type_failed (type_at depth bytes) left e

list_failed : (read : Read (List (TypeExpression Entity))) (left : ℕ)
    → (read >>= λ ts. joined (list_labels (all_types ts.0)) (Ok ([], ts.1))) ≡ Err left
    → read ≡ Err left
list_failed (Ok t) left e = let no : ⊥ = cc in absurd no
list_failed (Err l) left e = let is : l ≡ left = cc in ap (λ n. Err n) is

pub list_alone_stops : (depth : ℕ) (bytes : List ℕ) (left : ℕ)
    → tasks_at (task.First depth ∷ []) bytes ≡ Err left
    → list_after (type_at depth) bytes ≡ Err left
unfolding tasks_at
list_alone_stops depth bytes left e = list_failed (list_after (type_at depth) bytes) left e

-- ---- results that aren't taken apart

pub on_ok : {T E : Type 0} (result : Result T E) {P Q : Type 0} → OnOk result P → (P → Q)
    → OnOk result Q
on_ok (Ok x) holds so = so holds
on_ok (Err e) holds so = tt

-- a cell and tasks were pushed, where memory didn't run out
pub pushed_goes : (result : Result (Unit {0}) Stop) (names : List (List ℕ))
    (cells cells2 : List TypeCell) (c : TypeCell) (tasks tasks2 pushed now : List Task)
    (bytes rest : List ℕ) → OnOk result (cells2 ≡ cells ++ c ∷ [])
    → OnOk result (tasks2 ≡ pushed) → IfErr result (λ s. s ≡ stop.NoMemory)
    → reverse pushed ≡ now
    → tasks_at tasks bytes ≡ joined (label names c ∷ []) (tasks_at now rest)
    → Goes result names cells tasks bytes cells2 tasks2 rest
pushed_goes (Ok x) names cells cells2 c tasks tasks2 pushed now bytes rest added on err turned so =
    goes_cell names cells cells2 c tasks tasks2 now bytes rest added (ap reverse on ∙ turned) so
pushed_goes (Err s) names cells cells2 c tasks tasks2 pushed now bytes rest added on err turned so =
    goes_err {X = Unit {0}} (Err s) stop.NoMemory names cells cells2 tasks tasks2 bytes rest err tt

-- a mark was passed
pub mark_goes : (result : Result (Unit {0}) Stop) (names : List (List ℕ)) (cells : List TypeCell)
    (m : Mark) (tasks : List Task) (bytes rest word : List ℕ) → word ≡ mark_text m
    → Passes result rest (after_word word bytes)
    → Goes result names cells (task.Mark m ∷ reverse tasks) bytes cells tasks rest
unfolding tasks_at
mark_goes (Ok x) names cells m tasks bytes rest word is passes =
    let passed : after_word (mark_text m) bytes ≡ Ok rest =
    subst (λ w. after_word w bytes ≡ Ok rest) is passes in
    rw passed refl
mark_goes (Err (stop.At left)) names cells m tasks bytes rest word is passes =
    let stopped : after_word (mark_text m) bytes ≡ Err left =
    subst (λ w. after_word w bytes ≡ Err left) is passes in
    rw stopped refl
mark_goes (Err stop.NoMemory) names cells m tasks bytes rest word is passes = tt

-- ---- lists of types

pub types_done : (bytes r rest : List ℕ) (ts : List (TypeExpression Entity))
    → after_word (codes "[") bytes ≡ Ok r → list_after (type_at most_nested) r ≡ given ts rest
    → types_at bytes ≡ given (all_types ts) rest
unfolding types_at list_at
types_done bytes r rest ts bracket list = rw (bracket, list) refl

pub types_no_bracket : (bytes : List ℕ) (left : ℕ) → after_word (codes "[") bytes ≡ Err left
    → types_at bytes ≡ Err left
unfolding types_at list_at
types_no_bracket bytes left bracket = rw bracket refl

pub types_no_list : (bytes r : List ℕ) (left : ℕ) → after_word (codes "[") bytes ≡ Ok r
    → list_after (type_at most_nested) r ≡ Err left → types_at bytes ≡ Err left
unfolding types_at list_at
types_no_list bytes r left bracket list = rw (bracket, list) refl

pub no_items : {A : Type 0} (xs : List A) → length xs ≡ 0 → xs ≡ []
no_items [] e = refl
no_items (x ∷ xs) e = absurd (omega (arith, e))

-- no task is left
pub all_done : (names : List (List ℕ)) (cells : List TypeCell) (tasks : List Task)
    (rest : List ℕ) (whole : Read (List Label)) → length tasks ≡ 0
    → cells_at names cells (reverse tasks) rest ≡ whole
    → whole ≡ given (map (label names) cells) rest
unfolding tasks_at
all_done names cells tasks rest whole none so =
    sym so ∙ ap (λ ts. cells_at names cells (reverse ts) rest) (no_items tasks none)
    ∙ ap (λ ls. given ls rest) (append-nil (map (label names) cells))
