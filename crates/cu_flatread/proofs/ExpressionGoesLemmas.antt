-- Laws on tasks of expressions: what each step leaves gives what was left.
use Rattle.std.proofs.Common.{◌≡◌, ℕ, ◌+◌, ◌-◌, ◌≤◌, ◌<◌, Bool, true, false, List, [], ◌∷◌, ◌++◌, All, IfErr, OnOk, Result, Ok, Err, IsErrAnd, drop, get_or, length, map, reverse, take, refl, sym, ap, subst, ◌∙◌, arith, append_assoc, append-nil}
use Rattle.std.specs.List.{AllByRecursion}
use Rattle.std.proofs.lemmas.List.{map_push, reverse-append}
use Rattle.std.proofs.lemmas.List.Elements.{All-append, All-from_recursion, All-push, recursion_from_All}
use Rattle.cu_names.specs.Texts.{Extends}
use Rattle.cu_flatread.proofs.DecimalLemmas.{given, given_is}
use Rattle.cu_flatread.proofs.ExpressionTaskLemmas.{elements_by, follows}
use Rattle.cu_flatread.proofs.GoesLemmas.{no_items, on_ok}
use Rattle.cu_flatread.proofs.KeptLemmas.{all_has, entity_has, entity_kept, map_kept}
use Rattle.cu_flatread.proofs.ListLemmas.{joined-joined}
use Rattle.cu_flatread.proofs.SoundLemmas.{bound}
use Rattle.cu_flatread.specs.Cells.{spell_pattern, spell_variables}
use Rattle.cu_flatread.specs.Inside.Expressions.{branch_pattern_at, expression_at}
use Rattle.cu_flatread.specs.Inside.ExpressionTasks.{Goes, HasCell, Label, OfComb, OfPattern, cells_at, element_opening, following_tasks, label, labels, opened, pattern_labels, pattern_tree, steps_left, tasks_at, variable_labels, weights}
use Rattle.cu_flatread.specs.Inside.Words.{Fails, Passes, Read, ◌>>=◌, after_word, joined, mark_text}
use Rattle.cu_flatread.specs.Meaning.{HasPattern, pattern_of}
use Rattle.cu_flatread.specs.Modules as m
use Rattle.cu_flatread.specs.Modules.{Expression, Pattern}
use Rattle.cu_flatread.specs.Notation.{Entity}
use Rattle.cu_flatread.specs.declared.cells.ExpressionCell.{ExpressionCell}
use Rattle.cu_flatread.specs.declared.cells.ExpressionCell.TheVariants as expression
use Rattle.cu_flatread.specs.declared.cells.FlatEntity.{FlatEntity}
use Rattle.cu_flatread.specs.declared.expressions.BranchPattern.{BranchPattern}
use Rattle.cu_flatread.specs.declared.expressions.Following.{Following}
use Rattle.cu_flatread.specs.declared.expressions.Following.TheVariants as follow
use Rattle.cu_flatread.specs.declared.expressions.ListOf.{ListOf}
use Rattle.cu_flatread.specs.declared.expressions.ListOf.TheVariants as of
use Rattle.cu_flatread.specs.declared.expressions.Opening.{Opening}
use Rattle.cu_flatread.specs.declared.expressions.Task.{Task}
use Rattle.cu_flatread.specs.declared.expressions.Task.TheVariants as task
use Rattle.cu_flatread.specs.declared.mark.Mark.{Mark}
use Rattle.cu_flatread.specs.declared.stop.Stop.{Stop}
use Rattle.cu_flatread.specs.declared.stop.Stop.TheVariants as stop

-- an error that is handed on
pub goes_err : {X : Type 0} (result : Result X Stop) (e : Stop) (names : List (List ℕ))
    (cells cells2 : List ExpressionCell) (tasks tasks2 : List Task) (bytes rest : List ℕ)
    → IsErrAnd result (λ s. s ≡ e) → Fails e (tasks_at tasks bytes)
    → Goes result names cells tasks bytes cells2 tasks2 rest
goes_err (Ok x) e names cells cells2 tasks tasks2 bytes rest is fails = absurd is
goes_err (Err (stop.At left)) e names cells cells2 tasks tasks2 bytes rest is fails =
    subst (λ (s : Stop). Fails s (tasks_at tasks bytes)) (sym is) fails
goes_err (Err stop.NoMemory) e names cells cells2 tasks tasks2 bytes rest is fails = tt

-- where what a task begins with isn't read
pub opening_fails : {X : Type 0} (result : Result X Stop) (e : Stop) (names : List (List ℕ))
    (cells : List ExpressionCell) (t : Task) (old : List Task) (inner : ℕ) (bytes rest : List ℕ)
    (read : Read (Label × Following)) → IsErrAnd result (λ s. s ≡ e) → Fails e read
    → tasks_at (t ∷ reverse old) bytes ≡ (read >>= follows inner (reverse old))
    → Goes result names cells (t ∷ reverse old) bytes cells old rest
opening_fails result e names cells t old inner bytes rest read is fails law =
    goes_err result e names cells cells (t ∷ reverse old) old bytes rest is (through e fails)
  where
    through : (e : Stop) → Fails e read → Fails e (tasks_at (t ∷ reverse old) bytes)
    through (stop.At left) fails = law ∙ ap (λ r. r >>= follows inner (reverse old)) fails
    through stop.NoMemory fails = tt

-- a cell was added, and tasks
goes_cell : (names : List (List ℕ)) (cells cells2 : List ExpressionCell) (c : ExpressionCell)
    (tasks tasks2 now : List Task) (bytes rest : List ℕ) → cells2 ≡ cells ++ c ∷ []
    → reverse tasks2 ≡ now
    → tasks_at tasks bytes ≡ joined (label names c ∷ []) (tasks_at now rest)
    → cells_at names cells2 (reverse tasks2) rest ≡ cells_at names cells tasks bytes
goes_cell names cells cells2 c tasks tasks2 now bytes rest is turned so =
    ap (λ ts. joined (map (label names) cells2) (tasks_at ts rest)) turned
    ∙ ap (λ cs. joined (map (label names) cs) (tasks_at now rest)) is
    ∙ ap (λ ls. joined ls (tasks_at now rest)) (map_push (label names) cells c)
    ∙ sym (joined-joined (map (label names) cells) (label names c ∷ []) (tasks_at now rest))
    ∙ sym (ap (joined (map (label names) cells)) so)

-- a cell and what follows it were added, where memory didn't run out
pub put_goes : (result : Result (Unit {0}) Stop) (names : List (List ℕ))
    (cells cells2 : List ExpressionCell) (o : Opening) (t : Task) (old tasks2 : List Task)
    (inner : ℕ) (bytes rest : List ℕ) (read : Read (Label × Following))
    → OnOk result (cells2 ≡ cells ++ o.cell ∷ [])
    → OnOk result (tasks2 ≡ old ++ following_tasks inner o.following)
    → IfErr result (λ s. s ≡ stop.NoMemory)
    → tasks_at (t ∷ reverse old) bytes ≡ (read >>= follows inner (reverse old))
    → read ≡ given (opened names o) rest
    → Goes result names cells (t ∷ reverse old) bytes cells2 tasks2 rest
put_goes (Ok x) names cells cells2 o t old tasks2 inner bytes rest read added on err law gave =
    let following = following_tasks inner o.following in
    goes_cell names cells cells2 o.cell (t ∷ reverse old) tasks2 (reverse following ++ reverse old)
    bytes rest added (ap reverse on ∙ reverse-append old following)
    (law ∙ ap (λ r. r >>= follows inner (reverse old)) gave)
put_goes (Err s) names cells cells2 o t old tasks2 inner bytes rest read added on err law gave =
    goes_err {X = Unit {0}} (Err s) stop.NoMemory names cells cells2 (t ∷ reverse old) tasks2 bytes
    rest err tt

-- ---- patterns

map_append : {X Y : Type 0} (f : X → Y) (xs ys : List X) → map f (xs ++ ys) ≡ map f xs ++ map f ys
map_append f [] ys = refl
map_append f (x ∷ xs) ys = ap (λ zs. f x ∷ zs) (map_append f xs ys)

variables_labels : (names : List (List ℕ)) (xs : List ℕ)
    → map (label names) (spell_variables xs) ≡ variable_labels xs
variables_labels names [] = refl
variables_labels names (x ∷ xs) = ap (λ ls. label names (expression.Bound x) ∷ ls) (variables_labels names xs)

spelled_labels : (names : List (List ℕ)) (p : Pattern FlatEntity)
    → map (label names) (spell_pattern p) ≡ pattern_labels (pattern_of names p)
spelled_labels names (m.Built e xs) =
    ap (λ ls. label names (expression.Pattern e) ∷ ls) (variables_labels names xs)
spelled_labels names (m.Exactly l) = refl

variables_have : (names : List (List ℕ)) (xs : List ℕ)
    → AllByRecursion (HasCell names) (spell_variables xs)
variables_have names [] = (tt, tt)
variables_have names (x ∷ xs) = (tt, variables_have names xs)

spelled_have : (names : List (List ℕ)) (p : Pattern FlatEntity) → HasPattern names p
    → AllByRecursion (HasCell names) (spell_pattern p)
spelled_have names (m.Built e xs) has = (has, variables_have names xs)
spelled_have names (m.Exactly l) has = (tt, tt)

pub pattern_goes : (result : Result (Unit {0}) Stop) (names : List (List ℕ))
    (cells cells2 : List ExpressionCell) (p : BranchPattern) (old tasks2 : List Task)
    (bytes rest : List ℕ)
    → OnOk result (cells2 ≡ cells ++ spell_pattern (pattern_tree p))
    → OnOk result (tasks2 ≡ old) → IfErr result (λ s. s ≡ stop.NoMemory)
    → branch_pattern_at bytes ≡ given (pattern_of names (pattern_tree p)) rest
    → Goes result names cells (task.Pattern ∷ reverse old) bytes cells2 tasks2 rest
unfolding tasks_at
pattern_goes (Ok x) names cells cells2 p old tasks2 bytes rest added on err gave =
    let spelled = spell_pattern (pattern_tree p) in
    let read = tasks_at (reverse old) rest in
    ap (λ ts. joined (map (label names) cells2) (tasks_at (reverse ts) rest)) on
    ∙ ap (λ cs. joined (map (label names) cs) read) added
    ∙ ap (λ ls. joined ls read) (map_append (label names) cells spelled)
    ∙ ap (λ ls. joined (map (label names) cells ++ ls) read) (spelled_labels names (pattern_tree p))
    ∙ sym (joined-joined (map (label names) cells)
    (pattern_labels (pattern_of names (pattern_tree p))) read)
    ∙ sym (ap (λ (r : Read (Pattern Entity)). joined (map (label names) cells)
    (r >>= λ q. joined (pattern_labels q.0) (tasks_at (reverse old) q.1))) gave)
pattern_goes (Err s) names cells cells2 p old tasks2 bytes rest added on err gave =
    goes_err {X = Unit {0}} (Err s) stop.NoMemory names cells cells2 (task.Pattern ∷ reverse old)
    tasks2 bytes rest err tt

pub pattern_fails : {X : Type 0} (result : Result X Stop) (e : Stop) (names : List (List ℕ))
    (cells : List ExpressionCell) (old : List Task) (bytes rest : List ℕ)
    → IsErrAnd result (λ s. s ≡ e) → Fails e (branch_pattern_at bytes)
    → Goes result names cells (task.Pattern ∷ reverse old) bytes cells old rest
unfolding tasks_at
pattern_fails result e names cells old bytes rest is fails =
    goes_err result e names cells cells (task.Pattern ∷ reverse old) old bytes rest is
    (through e fails)
  where
    through : (e : Stop) → Fails e (branch_pattern_at bytes)
        → Fails e (tasks_at (task.Pattern ∷ reverse old) bytes)
    through (stop.At left) fails =
        ap (λ (r : Read (Pattern Entity)).
        r >>= λ q. joined (pattern_labels q.0) (tasks_at (reverse old) q.1)) fails
    through stop.NoMemory fails = tt

-- one more variable of a pattern was added
pub pushed_variable : (cells pushed : List ExpressionCell) (xs : List ℕ) (x d : ℕ)
    → 1 ≤ length xs → x ≡ get_or xs 0 d → pushed ≡ cells ++ expression.Bound x ∷ []
    → pushed ++ spell_variables (take (length xs - 1) (drop 1 xs)) ≡ cells ++ spell_variables xs
pushed_variable cells pushed [] x d some is added = absurd (omega (arith, some))
pushed_variable cells pushed (y ∷ xs) x d some is added =
    let count : length (y ∷ xs) - 1 ≡ length xs = omega arith in
    ap (λ n. pushed ++ spell_variables (take n xs)) count
    ∙ ap (λ ys. pushed ++ spell_variables ys) (take_whole xs)
    ∙ ap (λ cs. cs ++ spell_variables xs) added
    ∙ append_assoc cells (expression.Bound x ∷ []) (spell_variables xs)
    ∙ ap (λ z. cells ++ expression.Bound z ∷ spell_variables xs) is
  where
    take_whole : (ws : List ℕ) → take (length ws) ws ≡ ws
    take_whole [] = refl
    take_whole (w ∷ ws) = ap (λ us. w ∷ us) (take_whole ws)

-- ---- marks

-- a mark was passed
pub mark_goes : (result : Result (Unit {0}) Stop) (names : List (List ℕ))
    (cells : List ExpressionCell) (m : Mark) (tasks : List Task) (bytes rest word : List ℕ)
    → word ≡ mark_text m → Passes result rest (after_word word bytes)
    → Goes result names cells (task.Mark m ∷ reverse tasks) bytes cells tasks rest
unfolding tasks_at
mark_goes (Ok x) names cells m tasks bytes rest word is passes =
    let passed : after_word (mark_text m) bytes ≡ Ok rest =
    subst (λ w. after_word w bytes ≡ Ok rest) is passes in
    rw passed refl
mark_goes (Err (stop.At left)) names cells m tasks bytes rest word is passes =
    let stopped : after_word (mark_text m) bytes ≡ Err left =
    subst (λ w. after_word w bytes ≡ Err left) is passes in
    rw stopped refl
mark_goes (Err stop.NoMemory) names cells m tasks bytes rest word is passes = tt

-- ---- lists

pub element_opened : (names : List (List ℕ)) (list : ListOf) (more : Bool)
    → opened [] (element_opening list more) ≡ opened names (element_opening list more)
element_opened names of.Arguments true = refl
element_opened names of.Arguments false = refl
element_opened names of.Branches true = refl
element_opened names of.Branches false = refl

-- what was read of the beginning of an element, or of the end
pub element_gave : (names : List (List ℕ)) (list : ListOf) (more : Bool) (o : Opening)
    (read : Read Bool) (rest : List ℕ) → o ≡ element_opening list more → read ≡ given more rest
    → elements_by list read ≡ given (opened names o) rest
element_gave names list more o read rest is gave =
    ap (elements_by list) gave
    ∙ ap (λ p. given p rest)
    (element_opened names list more ∙ ap (λ z. opened names z) (sym is))

pub element_fails : (list : ListOf) (e : Stop) (read : Read Bool) → Fails e read
    → Fails e (elements_by list read)
element_fails list (stop.At left) read fails = ap (elements_by list) fails
element_fails list stop.NoMemory read fails = tt

element_has : (names : List (List ℕ)) (list : ListOf) (more : Bool)
    → HasCell names (element_opening list more).cell
element_has names of.Arguments true = tt
element_has names of.Arguments false = tt
element_has names of.Branches true = tt
element_has names of.Branches false = tt

pub element_known : (result : Result (Unit {0}) Stop) (names : List (List ℕ))
    (cells cells2 : List ExpressionCell) (list : ListOf) (more : Bool) (o : Opening)
    → o ≡ element_opening list more → OnOk result (cells2 ≡ cells ++ o.cell ∷ [])
    → OnOk result (All (HasCell names) cells → All (HasCell names) cells2)
element_known result names cells cells2 list more o same added =
    on_ok result added
    (λ is had.
    subst (All (HasCell names)) (sym is)
    (All-push (HasCell names) cells o.cell had
    (subst (λ (z : Opening). HasCell names z.cell) (sym same) (element_has names list more))))

-- ---- how many steps are left

pub weights_append : (tasks others : List Task)
    → weights (tasks ++ others) ≡ weights tasks + weights others
weights_append [] others = omega arith
weights_append (t ∷ tasks) others = omega (arith, weights_append tasks others)

following_few : (inner : ℕ) (f : Following) → weights (following_tasks inner f) ≤ 7
following_few inner follow.Nothing = omega arith
following_few inner follow.Arguments = omega arith
following_few inner follow.One = omega arith
following_few inner (follow.Two m) = omega arith
following_few inner follow.Branches = omega arith
following_few inner follow.Element = omega arith
following_few inner follow.Branch = omega arith

element_few : (inner : ℕ) (list : ListOf) (more : Bool)
    → weights (following_tasks inner (element_opening list more).following) ≤ 4
element_few inner of.Arguments true = omega arith
element_few inner of.Arguments false = omega arith
element_few inner of.Branches true = omega arith
element_few inner of.Branches false = omega arith

-- tasks were added, and bytes were read
pub fewer_after : (result : Result (Unit {0}) Stop) (t : Task) (old tasks2 : List Task)
    (inner : ℕ) (f : Following) (bytes rest : List ℕ)
    → OnOk result (tasks2 ≡ old ++ following_tasks inner f) → length rest < length bytes
    → OnOk result (steps_left tasks2 rest < steps_left (t ∷ old) bytes)
fewer_after result t old tasks2 inner f bytes rest on less =
    on_ok result on
    (λ is. omega (
      arith,
      less,
      ap weights is,
      weights_append old (following_tasks inner f),
      following_few inner f,
    ))

-- an element of a list, or its end, where no byte need be read
pub fewer_first : (result : Result (Unit {0}) Stop) (list : ListOf) (more : Bool) (o : Opening)
    (old tasks2 : List Task) (inner : ℕ) (bytes rest : List ℕ) → o ≡ element_opening list more
    → OnOk result (tasks2 ≡ old ++ following_tasks inner o.following)
    → length rest ≤ length bytes
    → OnOk result (steps_left tasks2 rest < steps_left (task.First list inner ∷ old) bytes)
fewer_first result list more o old tasks2 inner bytes rest same on less =
    on_ok result on
    (λ is. omega (
      arith,
      less,
      ap weights is,
      weights_append old (following_tasks inner o.following),
      ap (λ (z : Opening). weights (following_tasks inner z.following)) same,
      element_few inner list more,
    ))

-- ---- names

pub label_kept : (old new : List (List ℕ)) (c : ExpressionCell) → Extends old new → HasCell old c
    → label new c ≡ label old c
label_kept old new (expression.Comb kind e) more has =
    ap (λ x. OfComb kind x) (entity_kept old new e more has)
label_kept old new (expression.Pattern e) more has =
    ap (λ x. OfPattern x) (entity_kept old new e more has)
label_kept old new (expression.Var x) more has = refl
label_kept old new (expression.Literal l) more has = refl
label_kept old new (expression.Let x) more has = refl
label_kept old new (expression.Free x) more has = refl
label_kept old new expression.Or more has = refl
label_kept old new (expression.Case mode) more has = refl
label_kept old new expression.More more has = refl
label_kept old new expression.End more has = refl
label_kept old new expression.Branch more has = refl
label_kept old new expression.EndOfBranches more has = refl
label_kept old new (expression.LPattern l) more has = refl
label_kept old new (expression.Bound x) more has = refl
label_kept old new expression.EndOfVariables more has = refl

pub cell_has : (old new : List (List ℕ)) (c : ExpressionCell) → Extends old new → HasCell old c
    → HasCell new c
cell_has old new (expression.Comb kind e) more has = entity_has old new e more has
cell_has old new (expression.Pattern e) more has = entity_has old new e more has
cell_has old new (expression.Var x) more has = has
cell_has old new (expression.Literal l) more has = has
cell_has old new (expression.Let x) more has = has
cell_has old new (expression.Free x) more has = has
cell_has old new expression.Or more has = has
cell_has old new (expression.Case mode) more has = has
cell_has old new expression.More more has = has
cell_has old new expression.End more has = has
cell_has old new expression.Branch more has = has
cell_has old new expression.EndOfBranches more has = has
cell_has old new (expression.LPattern l) more has = has
cell_has old new (expression.Bound x) more has = has
cell_has old new expression.EndOfVariables more has = has

pub labels_kept : (old new : List (List ℕ)) (cells : List ExpressionCell) → Extends old new
    → All (HasCell old) cells → map (label new) cells ≡ map (label old) cells
labels_kept old new cells more has =
    map_kept (label new) (label old) (HasCell old) cells (λ c. label_kept old new c more)
    (recursion_from_All (HasCell old) cells has)

pub cells_have : (old new : List (List ℕ)) (cells : List ExpressionCell) → Extends old new
    → All (HasCell old) cells → All (HasCell new) cells
cells_have old new cells more =
    all_has (HasCell old) (HasCell new) cells (λ c. cell_has old new c more)

-- a cell was added, and the table of names may have grown
pub put_known : (result : Result (Unit {0}) Stop) (old new : List (List ℕ))
    (cells cells2 : List ExpressionCell) (o : Opening)
    → OnOk result (cells2 ≡ cells ++ o.cell ∷ []) → Extends old new → HasCell new o.cell
    → OnOk result (All (HasCell old) cells → All (HasCell new) cells2)
put_known result old new cells cells2 o added more has =
    on_ok result added
    (λ is had.
    subst (All (HasCell new)) (sym is)
    (All-push (HasCell new) cells o.cell (cells_have old new cells more had) has))

pub pattern_known : (result : Result (Unit {0}) Stop) (old new : List (List ℕ))
    (cells cells2 : List ExpressionCell) (p : Pattern FlatEntity)
    → OnOk result (cells2 ≡ cells ++ spell_pattern p) → Extends old new → HasPattern new p
    → OnOk result (All (HasCell old) cells → All (HasCell new) cells2)
pattern_known result old new cells cells2 p added more has =
    on_ok result added
    (λ is had.
    subst (All (HasCell new)) (sym is)
    (All-append (HasCell new) cells (spell_pattern p) (cells_have old new cells more had)
    (All-from_recursion (HasCell new) (spell_pattern p) (spelled_have new p has))))

-- tasks that were pushed come first
pub pushed_one : (tasks : List Task) (a : Task) → reverse (tasks ++ a ∷ []) ≡ a ∷ reverse tasks
pushed_one tasks a = reverse-append tasks (a ∷ [])

-- a task was done
pub goes_on_with : (old new : List (List ℕ)) (cells cells2 : List ExpressionCell)
    (tasks popped tasks2 : List Task) (t : Task) (bytes rest : List ℕ) (whole : Read (List Label))
    → tasks ≡ popped ++ t ∷ [] → Extends old new → All (HasCell old) cells
    → cells_at new cells2 (reverse tasks2) rest ≡ cells_at new cells (t ∷ reverse popped) bytes
    → cells_at old cells (reverse tasks) bytes ≡ whole
    → cells_at new cells2 (reverse tasks2) rest ≡ whole
goes_on_with old new cells cells2 tasks popped tasks2 t bytes rest whole is more has step so =
    step
    ∙ ap (λ ls. joined ls (tasks_at (t ∷ reverse popped) bytes)) (labels_kept old new cells more has)
    ∙ ap (λ ts. joined (map (label old) cells) (tasks_at ts bytes))
    (sym (ap reverse is ∙ pushed_one popped t)) ∙ so

-- ---- one task alone

pub expression_alone : (depth : ℕ) (bytes rest : List ℕ) (ls : List Label)
    → tasks_at (task.Expression depth ∷ []) bytes ≡ given ls rest
    → (t : Expression Entity) × (expression_at depth bytes ≡ given t rest) × (ls ≡ labels t)
unfolding tasks_at
expression_alone depth bytes rest ls e =
    let t = bound (expression_at depth bytes) _ (ls, rest) e in
    let same = given_is (labels t.0.0 ++ []) ls t.0.1 rest t.2 in
    (t.0.0, t.1 ∙ ap (given t.0.0) same.1, sym same.0 ∙ append-nil (labels t.0.0))

expression_failed : (read : Read (Expression Entity)) (left : ℕ)
    → (read >>= λ t. joined (labels t.0) (Ok ([], t.1))) ≡ Err left → read ≡ Err left
expression_failed (Ok t) left e = let no : ⊥ = cc in absurd no
expression_failed (Err l) left e = let is : l ≡ left = cc in ap (λ n. Err n) is

pub expression_alone_stops : (depth : ℕ) (bytes : List ℕ) (left : ℕ)
    → tasks_at (task.Expression depth ∷ []) bytes ≡ Err left
    → expression_at depth bytes ≡ Err left
unfolding tasks_at
expression_alone_stops depth bytes left e = expression_failed (expression_at depth bytes) left e

-- no task is left
pub all_done : (names : List (List ℕ)) (cells : List ExpressionCell) (tasks : List Task)
    (rest : List ℕ) (whole : Read (List Label)) → length tasks ≡ 0
    → cells_at names cells (reverse tasks) rest ≡ whole
    → whole ≡ given (map (label names) cells) rest
unfolding tasks_at
all_done names cells tasks rest whole none so =
    sym so ∙ ap (λ ts. cells_at names cells (reverse ts) rest) (no_items tasks none)
    ∙ ap (λ ls. given ls rest) (append-nil (map (label names) cells))
