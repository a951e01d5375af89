-- What each task of types reads, by the tasks that it leaves.
use Rattle.std.proofs.Common.{◌≡◌, ℕ, zero, suc, pred, ◌-◌, true, false, List, [], ◌∷◌, ◌++◌, Result, Ok, Err, codes, length, refl, sym, ap, ◌∙◌, arith}
use Rattle.cu_flatread.proofs.DecimalLemmas.{given}
use Rattle.cu_flatread.proofs.ListLemmas.{joined-joined}
use Rattle.cu_flatread.proofs.RoomLemmas.{fit_room}
use Rattle.cu_flatread.proofs.ShorterLemmas.{type_shorter}
use Rattle.cu_flatread.proofs.SoundLemmas.{goes_on_sound}
use Rattle.cu_flatread.specs.Inside.Names.{entity_at}
use Rattle.cu_flatread.specs.Inside.Numbers.{number_at}
use Rattle.cu_flatread.specs.Inside.TypeTasks.{Label, OfArrow, OfEnd, OfMore, OfNamed, OfVariable, labels, list_labels, tasks_at}
use Rattle.cu_flatread.specs.Inside.Types.{all_types, type_at, type_of_form, type_words}
use Rattle.cu_flatread.specs.Inside.Words.{Read, ◌>>=◌, after_word, goes_on, is_at, joined, list_after, more_elements, one_of, one_of_words}
use Rattle.cu_flatread.specs.Modules as m
use Rattle.cu_flatread.specs.Modules.{TypeExpression}
use Rattle.cu_flatread.specs.Notation.{Entity}
use Rattle.cu_flatread.specs.declared.mark.Mark.TheVariants as mark
use Rattle.cu_flatread.specs.declared.types.Task.{Task}
use Rattle.cu_flatread.specs.declared.types.Task.TheVariants as task
use Rattle.cu_flatread.specs.declared.types.TypeForm.{TypeForm}
use Rattle.cu_flatread.specs.declared.types.TypeForm.TheVariants as form

-- ---- the form of a type

-- no word is read where there is none
one_of_none : (bytes rest : List ℕ) (f : TypeForm)
    → one_of {X = TypeForm} [] bytes ≡ given f rest → ⊥
unfolding one_of_words
one_of_none bytes rest f e = cc

-- a type that isn't read
abbrev failed : ℕ → Read (TypeExpression Entity)
failed left = Err left

one_of_nothing : (bytes : List ℕ) (left : ℕ) → one_of {X = TypeForm} [] bytes ≡ Err left
    → failed (length bytes) ≡ failed left
unfolding one_of_words
one_of_nothing bytes left e = let is : length bytes ≡ left = cc in ap failed is

pub type_found : (depth : ℕ) (bytes rest : List ℕ) (f : TypeForm)
    → one_of (type_words depth) bytes ≡ given f rest
    → type_at depth bytes ≡ type_of_form (type_at (pred depth)) f rest
unfolding type_at
type_found zero bytes rest f e = let no : ⊥ = one_of_none bytes rest f e in absurd no
type_found (suc depth) bytes rest f e = rw e refl

pub type_not_found : (depth : ℕ) (bytes : List ℕ) (left : ℕ)
    → one_of (type_words depth) bytes ≡ Err left → type_at depth bytes ≡ Err left
unfolding type_at
type_not_found zero bytes left e = one_of_nothing bytes left e
type_not_found (suc depth) bytes left e = rw e refl

-- ---- what follows it

-- what is made of a type before what tasks read
then_tasks : List Task → TypeExpression Entity × List ℕ → Read (List Label)
then_tasks tasks t = joined (labels t.0) (tasks_at tasks t.1)

arrow_end : (tasks : List Task) (a b : TypeExpression Entity) (read : Result (List ℕ) ℕ)
    → ((read >>= λ rest. given (m.Arrow a b) rest) >>= then_tasks tasks)
    ≡ joined (OfArrow ∷ []) (joined (labels a) (joined (labels b) (read >>= λ rest. tasks_at tasks rest)))
unfolding then_tasks
arrow_end tasks a b (Ok rest) =
    sym (ap (joined (OfArrow ∷ [])) (joined-joined (labels a) (labels b) (tasks_at tasks rest))
    ∙ joined-joined (OfArrow ∷ []) (labels a ++ labels b) (tasks_at tasks rest))
arrow_end tasks a b (Err left) = refl

arrow_second : (tasks : List Task) (a : TypeExpression Entity) (read : Read (TypeExpression Entity))
    → ((read >>= λ b. after_word (codes ")") b.1 >>= λ rest. given (m.Arrow a b.0) rest)
    >>= then_tasks tasks)
    ≡ joined (OfArrow ∷ []) (joined (labels a) (read
    >>= λ b. joined (labels b.0) (after_word (codes ")") b.1 >>= λ rest. tasks_at tasks rest)))
arrow_second tasks a (Ok b) = arrow_end tasks a b.0 (after_word (codes ")") b.1)
arrow_second tasks a (Err left) = refl

arrow_between : (inner : List ℕ → Read (TypeExpression Entity)) (tasks : List Task)
    (a : TypeExpression Entity) (read : Result (List ℕ) ℕ)
    → ((read >>= λ r. inner r >>= λ b. after_word (codes ")") b.1
    >>= λ rest. given (m.Arrow a b.0) rest) >>= then_tasks tasks)
    ≡ joined (OfArrow ∷ []) (joined (labels a) (read >>= λ r. inner r
    >>= λ b. joined (labels b.0) (after_word (codes ")") b.1 >>= λ rest. tasks_at tasks rest)))
arrow_between inner tasks a (Ok r) = arrow_second tasks a (inner r)
arrow_between inner tasks a (Err left) = refl

arrow_first : (inner : List ℕ → Read (TypeExpression Entity)) (tasks : List Task)
    (read : Read (TypeExpression Entity))
    → ((read >>= λ a. after_word (codes ") (") a.1 >>= λ r. inner r
    >>= λ b. after_word (codes ")") b.1 >>= λ rest. given (m.Arrow a.0 b.0) rest)
    >>= then_tasks tasks)
    ≡ joined (OfArrow ∷ []) (read >>= λ a. joined (labels a.0) (after_word (codes ") (") a.1
    >>= λ r. inner r
    >>= λ b. joined (labels b.0) (after_word (codes ")") b.1 >>= λ rest. tasks_at tasks rest)))
arrow_first inner tasks (Ok a) = arrow_between inner tasks a.0 (after_word (codes ") (") a.1)
arrow_first inner tasks (Err left) = refl

named_list : (tasks : List Task) (e : Entity) (read : Read (List (TypeExpression Entity)))
    → ((read >>= λ ts. given (m.Named e (all_types ts.0)) ts.1) >>= then_tasks tasks)
    ≡ joined (OfNamed e ∷ []) (read
    >>= λ ts. joined (list_labels (all_types ts.0)) (tasks_at tasks ts.1))
unfolding then_tasks
named_list tasks e (Ok ts) =
    sym (joined-joined (OfNamed e ∷ []) (list_labels (all_types ts.0)) (tasks_at tasks ts.1))
named_list tasks e (Err left) = refl

-- ---- lists

more_list : (tasks : List Task) (t : TypeExpression Entity)
    (read : Read (List (TypeExpression Entity)))
    → (joined (t ∷ []) read >>= λ ts. joined (list_labels (all_types ts.0)) (tasks_at tasks ts.1))
    ≡ joined (OfMore ∷ []) (joined (labels t) (read
    >>= λ ts. joined (list_labels (all_types ts.0)) (tasks_at tasks ts.1)))
more_list tasks t (Ok ts) =
    sym (ap (joined (OfMore ∷ []))
    (joined-joined (labels t) (list_labels (all_types ts.0)) (tasks_at tasks ts.1))
    ∙ joined-joined (OfMore ∷ []) (labels t ++ list_labels (all_types ts.0)) (tasks_at tasks ts.1))
more_list tasks t (Err left) = refl

first_element : (depth : ℕ) (tasks : List Task) (read : Read (TypeExpression Entity))
    → ((read >>= λ x. joined (x.0 ∷ []) (more_elements (type_at depth) (length x.1) x.1))
    >>= λ ts. joined (list_labels (all_types ts.0)) (tasks_at tasks ts.1))
    ≡ joined (OfMore ∷ []) (read >>= λ t. joined (labels t.0) (more_elements (type_at depth) (length t.1) t.1
    >>= λ ts. joined (list_labels (all_types ts.0)) (tasks_at tasks ts.1)))
first_element depth tasks (Ok x) =
    more_list tasks x.0 (more_elements (type_at depth) (length x.1) x.1)
first_element depth tasks (Err left) = refl

-- ---- tasks

pub type_stops : (depth : ℕ) (tasks : List Task) (bytes : List ℕ) (left : ℕ)
    → one_of (type_words depth) bytes ≡ Err left
    → tasks_at (task.Type depth ∷ tasks) bytes ≡ Err left
unfolding tasks_at
type_stops depth tasks bytes left e = rw (type_not_found depth bytes left e) refl

pub variable_task : (depth : ℕ) (tasks : List Task) (bytes r rest : List ℕ) (n : ℕ)
    → one_of (type_words depth) bytes ≡ given form.Variable r → number_at r ≡ given n rest
    → tasks_at (task.Type depth ∷ tasks) bytes ≡ joined (OfVariable n ∷ []) (tasks_at tasks rest)
unfolding tasks_at type_of_form
variable_task depth tasks bytes r rest n found number =
    rw (type_found depth bytes r form.Variable found, number) refl

pub variable_stops : (depth : ℕ) (tasks : List Task) (bytes r : List ℕ) (left : ℕ)
    → one_of (type_words depth) bytes ≡ given form.Variable r → number_at r ≡ Err left
    → tasks_at (task.Type depth ∷ tasks) bytes ≡ Err left
unfolding tasks_at type_of_form
variable_stops depth tasks bytes r left found number =
    rw (type_found depth bytes r form.Variable found, number) refl

pub named_task : (depth : ℕ) (tasks : List Task) (bytes r s rest : List ℕ) (e : Entity)
    → one_of (type_words depth) bytes ≡ given form.Named r → entity_at r ≡ given e s
    → after_word (codes " [") s ≡ Ok rest
    → tasks_at (task.Type depth ∷ tasks) bytes
    ≡ joined (OfNamed e ∷ []) (tasks_at (task.First (pred depth) ∷ tasks) rest)
unfolding tasks_at type_of_form then_tasks
named_task depth tasks bytes r s rest e found entity bracket =
    rw (type_found depth bytes r form.Named found, entity, bracket)
    (named_list tasks e (list_after (type_at (pred depth)) rest))

pub entity_stops : (depth : ℕ) (tasks : List Task) (bytes r : List ℕ) (left : ℕ)
    → one_of (type_words depth) bytes ≡ given form.Named r → entity_at r ≡ Err left
    → tasks_at (task.Type depth ∷ tasks) bytes ≡ Err left
unfolding tasks_at type_of_form
entity_stops depth tasks bytes r left found entity =
    rw (type_found depth bytes r form.Named found, entity) refl

pub bracket_stops : (depth : ℕ) (tasks : List Task) (bytes r s : List ℕ) (e : Entity) (left : ℕ)
    → one_of (type_words depth) bytes ≡ given form.Named r → entity_at r ≡ given e s
    → after_word (codes " [") s ≡ Err left → tasks_at (task.Type depth ∷ tasks) bytes ≡ Err left
unfolding tasks_at type_of_form
bracket_stops depth tasks bytes r s e left found entity bracket =
    rw (type_found depth bytes r form.Named found, entity, bracket) refl

pub first_empty : (depth : ℕ) (tasks : List Task) (bytes rest : List ℕ)
    → is_at 93 bytes ≡ true → after_word (codes "]") bytes ≡ Ok rest
    → tasks_at (task.First depth ∷ tasks) bytes ≡ joined (OfEnd ∷ []) (tasks_at tasks rest)
unfolding tasks_at list_after
first_empty depth tasks bytes rest empty end = rw (empty, end) refl

pub first_some : (depth : ℕ) (tasks : List Task) (bytes : List ℕ) → is_at 93 bytes ≡ false
    → tasks_at (task.First depth ∷ tasks) bytes
    ≡ joined (OfMore ∷ []) (tasks_at (task.Type depth ∷ task.Next depth ∷ tasks) bytes)
unfolding tasks_at list_after
first_some depth tasks bytes some = rw some (first_element depth tasks (type_at depth bytes))

pub next_end : (depth : ℕ) (tasks : List Task) (bytes rest : List ℕ)
    → goes_on bytes ≡ given false rest
    → tasks_at (task.Next depth ∷ tasks) bytes ≡ joined (OfEnd ∷ []) (tasks_at tasks rest)
unfolding tasks_at more_elements
next_end depth tasks [] rest e = let no : ⊥ = cc in absurd no
next_end depth tasks (b ∷ bytes) rest e = rw e refl

pub next_stops : (depth : ℕ) (tasks : List Task) (bytes : List ℕ) (left : ℕ)
    → goes_on bytes ≡ Err left → tasks_at (task.Next depth ∷ tasks) bytes ≡ Err left
unfolding tasks_at more_elements
next_stops depth tasks [] left e = let is : 0 ≡ left = cc in ap (λ n. Err n) is
next_stops depth tasks (b ∷ bytes) left e = rw e refl

pub next_more : (depth : ℕ) (tasks : List Task) (bytes rest : List ℕ)
    → goes_on bytes ≡ given true rest
    → tasks_at (task.Next depth ∷ tasks) bytes
    ≡ joined (OfMore ∷ []) (tasks_at (task.Type depth ∷ task.Next depth ∷ tasks) rest)
unfolding tasks_at more_elements
next_more depth tasks [] rest e = let no : ⊥ = cc in absurd no
next_more depth tasks (b ∷ bytes) rest e =
    let took = goes_on_sound (b ∷ bytes) rest true e in
    rw e
    (ap (λ (read : Read (List (TypeExpression Entity))).
    read >>= λ ts. joined (list_labels (all_types ts.0)) (tasks_at tasks ts.1))
    (fit_room (type_at depth) (type_shorter depth) (length bytes) rest (type_at depth rest) refl
    (omega (arith, ap length took)))
    ∙ first_element depth tasks (type_at depth rest))

pub arrow_task : (depth : ℕ) (tasks : List Task) (bytes r : List ℕ)
    → one_of (type_words depth) bytes ≡ given form.Arrow r
    → tasks_at (task.Type depth ∷ tasks) bytes
    ≡ joined (OfArrow ∷ [])
    (tasks_at (task.Type (pred depth) ∷ task.Mark mark.Between ∷ task.Type (pred depth)
    ∷ task.Mark mark.Close ∷ tasks) r)
unfolding tasks_at type_of_form then_tasks
arrow_task depth tasks bytes r found =
    rw (type_found depth bytes r form.Arrow found)
    (arrow_first (type_at (pred depth)) tasks (type_at (pred depth) r))

pub pred_is : (depth i : ℕ) → i ≡ depth - 1 → pred depth ≡ i
pred_is zero i is = omega (arith, is)
pred_is (suc depth) i is = omega (arith, is)

pub first_stops : (depth : ℕ) (tasks : List Task) (bytes : List ℕ) (left : ℕ)
    → is_at 93 bytes ≡ true → after_word (codes "]") bytes ≡ Err left
    → tasks_at (task.First depth ∷ tasks) bytes ≡ Err left
unfolding tasks_at list_after
first_stops depth tasks bytes left empty end = rw (empty, end) refl
