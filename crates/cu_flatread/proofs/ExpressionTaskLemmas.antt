-- What each task of expressions reads, by the cell that comes first and what follows it.
use Rattle.std.proofs.Common.{◌≡◌, ℕ, zero, suc, pred, ◌≤◌, ◌<◌, Bool, true, false, List, [], ◌∷◌, ◌++◌, Result, Ok, Err, codes, length, reverse, refl, sym, ap, ◌∙◌, arith}
use Rattle.std.specs.List.{AllByRecursion}
use Rattle.cu_calculus.specs.declared.Mode.{Mode}
use Rattle.cu_flatread.proofs.DecimalLemmas.{given, given_is}
use Rattle.cu_flatread.proofs.ExpressionShorter.{branch_shorter, expression_shorter, kind_shorter, literal_shorter}
use Rattle.cu_flatread.proofs.ListLemmas.{joined-joined}
use Rattle.cu_flatread.proofs.RoomLemmas.{fit_room}
use Rattle.cu_flatread.proofs.ShorterLemmas.{entity_shorter, number_shorter, one_of_shorter, one_of_strict, word_shorter}
use Rattle.cu_flatread.proofs.SoundLemmas.{bound, goes_on_sound}
use Rattle.cu_flatread.specs.Inside.ExpressionTasks.{Label, OfBranch, OfCase, OfComb, OfFree, OfLet, OfLiteral, OfMore, OfOr, OfVar, branch_labels, element_opening, following_tasks, labels, list_labels, opened, opening_at, opening_of_form, pattern_labels, tasks_at}
use Rattle.cu_flatread.specs.Inside.Expressions.{all_branches, all_expressions, branch_at, branch_pattern_at, expression_at, expression_of_form, expression_words, kind_at, mode_words, pattern_at}
use Rattle.cu_flatread.specs.Inside.Names.{entity_at}
use Rattle.cu_flatread.specs.Inside.Numbers.{literal_at, number_at}
use Rattle.cu_flatread.specs.Inside.Words.{Read, ◌>>=◌, after_word, begins, goes_on, is_at, joined, list_after, more_elements, one_of, one_of_words}
use Rattle.cu_flatread.specs.Modules as m
use Rattle.cu_flatread.specs.Modules.{Expression, Pattern}
use Rattle.cu_flatread.specs.Notation.{Entity}
use Rattle.cu_flatread.specs.declared.cells.CombKind.{CombKind}
use Rattle.cu_flatread.specs.declared.expressions.Following.{Following}
use Rattle.cu_flatread.specs.declared.expressions.Following.TheVariants as follow
use Rattle.cu_flatread.specs.declared.expressions.Form.{Form}
use Rattle.cu_flatread.specs.declared.expressions.Form.TheVariants as form
use Rattle.cu_flatread.specs.declared.expressions.ListOf.{ListOf}
use Rattle.cu_flatread.specs.declared.expressions.ListOf.TheVariants as of
use Rattle.cu_flatread.specs.declared.expressions.Task.{Task}
use Rattle.cu_flatread.specs.declared.expressions.Task.TheVariants as task
use Rattle.cu_flatread.specs.declared.mark.Mark.TheVariants as mark

-- what is made of an expression before what tasks read
then_tasks : List Task → Expression Entity × List ℕ → Read (List Label)
then_tasks tasks t = joined (labels t.0) (tasks_at tasks t.1)

-- a cell, and what is read by the tasks that follow it
abbrev pub follows : ℕ → List Task → (Label × Following) × List ℕ → Read (List Label)
follows inner tasks o =
    joined (o.0.0 ∷ []) (tasks_at (reverse (following_tasks inner o.0.1) ++ tasks) o.1)

-- what is read, or the fault
cases : {A P : Type 0} (m : Result A ℕ) → ((x : A) → m ≡ Ok x → P)
    → ((n : ℕ) → m ≡ Err n → P) → P
cases (Ok x) f g = f x refl
cases (Err n) f g = g n refl

bool_cases : {P : Type 0} (t : Bool) → (t ≡ true → P) → (t ≡ false → P) → P
bool_cases true f g = f refl
bool_cases false f g = g refl

-- ---- a form with a list

comb_list : (tasks : List Task) (kind : CombKind) (e : Entity)
    (read : Read (List (Expression Entity)))
    → ((read >>= λ ts. given (m.Comb kind e (all_expressions ts.0)) ts.1) >>= then_tasks tasks)
    ≡ joined (OfComb kind e ∷ []) (read
    >>= λ ts. joined (list_labels (all_expressions ts.0)) (tasks_at tasks ts.1))
unfolding then_tasks
comb_list tasks kind e (Ok ts) =
    sym (joined-joined (OfComb kind e ∷ []) (list_labels (all_expressions ts.0)) (tasks_at tasks ts.1))
comb_list tasks kind e (Err left) = refl

-- ---- forms of two expressions

-- how the cells of a form of two expressions are made
abbrev IsPair : Label → (Expression Entity → Expression Entity → Expression Entity) → Type 0
IsPair c make = (a b : Expression Entity) → labels (make a b) ≡ c ∷ (labels a ++ labels b)

pair_end : (c : Label) (make : Expression Entity → Expression Entity → Expression Entity)
    → IsPair c make → (tasks : List Task) (a b : Expression Entity) (read : Result (List ℕ) ℕ)
    → ((read >>= λ rest. given (make a b) rest) >>= then_tasks tasks)
    ≡ joined (c ∷ []) (joined (labels a) (joined (labels b) (read >>= λ rest. tasks_at tasks rest)))
unfolding then_tasks
pair_end c make is tasks a b (Ok rest) =
    ap (λ ls. joined ls (tasks_at tasks rest)) (is a b)
    ∙ sym (ap (joined (c ∷ [])) (joined-joined (labels a) (labels b) (tasks_at tasks rest))
    ∙ joined-joined (c ∷ []) (labels a ++ labels b) (tasks_at tasks rest))
pair_end c make is tasks a b (Err left) = refl

pair_second : (c : Label) (make : Expression Entity → Expression Entity → Expression Entity)
    → IsPair c make → (tasks : List Task) (a : Expression Entity) (read : Read (Expression Entity))
    → ((read >>= λ b. after_word (codes ")") b.1 >>= λ rest. given (make a b.0) rest)
    >>= then_tasks tasks)
    ≡ joined (c ∷ []) (joined (labels a) (read
    >>= λ b. joined (labels b.0) (after_word (codes ")") b.1 >>= λ rest. tasks_at tasks rest)))
pair_second c make is tasks a (Ok b) = pair_end c make is tasks a b.0 (after_word (codes ")") b.1)
pair_second c make is tasks a (Err left) = refl

pair_between : (c : Label) (make : Expression Entity → Expression Entity → Expression Entity)
    → IsPair c make → (inner : List ℕ → Read (Expression Entity)) (tasks : List Task)
    (a : Expression Entity) (read : Result (List ℕ) ℕ)
    → ((read >>= λ r. inner r >>= λ b. after_word (codes ")") b.1
    >>= λ rest. given (make a b.0) rest) >>= then_tasks tasks)
    ≡ joined (c ∷ []) (joined (labels a) (read >>= λ r. inner r
    >>= λ b. joined (labels b.0) (after_word (codes ")") b.1 >>= λ rest. tasks_at tasks rest)))
pair_between c make is inner tasks a (Ok r) = pair_second c make is tasks a (inner r)
pair_between c make is inner tasks a (Err left) = refl

pair_first : (c : Label) (make : Expression Entity → Expression Entity → Expression Entity)
    → IsPair c make → (word : List ℕ) (inner : List ℕ → Read (Expression Entity))
    (tasks : List Task) (read : Read (Expression Entity))
    → ((read >>= λ a. after_word word a.1 >>= λ r. inner r
    >>= λ b. after_word (codes ")") b.1 >>= λ rest. given (make a.0 b.0) rest)
    >>= then_tasks tasks)
    ≡ joined (c ∷ []) (read >>= λ a. joined (labels a.0) (after_word word a.1 >>= λ r. inner r
    >>= λ b. joined (labels b.0) (after_word (codes ")") b.1 >>= λ rest. tasks_at tasks rest)))
pair_first c make is word inner tasks (Ok a) =
    pair_between c make is inner tasks a.0 (after_word word a.1)
pair_first c make is word inner tasks (Err left) = refl

-- ---- a form of one expression

free_end : (tasks : List Task) (x : ℕ) (a : Expression Entity) (read : Result (List ℕ) ℕ)
    → ((read >>= λ rest. given (m.Free x a) rest) >>= then_tasks tasks)
    ≡ joined (OfFree x ∷ []) (joined (labels a) (read >>= λ rest. tasks_at tasks rest))
unfolding then_tasks
free_end tasks x a (Ok rest) = sym (joined-joined (OfFree x ∷ []) (labels a) (tasks_at tasks rest))
free_end tasks x a (Err left) = refl

free_first : (tasks : List Task) (x : ℕ) (read : Read (Expression Entity))
    → ((read >>= λ a. after_word (codes ")") a.1 >>= λ rest. given (m.Free x a.0) rest)
    >>= then_tasks tasks)
    ≡ joined (OfFree x ∷ []) (read
    >>= λ a. joined (labels a.0) (after_word (codes ")") a.1 >>= λ rest. tasks_at tasks rest))
free_first tasks x (Ok a) = free_end tasks x a.0 (after_word (codes ")") a.1)
free_first tasks x (Err left) = refl

-- ---- a form with branches

case_list : (tasks : List Task) (mode : Mode) (a : Expression Entity)
    (read : Read (List (Pattern Entity × Expression Entity)))
    → ((read >>= λ bs. given (m.Case mode a (all_branches bs.0)) bs.1) >>= then_tasks tasks)
    ≡ joined (OfCase mode ∷ []) (joined (labels a) (read
    >>= λ bs. joined (branch_labels (all_branches bs.0)) (tasks_at tasks bs.1)))
unfolding then_tasks
case_list tasks mode a (Ok bs) =
    sym (ap (joined (OfCase mode ∷ []))
    (joined-joined (labels a) (branch_labels (all_branches bs.0)) (tasks_at tasks bs.1))
    ∙ joined-joined (OfCase mode ∷ []) (labels a ++ branch_labels (all_branches bs.0))
    (tasks_at tasks bs.1))
case_list tasks mode a (Err left) = refl

case_between : (inner : List ℕ → Read (Expression Entity)) (tasks : List Task) (mode : Mode)
    (a : Expression Entity) (read : Result (List ℕ) ℕ)
    → ((read >>= λ r. list_after (branch_at inner) r
    >>= λ bs. given (m.Case mode a (all_branches bs.0)) bs.1) >>= then_tasks tasks)
    ≡ joined (OfCase mode ∷ []) (joined (labels a) (read >>= λ r. list_after (branch_at inner) r
    >>= λ bs. joined (branch_labels (all_branches bs.0)) (tasks_at tasks bs.1)))
case_between inner tasks mode a (Ok r) = case_list tasks mode a (list_after (branch_at inner) r)
case_between inner tasks mode a (Err left) = refl

case_first : (inner : List ℕ → Read (Expression Entity)) (tasks : List Task) (mode : Mode)
    (read : Read (Expression Entity))
    → ((read >>= λ a. after_word (codes ") [") a.1 >>= λ r. list_after (branch_at inner) r
    >>= λ bs. given (m.Case mode a.0 (all_branches bs.0)) bs.1) >>= then_tasks tasks)
    ≡ joined (OfCase mode ∷ []) (read >>= λ a. joined (labels a.0) (after_word (codes ") [") a.1
    >>= λ r. list_after (branch_at inner) r
    >>= λ bs. joined (branch_labels (all_branches bs.0)) (tasks_at tasks bs.1)))
case_first inner tasks mode (Ok a) =
    case_between inner tasks mode a.0 (after_word (codes ") [") a.1)
case_first inner tasks mode (Err left) = refl

abbrev failed : ℕ → Read (List Label)
failed n = Err n

-- ---- each form

form_law : (inner : ℕ) (f : Form) (tasks : List Task) (bytes : List ℕ)
    → (expression_of_form (expression_at inner) f bytes >>= then_tasks tasks)
    ≡ (opening_of_form f bytes >>= follows inner tasks)
unfolding expression_of_form tasks_at then_tasks
form_law inner form.Var tasks bytes =
    cases (number_at bytes) (λ x e. rw e refl) (λ n e. rw e refl)
form_law inner form.Literal tasks bytes =
    cases (literal_at bytes)
    (λ l e. cases (after_word (codes ")") l.1) (λ r e2. rw (e, e2) refl) (λ n e2. rw (e, e2) refl))
    (λ n e. rw e refl)
form_law inner form.Comb tasks bytes =
    cases (kind_at bytes)
    (λ k e. cases (entity_at k.1)
    (λ x e2. cases (after_word (codes " [") x.1)
    (λ r e3. rw (e, e2, e3) (comb_list tasks k.0 x.0 (list_after (expression_at inner) r)))
    (λ n e3. rw (e, e2, e3) refl))
    (λ n e2. rw (e, e2) refl))
    (λ n e. rw e refl)
form_law inner form.Let tasks bytes =
    cases (number_at bytes)
    (λ x e. cases (after_word (codes ",") x.1)
    (λ r e2.
    rw (e, e2)
    (pair_first (OfLet x.0) (λ a b. m.Let x.0 a b) (λ a b. refl) (codes ")] (")
    (expression_at inner) tasks (expression_at inner r)))
    (λ n e2. rw (e, e2) refl))
    (λ n e. rw e refl)
form_law inner form.Free tasks bytes =
    cases (number_at bytes)
    (λ x e. cases (after_word (codes "] (") x.1)
    (λ r e2. rw (e, e2) (free_first tasks x.0 (expression_at inner r)))
    (λ n e2. rw (e, e2) refl))
    (λ n e. rw e refl)
form_law inner form.Or tasks bytes =
    pair_first OfOr (λ a b. m.Or a b) (λ a b. refl) (codes ") (") (expression_at inner) tasks
    (expression_at inner bytes)
form_law inner form.Case tasks bytes =
    cases (one_of mode_words bytes)
    (λ mode e. rw e (case_first (expression_at inner) tasks mode.0 (expression_at inner mode.1)))
    (λ n e. rw e refl)

found_law : (inner : ℕ) (tasks : List Task) (read : Read Form)
    → ((read >>= λ f. expression_of_form (expression_at inner) f.0 f.1) >>= then_tasks tasks)
    ≡ ((read >>= λ f. opening_of_form f.0 f.1) >>= follows inner tasks)
found_law inner tasks (Ok f) = form_law inner f.0 tasks f.1
found_law inner tasks (Err n) = refl

nothing_found : (bytes : List ℕ) (tasks : List Task)
    → failed (length bytes)
    ≡ ((one_of {X = Form} [] bytes >>= λ f. opening_of_form f.0 f.1) >>= follows 0 tasks)
unfolding one_of_words
nothing_found bytes tasks = refl

pub expression_law : (depth : ℕ) (tasks : List Task) (bytes : List ℕ)
    → tasks_at (task.Expression depth ∷ tasks) bytes
    ≡ (opening_at depth bytes >>= follows (pred depth) tasks)
unfolding tasks_at expression_at opening_at then_tasks
expression_law zero tasks bytes = nothing_found bytes tasks
expression_law (suc depth) tasks bytes =
    found_law depth tasks (one_of (expression_words (suc depth)) bytes)

-- ---- lists of arguments

more_list : (tasks : List Task) (t : Expression Entity) (read : Read (List (Expression Entity)))
    → (joined (t ∷ []) read
    >>= λ ts. joined (list_labels (all_expressions ts.0)) (tasks_at tasks ts.1))
    ≡ joined (OfMore ∷ []) (joined (labels t) (read
    >>= λ ts. joined (list_labels (all_expressions ts.0)) (tasks_at tasks ts.1)))
more_list tasks t (Ok ts) =
    sym (ap (joined (OfMore ∷ []))
    (joined-joined (labels t) (list_labels (all_expressions ts.0)) (tasks_at tasks ts.1))
    ∙ joined-joined (OfMore ∷ []) (labels t ++ list_labels (all_expressions ts.0))
    (tasks_at tasks ts.1))
more_list tasks t (Err left) = refl

first_element : (depth : ℕ) (tasks : List Task) (read : Read (Expression Entity))
    → ((read >>= λ x. joined (x.0 ∷ []) (more_elements (expression_at depth) (length x.1) x.1))
    >>= λ ts. joined (list_labels (all_expressions ts.0)) (tasks_at tasks ts.1))
    ≡ joined (OfMore ∷ []) (read
    >>= λ t. joined (labels t.0) (more_elements (expression_at depth) (length t.1) t.1
    >>= λ ts. joined (list_labels (all_expressions ts.0)) (tasks_at tasks ts.1)))
first_element depth tasks (Ok x) =
    more_list tasks x.0 (more_elements (expression_at depth) (length x.1) x.1)
first_element depth tasks (Err left) = refl

-- ---- lists of branches

more_branches : (tasks : List Task) (p : Pattern Entity) (t : Expression Entity)
    (read : Read (List (Pattern Entity × Expression Entity)))
    → (joined ((p, t) ∷ []) read
    >>= λ bs. joined (branch_labels (all_branches bs.0)) (tasks_at tasks bs.1))
    ≡ joined (OfBranch ∷ []) (joined (pattern_labels p) (joined (labels t) (read
    >>= λ bs. joined (branch_labels (all_branches bs.0)) (tasks_at tasks bs.1))))
more_branches tasks p t (Ok bs) =
    let others = branch_labels (all_branches bs.0) in
    let read = tasks_at tasks bs.1 in
    sym (ap (λ (r : Read (List Label)). joined (OfBranch ∷ []) (joined (pattern_labels p) r))
    (joined-joined (labels t) others read)
    ∙ ap (joined (OfBranch ∷ [])) (joined-joined (pattern_labels p) (labels t ++ others) read)
    ∙ joined-joined (OfBranch ∷ []) (pattern_labels p ++ (labels t ++ others)) read)
more_branches tasks p t (Err left) = refl

-- the branches after one that is read
abbrev others_after : ℕ → List Task → List ℕ → Read (List Label)
others_after depth tasks rest =
    more_elements (branch_at (expression_at depth)) (length rest) rest
    >>= λ bs. joined (branch_labels (all_branches bs.0)) (tasks_at tasks bs.1)

first_branch : (depth : ℕ) (tasks : List Task) (bytes : List ℕ)
    → ((branch_at (expression_at depth) bytes
    >>= λ x. joined (x.0 ∷ []) (more_elements (branch_at (expression_at depth)) (length x.1) x.1))
    >>= λ bs. joined (branch_labels (all_branches bs.0)) (tasks_at tasks bs.1))
    ≡ joined (OfBranch ∷ []) (branch_pattern_at bytes
    >>= λ p. joined (pattern_labels p.0) (expression_at depth p.1
    >>= λ t. joined (labels t.0) (after_word (codes ")") t.1
    >>= λ rest. others_after depth tasks rest)))
unfolding branch_at branch_pattern_at
first_branch depth tasks bytes =
    cases (after_word (codes "Branch (") bytes)
    (λ a e. cases (pattern_at a)
    (λ p e2. cases (after_word (codes ") (") p.1)
    (λ b e3. cases (expression_at depth b)
    (λ t e4. cases (after_word (codes ")") t.1)
    (λ rest e5.
    rw (e, e2, e3, e4, e5)
    (more_branches tasks p.0 t.0
    (more_elements (branch_at (expression_at depth)) (length rest) rest)))
    (λ n e5. rw (e, e2, e3, e4, e5) refl))
    (λ n e4. rw (e, e2, e3, e4) refl))
    (λ n e3. rw (e, e2, e3) refl))
    (λ n e2. rw (e, e2) refl))
    (λ n e. rw e refl)

-- ---- lists

-- what the first element of a list leads to, or its end
abbrev pub elements_by : ListOf → Read Bool → Read (Label × Following)
elements_by list read =
    read >>= λ more. Ok (opened [] (element_opening list more.0), more.1)

pub first_law : (list : ListOf) (depth : ℕ) (tasks : List Task) (bytes : List ℕ)
    → tasks_at (task.First list depth ∷ tasks) bytes
    ≡ (elements_by list (begins bytes) >>= follows depth tasks)
unfolding tasks_at list_after begins
first_law of.Arguments depth tasks bytes =
    bool_cases (is_at 93 bytes)
    (λ h. cases (after_word (codes "]") bytes) (λ r e. rw (h, e) refl) (λ n e. rw (h, e) refl))
    (λ h. rw h (first_element depth tasks (expression_at depth bytes)))
first_law of.Branches depth tasks bytes =
    bool_cases (is_at 93 bytes)
    (λ h. cases (after_word (codes "]") bytes) (λ r e. rw (h, e) refl) (λ n e. rw (h, e) refl))
    (λ h. rw h (first_branch depth tasks bytes))

pub next_law : (list : ListOf) (depth : ℕ) (tasks : List Task) (bytes : List ℕ)
    → tasks_at (task.Next list depth ∷ tasks) bytes
    ≡ (elements_by list (goes_on bytes) >>= follows depth tasks)
unfolding tasks_at more_elements
next_law of.Arguments depth tasks [] = refl
next_law of.Arguments depth tasks (b ∷ bytes) =
    cases (goes_on (b ∷ bytes)) (λ more e. by more.0 more.1 e) (λ n e. rw e refl)
  where
    by : (more : Bool) (rest : List ℕ) → goes_on (b ∷ bytes) ≡ given more rest
        → tasks_at (task.Next of.Arguments depth ∷ tasks) (b ∷ bytes)
        ≡ (elements_by of.Arguments (goes_on (b ∷ bytes)) >>= follows depth tasks)
    by true rest e =
        let took = goes_on_sound (b ∷ bytes) rest true e in
        rw e
        (ap (λ (read : Read (List (Expression Entity))).
        read >>= λ ts. joined (list_labels (all_expressions ts.0)) (tasks_at tasks ts.1))
        (fit_room (expression_at depth) (expression_shorter depth) (length bytes) rest
        (expression_at depth rest) refl (omega (arith, ap length took)))
        ∙ first_element depth tasks (expression_at depth rest))
    by false rest e = rw e refl
next_law of.Branches depth tasks [] = refl
next_law of.Branches depth tasks (b ∷ bytes) =
    cases (goes_on (b ∷ bytes)) (λ more e. by more.0 more.1 e) (λ n e. rw e refl)
  where
    by : (more : Bool) (rest : List ℕ) → goes_on (b ∷ bytes) ≡ given more rest
        → tasks_at (task.Next of.Branches depth ∷ tasks) (b ∷ bytes)
        ≡ (elements_by of.Branches (goes_on (b ∷ bytes)) >>= follows depth tasks)
    by true rest e =
        let took = goes_on_sound (b ∷ bytes) rest true e in
        rw e
        (ap (λ (read : Read (List (Pattern Entity × Expression Entity))).
        read >>= λ bs. joined (branch_labels (all_branches bs.0)) (tasks_at tasks bs.1))
        (fit_room (branch_at (expression_at depth))
        (branch_shorter (expression_at depth) (expression_shorter depth)) (length bytes) rest
        (branch_at (expression_at depth) rest) refl (omega (arith, ap length took)))
        ∙ first_branch depth tasks rest)
    by false rest e = rw e refl

-- ---- a word was read

expression_words_some : (depth : ℕ)
    → AllByRecursion (λ (w : List ℕ × Form). 0 < length w.0) (expression_words depth)
expression_words_some zero = tt
expression_words_some (suc zero) = (omega arith, (omega arith, (omega arith, tt)))
expression_words_some (suc (suc depth)) = (
  omega arith,
  (
    omega arith,
    (
      omega arith,
      (
        omega arith,
        (
          omega arith,
          (
            omega arith,
            (omega arith, tt),
          ),
        ),
      ),
    ),
  ),
)

pub expression_word_shorter : (depth : ℕ) (bytes rest : List ℕ) (f : Form)
    → one_of (expression_words depth) bytes ≡ given f rest → length rest < length bytes
expression_word_shorter depth bytes rest f e =
    one_of_strict (expression_words depth) bytes (length bytes) f rest (expression_words_some depth)
    e

-- ---- the beginning of an expression takes bytes

form_shorter : (f : Form) (bytes rest : List ℕ) (p : Label × Following)
    → opening_of_form f bytes ≡ given p rest → length rest ≤ length bytes
form_shorter form.Var bytes rest p e =
    let x = bound (number_at bytes) _ (p, rest) e in
    let same = given_is (OfVar x.0.0, follow.Nothing) p x.0.1 rest x.2 in
    omega (arith, number_shorter bytes x.0.0 x.0.1 x.1, ap length same.1)
form_shorter form.Literal bytes rest p e =
    let l = bound (literal_at bytes) _ (p, rest) e in
    let r = bound (after_word (codes ")") l.0.1) _ (p, rest) l.2 in
    let same = given_is (OfLiteral l.0.0, follow.Nothing) p r.0 rest r.2 in
    omega (
      arith,
      literal_shorter bytes l.0.0 l.0.1 l.1,
      word_shorter (codes ")") l.0.1 r.0 r.1,
      ap length same.1,
    )
form_shorter form.Comb bytes rest p e =
    let k = bound (kind_at bytes) _ (p, rest) e in
    let x = bound (entity_at k.0.1) _ (p, rest) k.2 in
    let r = bound (after_word (codes " [") x.0.1) _ (p, rest) x.2 in
    let same = given_is (OfComb k.0.0 x.0.0, follow.Arguments) p r.0 rest r.2 in
    omega (
      arith,
      kind_shorter bytes k.0.0 k.0.1 k.1,
      entity_shorter k.0.1 x.0.0 x.0.1 x.1,
      word_shorter (codes " [") x.0.1 r.0 r.1,
      ap length same.1,
    )
form_shorter form.Let bytes rest p e =
    let x = bound (number_at bytes) _ (p, rest) e in
    let r = bound (after_word (codes ",") x.0.1) _ (p, rest) x.2 in
    let same = given_is (OfLet x.0.0, follow.Two mark.Body) p r.0 rest r.2 in
    omega (
      arith,
      number_shorter bytes x.0.0 x.0.1 x.1,
      word_shorter (codes ",") x.0.1 r.0 r.1,
      ap length same.1,
    )
form_shorter form.Free bytes rest p e =
    let x = bound (number_at bytes) _ (p, rest) e in
    let r = bound (after_word (codes "] (") x.0.1) _ (p, rest) x.2 in
    let same = given_is (OfFree x.0.0, follow.One) p r.0 rest r.2 in
    omega (
      arith,
      number_shorter bytes x.0.0 x.0.1 x.1,
      word_shorter (codes "] (") x.0.1 r.0 r.1,
      ap length same.1,
    )
form_shorter form.Or bytes rest p e =
    let same = given_is (OfOr, follow.Two mark.Between) p bytes rest e in
    omega (arith, ap length same.1)
form_shorter form.Case bytes rest p e =
    let mode = bound (one_of mode_words bytes) _ (p, rest) e in
    let same = given_is (OfCase mode.0.0, follow.Branches) p mode.0.1 rest mode.2 in
    omega (
      arith,
      one_of_shorter mode_words bytes (length bytes) mode.0.0 mode.0.1 mode.1,
      ap length same.1,
    )

pub opening_shorter : (depth : ℕ) (bytes rest : List ℕ) (p : Label × Following)
    → opening_at depth bytes ≡ given p rest → length rest < length bytes
unfolding opening_at
opening_shorter depth bytes rest p e =
    let f = bound (one_of (expression_words depth) bytes) _ (p, rest) e in
    omega (
      arith,
      expression_word_shorter depth bytes f.0.1 f.0.0 f.1,
      form_shorter f.0.0 f.0.1 rest p f.2,
    )
