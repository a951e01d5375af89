-- The tasks that are left while an expression is written, and the texts that they come to.
use Rattle.std.specs.Prelude.{Option, None, Some, codes, length, ◌≡◌, ℕ, ◌+◌, List, [], ◌∷◌, ◌++◌, map, reverse}
use Rattle.cu_calculus.specs.Code.{Code}
use Rattle.cu_calculus.specs.FlatProgram.{alternatives_of, no_term, term_over, term_within, terms_of}
use Rattle.cu_calculus.specs.Term.{Pattern, Term, Terms}
use Rattle.cu_calculus.specs.Valid.{variables_of}
use Rattle.cu_calculus.specs.declared.ExprId.{ExprId}
use Rattle.cu_calculus.specs.declared.Head.{Head}
use Rattle.cu_flat.specs.Meaning.{branch_meaning, expr_meaning}
use Rattle.cu_flattext.specs.ExpressionTexts.{Numbers, all_bindings, all_numbered, arguments_text, branch_text, call_text, kind_text, missing, head_text, bindings, branch_bindings, branches_text, expression_text, expressions_text, further_branches, further_expressions, numbered}
use Rattle.cu_flattext.specs.Inside.Stands.{lowered_of, numbers_of}
use Rattle.cu_flattext.specs.Naming.{Lowered}
use Rattle.cu_flattext.specs.declared.expressions.Expressions.{Expressions}
use Rattle.cu_flattext.specs.declared.expressions.Looked.{Looked}
use Rattle.cu_flattext.specs.declared.task.Task.{Task}
use Rattle.cu_flattext.specs.declared.task.Task.TheVariants as task

-- the text of a task, where the variables have these numbers and the next one has the number n
abbrev pub part_of : Lowered → Code → Task → ℕ → Numbers → List ℕ
part_of program code (task.Expression e depth) n numbers =
    expression_text program n numbers (term_within depth code e)
part_of program code (task.Expressions es depth) n numbers =
    expressions_text program n numbers (terms_of (term_within depth code) es.now)
part_of program code (task.Further es depth) n numbers =
    further_expressions program n numbers (terms_of (term_within depth code) es.now)
part_of program code (task.Branches bs depth) n numbers =
    branches_text program n numbers
    (alternatives_of (term_within depth code) (map branch_meaning bs.now))
part_of program code (task.FurtherBranches bs depth) n numbers =
    further_branches program n numbers
    (alternatives_of (term_within depth code) (map branch_meaning bs.now))
part_of program code (task.Text text) n numbers = text.now
part_of program code (task.Number x k) n numbers = []

-- how many variables are bound in the expression of a task
abbrev pub bound_in : Code → Task → ℕ
bound_in code (task.Expression e depth) = bindings (term_within depth code e)
bound_in code (task.Expressions es depth) = all_bindings (terms_of (term_within depth code) es.now)
bound_in code (task.Further es depth) = all_bindings (terms_of (term_within depth code) es.now)
bound_in code (task.Branches bs depth) =
    branch_bindings (alternatives_of (term_within depth code) (map branch_meaning bs.now))
bound_in code (task.FurtherBranches bs depth) =
    branch_bindings (alternatives_of (term_within depth code) (map branch_meaning bs.now))
bound_in code (task.Text text) = 0
bound_in code (task.Number x k) = 0

-- the numbers of variables after a task
abbrev pub numbers_after : Task → Numbers → Numbers
numbers_after (task.Number x k) numbers = numbered x k numbers
numbers_after _ numbers = numbers

-- the text of several tasks, the first task first, where the next variable has the number n
abbrev pub all_parts : Lowered → Code → List Task → ℕ → Numbers → List ℕ
all_parts program code [] n numbers = []
all_parts program code (t ∷ ts) n numbers =
    part_of program code t n numbers ++ all_parts program code ts (n + bound_in code t)
    (numbers_after t numbers)

-- the text of the tasks that are left
abbrev pub left_of : Expressions → List ℕ
left_of s = all_parts (lowered_of s.wording) s.wording.flat.now (reverse s.tasks.items) s.next
    (numbers_of s.numbers)

-- the text of the tasks that are left, with one task before them
abbrev pub left_with : Task → Expressions → List ℕ
left_with t s = all_parts (lowered_of s.wording) s.wording.flat.now
    (t ∷ reverse s.tasks.items) s.next (numbers_of s.numbers)

-- the text of a term, and then that of the tasks that are left
abbrev pub left_with_term : Term → Expressions → List ℕ
left_with_term t s =
    let program = lowered_of s.wording in
    expression_text program s.next (numbers_of s.numbers) t
    ++ all_parts program s.wording.flat.now (reverse s.tasks.items) (s.next + bindings t)
    (numbers_of s.numbers)

-- the text of a head with its arguments, and then that of the tasks that are left
abbrev pub left_with_arguments : Head → Terms → Expressions → List ℕ
left_with_arguments h ts s =
    let program = lowered_of s.wording in
    let numbers = numbers_of s.numbers in
    let arguments = arguments_text program h (expressions_text program s.next numbers ts)
    (further_expressions program s.next numbers ts) in
    (head_text program h ++ (codes " [" ++ (arguments ++ codes "]")))
    ++ all_parts program s.wording.flat.now (reverse s.tasks.items)
    (s.next + all_bindings ts) numbers

-- the text of a branch, and then that of the tasks that are left
abbrev pub left_with_branch : Pattern → Term → Expressions → List ℕ
left_with_branch p t s =
    let program = lowered_of s.wording in
    let numbers = numbers_of s.numbers in
    let bound = variables_of p in
    branch_text program s.next p
    (expression_text program (s.next + length bound) (all_numbered bound s.next numbers) t)
    ++ all_parts program s.wording.flat.now (reverse s.tasks.items)
    (s.next + length bound + bindings t) numbers

-- the term of the form that was found of an expression, with the bound on how deep its parts nest
abbrev pub looked_term : Code → Option Looked → Term
looked_term code None = no_term
looked_term code (Some looked) =
    term_over (term_within looked.depth code) (Some (expr_meaning [] looked.expr.now))

-- Tasks were pushed after which the old tasks come to what they came to before.
abbrev pub Restores : Expressions → Expressions → Type 0
Restores old new = (program : Lowered) (code : Code) (n : ℕ)
    → all_parts program code (reverse new.tasks.items) n (numbers_of new.numbers)
    ≡ all_parts program code (reverse old.tasks.items) n (numbers_of old.numbers)

-- An expression and a closing parenthesis were pushed as tasks. After them a variable has its old
-- number again, and the old tasks follow.
abbrev pub Leaves : ℕ → ℕ → ExprId → ℕ → Expressions → Expressions → Type 0
Leaves x before body depth old new = (program : Lowered) (code : Code) (n : ℕ) (numbers : Numbers)
    → all_parts program code (reverse new.tasks.items) n numbers
    ≡ expression_text program n numbers (term_within depth code body)
    ++ (codes ")" ++ all_parts program code (reverse old.tasks.items)
    (n + bindings (term_within depth code body)) (numbered x before numbers))

-- A variable was bound, and the expression in its scope and a closing parenthesis were pushed as
-- tasks. After them the old tasks come to what they came to before.
abbrev pub Scopes : ℕ → ExprId → ℕ → Expressions → Expressions → Type 0
Scopes x body depth old new = (program : Lowered) (code : Code) (n : ℕ)
    → all_parts program code (reverse new.tasks.items) n (numbers_of new.numbers)
    ≡ expression_text program n (numbered x old.next (numbers_of old.numbers))
    (term_within depth code body)
    ++ (codes ")" ++ all_parts program code (reverse old.tasks.items)
    (n + bindings (term_within depth code body)) (numbers_of old.numbers))

-- the text of a partial application of a head to so many arguments, and then that of the tasks that
-- are left
abbrev pub left_with_part : Head → ℕ → Terms → Expressions → List ℕ
left_with_part h count ts s =
    let program = lowered_of s.wording in
    let numbers = numbers_of s.numbers in
    call_text (kind_text h (missing program h count)) (head_text program h)
    (arguments_text program h (expressions_text program s.next numbers ts)
    (further_expressions program s.next numbers ts))
    ++ all_parts program s.wording.flat.now (reverse s.tasks.items)
    (s.next + all_bindings ts) numbers

-- Some of what was left was written: the text and what is left come to the same whole as before.
abbrev pub Writes : List ℕ → List ℕ → List ℕ → List ℕ → Type 0
Writes old left new now = new ++ now ≡ old ++ left
