use Rattle.std.proofs.Common.{[], ◌∷◌, ◌++◌, Ok, refl, reverse, ap, ◌∙◌, arith}
use Rattle.cu_flatread.proofs.GoesLemmas.{goes_cell, goes_err, on_ok, pushed_goes, pushed_two, weights_push}
use Rattle.cu_flatread.proofs.LoopLemmas.{fails_by}
use Rattle.cu_flatread.proofs.TypeTaskLemmas.{next_end, next_more, next_stops}
use Rattle.cu_flatread.specs.Inside.TypeTasks.{tasks_at, weights}
use Rattle.cu_flatread.specs.Inside.Words.{goes_on}
use Rattle.cu_flatread.specs.declared.cells.TypeCell.TheVariants as type
use Rattle.cu_flatread.specs.declared.types.Task.TheVariants as task
use Rattle.cu_flatread.proofs.types.Types.next.Goals as goal

pub returns-in_err-goes_on-clause-gives : goal.returns-in_err-goes_on-clause-gives
returns-in_err-goes_on-clause-gives c =
    λ names.
    let depth = c.args.depth in
    let bytes = c.args.cursor.now.rest.now in
    let tasks = reverse c.args.self.now.tasks.items in
    let cells = c.args.self.now.cells.items in
    goes_err c.from_residual.result c.in_err-goes_on.field-0.0 names cells cells
    (task.Next depth ∷ tasks) c.args.self.now.tasks.items bytes c.goes_on.new.self.rest.now
    c.from_residual.ensures.1
    (fails_by (λ b. b) c.in_err-goes_on.field-0.0 c.goes_on.new.self.rest.now (goes_on bytes)
    (tasks_at (task.Next depth ∷ tasks) bytes) (λ left. next_stops depth tasks bytes left)
    c.in_err-goes_on.ensures.gives)

pub returns-then-branch-clause-gives : goal.returns-then-branch-clause-gives
returns-then-branch-clause-gives c =
    λ names.
    let depth = c.args.depth in
    let bytes = c.args.cursor.now.rest.now in
    let tasks = reverse c.args.self.now.tasks.items in
    let cells = c.args.self.now.cells.items in
    let old = c.args.self.now.tasks.items in
    pushed_goes c.element.result names cells c.element.new.self.cells.items type.More
    (task.Next depth ∷ tasks) c.element.new.self.tasks.items
    ((old ++ task.Next depth ∷ []) ++ task.Type depth ∷ [])
    (task.Type depth ∷ task.Next depth ∷ tasks) bytes c.goes_on.new.self.rest.now
    c.element.ensures.cells c.element.ensures.tasks c.element.ensures.err
    (pushed_two old (task.Next depth) (task.Type depth))
    (next_more depth tasks bytes c.goes_on.new.self.rest.now
    (c.in_ok-goes_on.ensures.gives
    ∙ ap (λ more. Ok (more, c.goes_on.new.self.rest.now)) c.if-branch.true))

pub returns-then-branch-clause-fewer : goal.returns-then-branch-clause-fewer
returns-then-branch-clause-fewer c =
    let old = c.args.self.now.tasks.items in
    let depth = c.args.depth in
    on_ok c.element.result c.element.ensures.tasks
    (λ is. omega (
      arith,
      c.in_ok-goes_on.ensures.shorter,
      ap weights is,
      weights_push (old ++ task.Next depth ∷ []) (task.Type depth),
      weights_push old (task.Next depth),
    ))

pub returns-clause-gives : goal.returns-clause-gives
returns-clause-gives c =
    λ names.
    let depth = c.args.depth in
    let bytes = c.args.cursor.now.rest.now in
    let tasks = reverse c.args.self.now.tasks.items in
    let cells = c.args.self.now.cells.items in
    goes_cell names cells c.push.new.self.items type.End (task.Next depth ∷ tasks)
    c.args.self.now.tasks.items tasks bytes c.goes_on.new.self.rest.now c.in_ok-push.ensures.items
    refl
    (next_end depth tasks bytes c.goes_on.new.self.rest.now
    (c.in_ok-goes_on.ensures.gives
    ∙ ap (λ more. Ok (more, c.goes_on.new.self.rest.now)) c.if-branch.false))
