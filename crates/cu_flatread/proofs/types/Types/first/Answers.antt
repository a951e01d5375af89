use Rattle.std.proofs.Common.{[], ◌∷◌, ◌++◌, codes, refl, reverse, sym, ap, ◌∙◌, arith}
use Rattle.cu_flatread.proofs.GoesLemmas.{goes_cell, goes_err, on_ok, pushed_goes, pushed_two, weights_push}
use Rattle.cu_flatread.proofs.LoopLemmas.{fails_by_word}
use Rattle.cu_flatread.proofs.TypeTaskLemmas.{first_empty, first_some, first_stops}
use Rattle.cu_flatread.specs.Inside.TypeTasks.{tasks_at, weights}
use Rattle.cu_flatread.specs.Inside.Words.{after_word}
use Rattle.cu_flatread.specs.declared.cells.TypeCell.TheVariants as type
use Rattle.cu_flatread.specs.declared.types.Task.TheVariants as task
use Rattle.cu_flatread.proofs.types.Types.first.Goals as goal

pub returns-in_err-word-clause-gives : goal.returns-in_err-word-clause-gives
returns-in_err-word-clause-gives c =
    λ names.
    let depth = c.args.depth in
    let bytes = c.args.cursor.now.rest.now in
    let tasks = reverse c.args.self.now.tasks.items in
    let cells = c.args.self.now.cells.items in
    goes_err c.from_residual.result c.in_err-word.field-0.0 names cells cells
    (task.First depth ∷ tasks) c.args.self.now.tasks.items bytes c.word.new.self.rest.now
    c.from_residual.ensures.1
    (fails_by_word c.in_err-word.field-0.0 c.word.new.self.rest.now (after_word (codes "]") bytes)
    (tasks_at (task.First depth ∷ tasks) bytes)
    (λ left. first_stops depth tasks bytes left (sym c.is_at.ensures ∙ c.if-is_at.true))
    c.in_err-word.ensures.gives)

pub returns-then-is_at-clause-gives : goal.returns-then-is_at-clause-gives
returns-then-is_at-clause-gives c =
    λ names.
    let depth = c.args.depth in
    let bytes = c.args.cursor.now.rest.now in
    let tasks = reverse c.args.self.now.tasks.items in
    let cells = c.args.self.now.cells.items in
    goes_cell names cells c.push.new.self.items type.End (task.First depth ∷ tasks)
    c.args.self.now.tasks.items tasks bytes c.word.new.self.rest.now c.in_ok-push.ensures.items refl
    (first_empty depth tasks bytes c.word.new.self.rest.now
    (sym c.is_at.ensures ∙ c.if-is_at.true) c.in_ok-word.ensures.gives)

pub returns-clause-gives : goal.returns-clause-gives
returns-clause-gives c =
    λ names.
    let depth = c.args.depth in
    let bytes = c.args.cursor.now.rest.now in
    let tasks = reverse c.args.self.now.tasks.items in
    let cells = c.args.self.now.cells.items in
    let old = c.args.self.now.tasks.items in
    pushed_goes c.element.result names cells c.element.new.self.cells.items type.More
    (task.First depth ∷ tasks) c.element.new.self.tasks.items
    ((old ++ task.Next depth ∷ []) ++ task.Type depth ∷ [])
    (task.Type depth ∷ task.Next depth ∷ tasks) bytes bytes c.element.ensures.cells
    c.element.ensures.tasks c.element.ensures.err
    (pushed_two old (task.Next depth) (task.Type depth))
    (first_some depth tasks bytes (sym c.is_at.ensures ∙ c.if-is_at.false))

pub returns-clause-fewer : goal.returns-clause-fewer
returns-clause-fewer c =
    let old = c.args.self.now.tasks.items in
    let depth = c.args.depth in
    on_ok c.element.result c.element.ensures.tasks
    (λ is. omega (
      arith,
      ap weights is,
      weights_push (old ++ task.Next depth ∷ []) (task.Type depth),
      weights_push old (task.Next depth),
    ))
