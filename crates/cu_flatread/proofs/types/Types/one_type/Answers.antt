use Rattle.std.proofs.Common.{◌≡◌, [], ◌∷◌, ◌++◌, All, Ok, Err, codes, refl, reverse, sym, ap, subst, ◌∙◌, arith}
use Rattle.std.proofs.lemmas.List.Elements.{All-push}
use Rattle.cu_flatread.proofs.DecimalLemmas.{given}
use Rattle.cu_flatread.proofs.GoesLemmas.{cells_have, goes_cell, goes_err, on_ok, pushed_goes, pushed_four, pushed_one, weights_push}
use Rattle.cu_flatread.proofs.LoopLemmas.{fails_by, fails_by_word}
use Rattle.cu_flatread.proofs.ShorterLemmas.{type_word_shorter}
use Rattle.cu_flatread.proofs.TypeTaskLemmas.{arrow_task, bracket_stops, entity_stops, named_task, pred_is, type_stops, variable_stops, variable_task}
use Rattle.cu_flatread.specs.Inside.Names.{entity_at}
use Rattle.cu_flatread.specs.Inside.Numbers.{number_at}
use Rattle.cu_flatread.specs.Inside.TypeTasks.{HasCell, label, tasks_at, weights}
use Rattle.cu_flatread.specs.Inside.Types.{type_words}
use Rattle.cu_flatread.specs.Inside.Words.{Gives, after_word, joined, one_of}
use Rattle.cu_flatread.specs.Meaning.{entity_of}
use Rattle.cu_flatread.specs.declared.cells.TypeCell.TheVariants as type
use Rattle.cu_flatread.specs.declared.mark.Mark.TheVariants as mark
use Rattle.cu_flatread.specs.declared.types.Task.TheVariants as task
use Rattle.cu_flatread.specs.declared.types.TypeForm.TheVariants as form
use Rattle.cu_flatread.proofs.types.Types.one_type.Goals as goal

pub returns-in_err-one_of-clause-gives : goal.returns-in_err-one_of-clause-gives
returns-in_err-one_of-clause-gives c =
    let depth = c.args.depth in
    let bytes = c.args.cursor.now.rest.now in
    let tasks = reverse c.args.self.now.tasks.items in
    let cells = c.args.self.now.cells.items in
    goes_err c.from_residual.result c.in_err-one_of.field-0.0 c.args.names.now cells cells (task.Type depth ∷ tasks)
    c.args.self.now.tasks.items bytes c.one_of.new.self.rest.now c.from_residual.ensures.1
    (fails_by (λ f. f) c.in_err-one_of.field-0.0 c.one_of.new.self.rest.now
    (one_of (type_words depth) bytes) (tasks_at (task.Type depth ∷ tasks) bytes)
    (λ left. type_stops depth tasks bytes left)
    (subst (λ ws. Gives (λ f. f) (Err c.in_err-one_of.field-0.0) c.one_of.new.self.rest.now
    (one_of ws bytes)) c.forms.ensures c.in_err-one_of.ensures.gives))

pub returns-in_err-number-in-Variable-clause-gives : goal.returns-in_err-number-in-Variable-clause-gives
returns-in_err-number-in-Variable-clause-gives c =
    let depth = c.args.depth in
    let bytes = c.args.cursor.now.rest.now in
    let tasks = reverse c.args.self.now.tasks.items in
    let cells = c.args.self.now.cells.items in
    let found : one_of (type_words depth) bytes ≡ given form.Variable c.one_of.new.self.rest.now =
    subst (λ ws. one_of ws bytes ≡ Ok (c.in_ok-one_of.field-0, c.one_of.new.self.rest.now))
    c.forms.ensures c.in_ok-one_of.ensures.gives
    ∙ ap (λ f. Ok (f, c.one_of.new.self.rest.now)) c.in-Variable.is in
    goes_err c.from_residual-in_err-number-in-Variable.result c.in_err-number-in-Variable.field-0.0 c.args.names.now cells cells (task.Type depth ∷ tasks)
    c.args.self.now.tasks.items bytes c.number.new.self.rest.now c.from_residual-in_err-number-in-Variable.ensures.1
    (fails_by (λ n. n) c.in_err-number-in-Variable.field-0.0 c.number.new.self.rest.now
    (number_at c.one_of.new.self.rest.now) (tasks_at (task.Type depth ∷ tasks) bytes)
    (λ left. variable_stops depth tasks bytes c.one_of.new.self.rest.now left found)
    c.in_err-number-in-Variable.ensures.gives)

pub returns-in_err-entity-in-Named-clause-gives : goal.returns-in_err-entity-in-Named-clause-gives
returns-in_err-entity-in-Named-clause-gives c =
    let depth = c.args.depth in
    let bytes = c.args.cursor.now.rest.now in
    let tasks = reverse c.args.self.now.tasks.items in
    let cells = c.args.self.now.cells.items in
    let found : one_of (type_words depth) bytes ≡ given form.Named c.one_of.new.self.rest.now =
    subst (λ ws. one_of ws bytes ≡ Ok (c.in_ok-one_of.field-0, c.one_of.new.self.rest.now))
    c.forms.ensures c.in_ok-one_of.ensures.gives
    ∙ ap (λ f. Ok (f, c.one_of.new.self.rest.now)) c.in-Named.is in
    goes_err c.from_residual-in_err-entity-in-Named.result c.in_err-entity-in-Named.field-0.0 c.entity.new.names cells cells (task.Type depth ∷ tasks)
    c.args.self.now.tasks.items bytes c.entity.new.self.rest.now c.from_residual-in_err-entity-in-Named.ensures.1
    (fails_by (entity_of c.entity.new.names) c.in_err-entity-in-Named.field-0.0
    c.entity.new.self.rest.now (entity_at c.one_of.new.self.rest.now)
    (tasks_at (task.Type depth ∷ tasks) bytes)
    (λ left. entity_stops depth tasks bytes c.one_of.new.self.rest.now left found)
    c.in_err-entity-in-Named.ensures.gives)

pub returns-in_err-word-in-Named-clause-gives : goal.returns-in_err-word-in-Named-clause-gives
returns-in_err-word-in-Named-clause-gives c =
    let depth = c.args.depth in
    let bytes = c.args.cursor.now.rest.now in
    let tasks = reverse c.args.self.now.tasks.items in
    let cells = c.args.self.now.cells.items in
    let found : one_of (type_words depth) bytes ≡ given form.Named c.one_of.new.self.rest.now =
    subst (λ ws. one_of ws bytes ≡ Ok (c.in_ok-one_of.field-0, c.one_of.new.self.rest.now))
    c.forms.ensures c.in_ok-one_of.ensures.gives
    ∙ ap (λ f. Ok (f, c.one_of.new.self.rest.now)) c.in-Named.is in
    goes_err c.from_residual-in_err-word-in-Named.result c.in_err-word-in-Named.field-0.0 c.entity.new.names cells cells (task.Type depth ∷ tasks)
    c.args.self.now.tasks.items bytes c.word.new.self.rest.now c.from_residual-in_err-word-in-Named.ensures.1
    (fails_by_word c.in_err-word-in-Named.field-0.0 c.word.new.self.rest.now
    (after_word (codes " [") c.entity.new.self.rest.now) (tasks_at (task.Type depth ∷ tasks) bytes)
    (λ left. bracket_stops depth tasks bytes c.one_of.new.self.rest.now c.entity.new.self.rest.now
    (entity_of c.entity.new.names c.in_ok-entity-in-Named.entity) left found
    c.in_ok-entity-in-Named.ensures.gives)
    c.in_err-word-in-Named.ensures.gives)

pub returns-in_ok-push-in-Variable-clause-gives : goal.returns-in_ok-push-in-Variable-clause-gives
returns-in_ok-push-in-Variable-clause-gives c =
    let depth = c.args.depth in
    let bytes = c.args.cursor.now.rest.now in
    let tasks = reverse c.args.self.now.tasks.items in
    let cells = c.args.self.now.cells.items in
    let found : one_of (type_words depth) bytes ≡ given form.Variable c.one_of.new.self.rest.now =
    subst (λ ws. one_of ws bytes ≡ Ok (c.in_ok-one_of.field-0, c.one_of.new.self.rest.now))
    c.forms.ensures c.in_ok-one_of.ensures.gives
    ∙ ap (λ f. Ok (f, c.one_of.new.self.rest.now)) c.in-Variable.is in
    goes_cell c.args.names.now cells c.push.new.self.items
    (type.Variable c.in_ok-number-in-Variable.number) (task.Type depth ∷ tasks)
    c.args.self.now.tasks.items tasks bytes c.number.new.self.rest.now
    c.in_ok-push-in-Variable.ensures.items refl
    (variable_task depth tasks bytes c.one_of.new.self.rest.now c.number.new.self.rest.now
    c.in_ok-number-in-Variable.number found c.in_ok-number-in-Variable.ensures.gives)

pub returns-in-Arrow-clause-gives : goal.returns-in-Arrow-clause-gives
returns-in-Arrow-clause-gives c =
    let depth = c.args.depth in
    let bytes = c.args.cursor.now.rest.now in
    let tasks = reverse c.args.self.now.tasks.items in
    let cells = c.args.self.now.cells.items in
    let found : one_of (type_words depth) bytes ≡ given form.Arrow c.one_of.new.self.rest.now =
    subst (λ ws. one_of ws bytes ≡ Ok (c.in_ok-one_of.field-0, c.one_of.new.self.rest.now))
    c.forms.ensures c.in_ok-one_of.ensures.gives
    ∙ ap (λ f. Ok (f, c.one_of.new.self.rest.now)) c.in-Arrow.is in
    let inner = c.saturating_sub.result in
    let old = c.args.self.now.tasks.items in
    pushed_goes c.arrow.result c.args.names.now cells c.arrow.new.self.cells.items type.Arrow
    (task.Type depth ∷ tasks) c.arrow.new.self.tasks.items
    ((((old ++ task.Mark mark.Close ∷ []) ++ task.Type inner ∷ []) ++ task.Mark mark.Between ∷ [])
    ++ task.Type inner ∷ [])
    (task.Type inner ∷ task.Mark mark.Between ∷ task.Type inner ∷ task.Mark mark.Close ∷ tasks)
    bytes c.one_of.new.self.rest.now c.arrow.ensures.cells c.arrow.ensures.tasks
    c.arrow.ensures.err
    (pushed_four old (task.Mark mark.Close) (task.Type inner) (task.Mark mark.Between)
    (task.Type inner))
    (arrow_task depth tasks bytes c.one_of.new.self.rest.now found
    ∙ ap (λ i. joined (label c.args.names.now type.Arrow ∷ [])
    (tasks_at (task.Type i ∷ task.Mark mark.Between ∷ task.Type i ∷ task.Mark mark.Close ∷ tasks)
    c.one_of.new.self.rest.now))
    (pred_is depth inner (omega (arith, c.saturating_sub.ensures))))

pub returns-in-Arrow-clause-fewer : goal.returns-in-Arrow-clause-fewer
returns-in-Arrow-clause-fewer c =
    let depth = c.args.depth in
    let bytes = c.args.cursor.now.rest.now in
    let found : one_of (type_words depth) bytes ≡ given form.Arrow c.one_of.new.self.rest.now =
    subst (λ ws. one_of ws bytes ≡ Ok (c.in_ok-one_of.field-0, c.one_of.new.self.rest.now))
    c.forms.ensures c.in_ok-one_of.ensures.gives
    ∙ ap (λ f. Ok (f, c.one_of.new.self.rest.now)) c.in-Arrow.is in
    let inner = c.saturating_sub.result in
    let old = c.args.self.now.tasks.items in
    on_ok c.arrow.result c.arrow.ensures.tasks
    (λ is. omega (
      arith,
      type_word_shorter depth bytes c.one_of.new.self.rest.now form.Arrow found,
      ap weights is,
      weights_push (((old ++ task.Mark mark.Close ∷ []) ++ task.Type inner ∷ [])
          ++ task.Mark mark.Between ∷ []) (task.Type inner),
      weights_push ((old ++ task.Mark mark.Close ∷ []) ++ task.Type inner ∷ [])
          (task.Mark mark.Between),
      weights_push (old ++ task.Mark mark.Close ∷ []) (task.Type inner),
      weights_push old (task.Mark mark.Close),
    ))

pub returns-in_ok-push-in-Named-2-clause-gives : goal.returns-in_ok-push-in-Named-2-clause-gives
returns-in_ok-push-in-Named-2-clause-gives c =
    let depth = c.args.depth in
    let bytes = c.args.cursor.now.rest.now in
    let tasks = reverse c.args.self.now.tasks.items in
    let cells = c.args.self.now.cells.items in
    let found : one_of (type_words depth) bytes ≡ given form.Named c.one_of.new.self.rest.now =
    subst (λ ws. one_of ws bytes ≡ Ok (c.in_ok-one_of.field-0, c.one_of.new.self.rest.now))
    c.forms.ensures c.in_ok-one_of.ensures.gives
    ∙ ap (λ f. Ok (f, c.one_of.new.self.rest.now)) c.in-Named.is in
    let inner = c.saturating_sub-in-Named.result in
    goes_cell c.entity.new.names cells c.push-in-Named.new.self.items
    (type.Named c.in_ok-entity-in-Named.entity) (task.Type depth ∷ tasks)
    c.push-in-Named-2.new.self.items (task.First inner ∷ tasks) bytes c.word.new.self.rest.now
    c.in_ok-push-in-Named.ensures.items
    (ap reverse c.in_ok-push-in-Named-2.ensures.items
    ∙ pushed_one c.args.self.now.tasks.items (task.First inner))
    (named_task depth tasks bytes c.one_of.new.self.rest.now c.entity.new.self.rest.now
    c.word.new.self.rest.now (entity_of c.entity.new.names c.in_ok-entity-in-Named.entity) found
    c.in_ok-entity-in-Named.ensures.gives c.in_ok-word-in-Named.ensures.gives
    ∙ ap (λ i. joined (label c.entity.new.names (type.Named c.in_ok-entity-in-Named.entity) ∷ [])
    (tasks_at (task.First i ∷ tasks) c.word.new.self.rest.now))
    (pred_is depth inner (omega (arith, c.saturating_sub-in-Named.ensures))))

pub returns-in_ok-push-in-Named-2-clause-known : goal.returns-in_ok-push-in-Named-2-clause-known
returns-in_ok-push-in-Named-2-clause-known c =
    λ had. subst (All (HasCell c.entity.new.names)) (sym c.in_ok-push-in-Named.ensures.items)
    (All-push (HasCell c.entity.new.names) c.args.self.now.cells.items
    (type.Named c.in_ok-entity-in-Named.entity)
    (cells_have c.args.names.now c.entity.new.names c.args.self.now.cells.items
    c.in_ok-entity-in-Named.ensures.names had) c.in_ok-entity-in-Named.ensures.known)

pub returns-in_ok-push-in-Named-2-clause-fewer : goal.returns-in_ok-push-in-Named-2-clause-fewer
returns-in_ok-push-in-Named-2-clause-fewer c =
    omega (
      arith,
      c.in_ok-one_of.ensures.shorter,
      c.in_ok-entity-in-Named.ensures.shorter,
      c.in_ok-word-in-Named.ensures.shorter,
      ap weights c.in_ok-push-in-Named-2.ensures.items,
      weights_push c.args.self.now.tasks.items (task.First c.saturating_sub-in-Named.result),
    )
