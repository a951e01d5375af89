use Rattle.std.proofs.Common.{Vec, Global, [], ◌∷◌, Ok, codes, map, sym, ap, subst, ◌∙◌}
use Rattle.std.proofs.lemmas.List.Elements.{recursion_from_All}
use Rattle.cu_flatread.proofs.GoesLemmas.{list_alone, list_alone_stops, types_done, types_no_bracket, types_no_list}
use Rattle.cu_flatread.proofs.LabelLemmas.{type_list}
use Rattle.cu_flatread.proofs.LoopLemmas.{fails_by, fails_by_word, handed_on}
use Rattle.cu_flatread.specs.Inside.TypeTasks.{HasCell, label, tasks_at}
use Rattle.cu_flatread.specs.Inside.Types.{all_types, types_at}
use Rattle.cu_flatread.specs.Inside.Words.{after_word}
use Rattle.cu_flatread.specs.FlatText.{most_nested}
use Rattle.cu_flatread.specs.Meaning.{HasTypes, types_of}
use Rattle.cu_flatread.specs.declared.cells.TypeCell.{TypeCell}
use Rattle.cu_flatread.specs.declared.types.Task.TheVariants as task
use Rattle.cu_flatread.proofs.types.types_at.Goals as goal

pub returns-in_err-word-clause-gives : goal.returns-in_err-word-clause-gives
returns-in_err-word-clause-gives c =
    let bytes = c.args.cursor.now.rest.now in
    handed_on (types_of c.args.names.now) c.from_residual.result c.in_err-word.field-0.0
    c.word.new.self.rest.now (types_at bytes) c.from_residual.ensures.1
    (fails_by_word c.in_err-word.field-0.0 c.word.new.self.rest.now
    (after_word (codes "[") bytes) (types_at bytes) (λ left. types_no_bracket bytes left)
    c.in_err-word.ensures.gives)

pub returns-in_err-cells-clause-gives : goal.returns-in_err-cells-clause-gives
returns-in_err-cells-clause-gives c =
    let bytes = c.args.cursor.now.rest.now in
    let r = c.word.new.self.rest.now in
    let rest = c.cells.new.cursor.rest.now in
    let names = c.cells.new.names in
    handed_on (types_of names) c.from_residual-in_err-cells.result c.in_err-cells.field-0.0 rest
    (types_at bytes) c.from_residual-in_err-cells.ensures.1
    (fails_by {X = Vec TypeCell Global} (λ cells. map (label names) cells.items) c.in_err-cells.field-0.0 rest
    (tasks_at (task.First most_nested ∷ []) r) (types_at bytes)
    (λ left e. types_no_list bytes r left c.in_ok-word.ensures.gives
    (list_alone_stops most_nested r left e)) c.in_err-cells.ensures.gives)

pub spelled-requires : goal.spelled-requires
spelled-requires c =
    let bytes = c.args.cursor.now.rest.now in
    let r = c.word.new.self.rest.now in
    let rest = c.cells.new.cursor.rest.now in
    let names = c.cells.new.names in
    let cells = c.in_ok-cells.cells.items in
    let ts = list_alone most_nested r rest (map (label names) cells) c.in_ok-cells.ensures.gives in
    let trees =
    type_list names (all_types ts.0) cells ts.2 (recursion_from_All (HasCell names) cells c.in_ok-cells.ensures.known) in
    trees.list

pub returns-clause-gives : goal.returns-clause-gives
returns-clause-gives c =
    let bytes = c.args.cursor.now.rest.now in
    let r = c.word.new.self.rest.now in
    let rest = c.cells.new.cursor.rest.now in
    let names = c.cells.new.names in
    let cells = c.in_ok-cells.cells.items in
    let ts = list_alone most_nested r rest (map (label names) cells) c.in_ok-cells.ensures.gives in
    let trees =
    type_list names (all_types ts.0) cells ts.2 (recursion_from_All (HasCell names) cells c.in_ok-cells.ensures.known) in
    types_done bytes r rest ts.0 c.in_ok-word.ensures.gives ts.1
    ∙ ap (λ x. Ok (x, rest)) (sym trees.is ∙ ap (types_of names) (sym c.spelled.ensures))

pub returns-clause-known : goal.returns-clause-known
returns-clause-known c =
    let bytes = c.args.cursor.now.rest.now in
    let r = c.word.new.self.rest.now in
    let rest = c.cells.new.cursor.rest.now in
    let names = c.cells.new.names in
    let cells = c.in_ok-cells.cells.items in
    let ts = list_alone most_nested r rest (map (label names) cells) c.in_ok-cells.ensures.gives in
    let trees =
    type_list names (all_types ts.0) cells ts.2 (recursion_from_All (HasCell names) cells c.in_ok-cells.ensures.known) in
    subst (HasTypes names) (sym c.spelled.ensures) trees.has
