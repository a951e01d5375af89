use Rattle.std.proofs.Common.{◌≡◌, arith, ◌∙◌}
use Rattle.std.proofs.Math.Seq.{drop-length, take-length}
use Rattle.cu_calculus.specs.Value.{count}
use Rattle.cu_values.proofs.ViewLemmas.{none_after, only_value}
use Rattle.cu_values.proofs.view.end_of_first.Goals as goal
use Rattle.cu_values.specs.Cells.{read_all}

pub returns-then-count-eq1-clause-first : goal.returns-then-count-eq1-clause-first
returns-then-count-eq1-clause-first c =
    let cells = c.args.cells.now in
    let one : 1 ≡ count (read_all cells) = omega (arith, c.requires.counted, c.if-count-eq1.true) in
    take-length cells ∙ only_value (read_all cells) cells c.requires.spelled one

pub returns-then-count-eq1-clause-others : goal.returns-then-count-eq1-clause-others
returns-then-count-eq1-clause-others c =
    let cells = c.args.cells.now in
    let one : 1 ≡ count (read_all cells) = omega (arith, c.requires.counted, c.if-count-eq1.true) in
    drop-length cells ∙ none_after (read_all cells) one
