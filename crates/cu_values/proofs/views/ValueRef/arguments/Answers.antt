use Rattle.std.proofs.Common.{◌≡◌, ◌-◌, ap, drop, length, sym, take, ◌∙◌}
use Rattle.cu_calculus.specs.Value.{count}
use Rattle.cu_values.proofs.ArgumentLemmas.{arguments_left}
use Rattle.cu_values.proofs.ViewLemmas.{arguments_counted, after_read, after_spelled, rest_slice}
use Rattle.cu_values.proofs.views.ValueRef.arguments.Goals as goal
use Rattle.cu_values.specs.Cells.{read_all, spell_all}
use Rattle.cu_values.specs.Parts.{arguments_of}
use Rattle.cu_values.specs.Views.{viewed}

pub invariant_of-result : goal.invariant_of-result
invariant_of-result c =
    let v = viewed c.args.self in
    let cells = c.cells-cells.result.now in
    let rest = take (length cells - 1) (drop 1 cells) in
    let left : rest ≡ spell_all (arguments_of v) = rest_slice 1 cells ∙ arguments_left v cells c.cells-cells.ensures in
    record {
      spelled = after_spelled (arguments_of v) rest left;
      counted = arguments_counted v cells c.arity.result c.cells-cells.ensures c.arity.ensures ∙ ap (λ cs. count (read_all cs)) (sym (rest_slice 1 cells));
    }

pub returns : goal.returns
returns c =
    let v = viewed c.args.self in
    let cells = c.cells-cells.result.now in
    after_read (arguments_of v) (take (length cells - 1) (drop 1 cells)) (rest_slice 1 cells ∙ arguments_left v cells c.cells-cells.ensures)
