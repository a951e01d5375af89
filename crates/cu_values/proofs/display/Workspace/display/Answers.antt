use Rattle.std.proofs.Common.{◌≡◌, OnOk, subst}
use Rattle.std.specs.String.{string_bytes}
use Rattle.cu_calculus.specs.Value.{Value}
use Rattle.cu_values.proofs.ArgumentLemmas.{read_by, spelled_by}
use Rattle.cu_values.proofs.CellLemmas.{spelled_one}
use Rattle.cu_values.proofs.display.Workspace.display.Goals as goal
use Rattle.cu_values.specs.Display.{display}
use Rattle.cu_values.specs.Inside.LabelsOf.{labels_meaning}

pub find_shapes-requires : goal.find_shapes-requires
find_shapes-requires c = rw (c.cells-cells.ensures) (spelled_one c.args.value.now)

pub write-requires-clause-one : goal.write-requires-clause-one
write-requires-clause-one c = spelled_by c.args.value.now c.cells-cells.result.now c.cells-cells.ensures

pub returns : goal.returns
returns c =
    subst (λ (v : Value). OnOk c.write.result (string_bytes c.write.new.pen.text ≡ display (labels_meaning c.args.names.now) v))
    (read_by c.args.value.now c.cells-cells.result.now c.cells-cells.ensures) c.write.ensures
