use Rattle.std.proofs.Common.{◌∙◌}
use Rattle.cu_values.proofs.ArgumentLemmas.{read_by, spelled_by}
use Rattle.cu_values.proofs.value.Value.view.Goals as goal

pub spelled-requires : goal.spelled-requires
spelled-requires c = spelled_by c.args.self.now c.cells.result.now c.cells.ensures

pub returns : goal.returns
returns c = c.spelled.ensures.read ∙ read_by c.args.self.now c.cells.result.now c.cells.ensures
