use Rattle.std.proofs.Common.{rules}
use Rattle.cu_prooftext.proofs.CellTexts.{listed_again}
use Rattle.cu_prooftext.proofs.values.write_arguments.Goals as goal

pub returns : goal.returns
returns c = rw (listed_again c.args.arguments.now) (search rules)
