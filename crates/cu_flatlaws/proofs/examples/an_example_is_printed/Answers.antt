use Rattle.cu_flatlaws.proofs.Sample.{example_is_printed, expression_is_printed}
use Rattle.cu_flatlaws.proofs.examples.an_example_is_printed.Goals as goal

pub returns : goal.returns
returns c = record { whole = example_is_printed; expression = expression_is_printed }
