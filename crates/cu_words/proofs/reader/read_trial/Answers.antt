use Rattle.clap.specs.Words.{found_of, rows_of}
use Rattle.cu_words.specs.Words.{IsTrial}
use Rattle.cu_words.proofs.ReaderLemmas.{refuses}
use Rattle.cu_words.proofs.reader.read_trial.Goals as goal

pub returns-in_err-depth-clause-refused : goal.returns-in_err-depth-clause-refused
returns-in_err-depth-clause-refused c = refuses _ (IsTrial (rows_of (found_of c.args.found.now))) (λ trial has. c.in_err-depth.ensures.refused trial.depth has.depth)

pub returns-in_err-workers-clause-refused : goal.returns-in_err-workers-clause-refused
returns-in_err-workers-clause-refused c = refuses _ (IsTrial (rows_of (found_of c.args.found.now))) (λ trial has. c.in_err-workers.ensures.refused trial.workers has.workers)

pub returns-in_err-width-clause-refused : goal.returns-in_err-width-clause-refused
returns-in_err-width-clause-refused c = refuses _ (IsTrial (rows_of (found_of c.args.found.now))) (λ trial has. c.in_err-width.ensures.refused trial.width has.width)

pub returns-in_err-stride-clause-refused : goal.returns-in_err-stride-clause-refused
returns-in_err-stride-clause-refused c = refuses _ (IsTrial (rows_of (found_of c.args.found.now))) (λ trial has. c.in_err-stride.ensures.refused trial.stride has.stride)
