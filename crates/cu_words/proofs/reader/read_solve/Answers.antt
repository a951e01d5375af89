use Rattle.clap.specs.Words.{found_of, rows_of}
use Rattle.cu_words.specs.Words.{IsSolve}
use Rattle.cu_words.proofs.ReaderLemmas.{refuses}
use Rattle.cu_words.proofs.reader.read_solve.Goals as goal

pub returns-in_err-workers-clause-refused : goal.returns-in_err-workers-clause-refused
returns-in_err-workers-clause-refused c = refuses _ (IsSolve (rows_of (found_of c.args.found.now))) (λ solve has. c.in_err-workers.ensures.refused solve.workers has.workers)
