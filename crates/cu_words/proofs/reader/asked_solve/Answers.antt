use Rattle.clap.specs.Words.{found_of, rows_of}
use Rattle.cu_words.specs.Words.{Asks}
use Rattle.std.proofs.Common.{Some, codes}
use Rattle.cu_words.proofs.ReaderLemmas.{no_solve, refuses}
use Rattle.cu_words.proofs.reader.asked_solve.Goals as goal

pub returns-in_err-read_solve-clause-refused : goal.returns-in_err-read_solve-clause-refused
returns-in_err-read_solve-clause-refused c =
    refuses _ (Asks (Some (codes "solve", rows_of (found_of c.args.found.now)))) (no_solve (rows_of (found_of c.args.found.now)) c.in_err-read_solve.ensures.refused)
