use Rattle.clap.specs.Words.{found_of, rows_of}
use Rattle.cu_words.specs.Words.{Asks}
use Rattle.std.proofs.Common.{Some, codes}
use Rattle.cu_words.proofs.ReaderLemmas.{no_check, refuses}
use Rattle.cu_words.proofs.reader.asked_check.Goals as goal

pub returns-in_err-read_check-clause-refused : goal.returns-in_err-read_check-clause-refused
returns-in_err-read_check-clause-refused c =
    refuses _ (Asks (Some (codes "check", rows_of (found_of c.args.found.now)))) (no_check (rows_of (found_of c.args.found.now)) c.in_err-read_check.ensures.refused)
