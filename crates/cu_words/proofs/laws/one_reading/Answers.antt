use Rattle.clap.specs.Words.{subcommand_of}
use Rattle.cu_words.specs.Command.{curry}
use Rattle.cu_words.proofs.OneReading.{asks_once}
use Rattle.cu_words.proofs.laws.one_reading.Goals as goal

pub returns : goal.returns
returns c = λ words one other reads also. asks_once (subcommand_of curry words) one other reads.asks also.asks
