use Rattle.clap.specs.Words.{found_of, rows_of}
use Rattle.cu_words.specs.Words.{HasLimits}
use Rattle.cu_words.proofs.ReaderLemmas.{refuses}
use Rattle.cu_words.proofs.reader.read_limits.Goals as goal

pub returns-in_err-rounds-clause-refused : goal.returns-in_err-rounds-clause-refused
returns-in_err-rounds-clause-refused c = refuses _ (HasLimits (rows_of (found_of c.args.found.now))) (λ limits has. c.in_err-rounds.ensures.refused limits.rounds has.rounds)

pub returns-in_err-nodes-clause-refused : goal.returns-in_err-nodes-clause-refused
returns-in_err-nodes-clause-refused c = refuses _ (HasLimits (rows_of (found_of c.args.found.now))) (λ limits has. c.in_err-nodes.ensures.refused limits.step.nodes has.nodes)

pub returns-in_err-width-clause-refused : goal.returns-in_err-width-clause-refused
returns-in_err-width-clause-refused c = refuses _ (HasLimits (rows_of (found_of c.args.found.now))) (λ limits has. c.in_err-width.ensures.refused limits.step.width has.width)

pub returns-in_err-stride-clause-refused : goal.returns-in_err-stride-clause-refused
returns-in_err-stride-clause-refused c = refuses _ (HasLimits (rows_of (found_of c.args.found.now))) (λ limits has. c.in_err-stride.ensures.refused limits.stride has.stride)
