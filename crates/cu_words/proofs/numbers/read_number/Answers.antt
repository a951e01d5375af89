use Rattle.std.proofs.Common.{rules}
use Rattle.cu_words.proofs.NumberLemmas.{not_a_number}
use Rattle.cu_words.proofs.numbers.read_number.Goals as goal

pub returns-in-Err-clause-refused : goal.returns-in-Err-clause-refused
returns-in-Err-clause-refused c = not_a_number c.args.low c.args.high c.args.text.now c.parse.result c.in-Err.field-0 c.parse.ensures.value.0 (search rules) c.ranges.high.fits
