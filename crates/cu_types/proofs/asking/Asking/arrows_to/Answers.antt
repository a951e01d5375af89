use Rattle.cu_types.proofs.asking.Asking.arrows_to.Goals as goal

pub arrows-requires-clause-reader : goal.arrows-requires-clause-reader
arrows-requires-clause-reader c = c.requires.reader

pub arrows-requires-clause-within : goal.arrows-requires-clause-within
arrows-requires-clause-within c = c.requires.within

pub arrows-requires-clause-fits : goal.arrows-requires-clause-fits
arrows-requires-clause-fits c = c.in-Some.ensures.0

pub returns-in_ok-whole-in-Some : goal.returns-in_ok-whole-in-Some
returns-in_ok-whole-in-Some c = c.in_ok-whole-in-Some.ensures
