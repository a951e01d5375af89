use Rattle.cu_flatread.proofs.expressions.opening_of.Goals as goal

pub returns-in-Let-clause-known : goal.returns-in-Let-clause-known
returns-in-Let-clause-known c = c.binding.ensures.known c.args.names.now

pub returns-in-Free-clause-known : goal.returns-in-Free-clause-known
returns-in-Free-clause-known c = c.free.ensures.known c.args.names.now
