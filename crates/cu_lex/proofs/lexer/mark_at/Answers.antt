use Rattle.cu_lex.specs.Inside.Scanning.{left}
use Rattle.cu_lex.proofs.NamedLemmas.{mark-piece, no-mark}
use Rattle.cu_lex.proofs.lexer.mark_at.Goals as goal

pub returns-in-Some : goal.returns-in-Some
returns-in-Some c = λ names. record { piece = mark-piece (left c.args.start) c.in-Some.mark (left c.after.result) c.after.ensures.left c.requires.plain c.requires.words c.requires.comments c.in-Some.ensures; known = tt }

pub returns-in-None : goal.returns-in-None
returns-in-None c = λ names. (c.place.ensures.owner, no-mark (left c.args.start) c.requires.plain c.requires.words c.requires.comments c.in-None.ensures, c.place.ensures.at)
