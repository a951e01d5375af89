use Rattle.std.proofs.Common.{◌∙◌, ap}
use Rattle.cu_lex.specs.Inside.Scanning.{comment_end, later, left}
use Rattle.cu_lex.proofs.NamedLemmas.{comment-piece, no-comment}
use Rattle.cu_lex.proofs.lexer.comment.Goals as goal

pub returns-in-Some : goal.returns-in-Some
returns-in-Some c = λ names.
    let inside = c.after-2.ensures.left ∙ ap later c.after.ensures.left in
    record { piece = comment-piece (left c.args.start) (left c.in-Some.rest) c.requires.plain c.requires.opens (c.in-Some.ensures ∙ ap (comment_end 1) inside); known = tt }

pub returns-in-None : goal.returns-in-None
returns-in-None c = λ names.
    let inside = c.after-2.ensures.left ∙ ap later c.after.ensures.left in
    (c.place.ensures.owner, no-comment (left c.args.start) c.requires.plain c.requires.opens (c.in-None.ensures ∙ ap (comment_end 1) inside), c.place.ensures.at)
