use Rattle.std.proofs.Common.{◌∙◌, sym}
use Rattle.cu_lex.specs.Inside.Scanning.{left}
use Rattle.cu_lex.proofs.LiteralLemmas.{escape-short}
use Rattle.cu_lex.proofs.literal.escape.Goals as goal

pub returns-in-Some : goal.returns-in-Some
returns-in-Some c =
    escape-short (left c.args.start) (left c.after-end.result) c.in_ok-c.c c.in-Some.code (sym c.peek.ensures ∙ c.in_ok-c.was) c.after-end.ensures.left c.if-c-eq38.false c.if-c-eq120.false c.if-c-eq111.false
    (sym c.short_escape.ensures ∙ c.in-Some.is)
