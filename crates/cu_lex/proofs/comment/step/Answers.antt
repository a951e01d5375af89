use Rattle.std.proofs.Common.{◌∙◌, sym, ap}
use Rattle.cu_lex.specs.Inside.Scanning.{left, first_of}
use Rattle.cu_lex.proofs.ScanLemmas.{Two, step-opens, step-closes, step-goes}
use Rattle.cu_lex.proofs.comment.step.Goals as goal

pub returns-then-opens : goal.returns-then-opens
returns-then-opens c =
    let two : Two (left c.args.start) c.in_ok-first.first c.in_ok-second.second = record {
      first = sym c.peek.ensures ∙ c.in_ok-first.was;
      second = sym (ap first_of c.after-rest.ensures.left) ∙ sym c.peek-2.ensures ∙ c.in_ok-second.was;
    } in
    step-opens c.args.depth (left c.args.start) (left c.after-rest.result) (left c.after.result) c.in_ok-first.first c.in_ok-second.second c.requires.inside two c.after-rest.ensures.left c.after.ensures.left (sym c.opens.ensures ∙ c.if-opens.true)

pub returns-then-closes : goal.returns-then-closes
returns-then-closes c =
    let two : Two (left c.args.start) c.in_ok-first.first c.in_ok-second.second = record {
      first = sym c.peek.ensures ∙ c.in_ok-first.was;
      second = sym (ap first_of c.after-rest.ensures.left) ∙ sym c.peek-2.ensures ∙ c.in_ok-second.was;
    } in
    step-closes c.args.depth (left c.args.start) (left c.after-rest.result) (left c.after-then-closes.result) c.in_ok-first.first c.in_ok-second.second c.requires.inside two c.after-rest.ensures.left c.after-then-closes.ensures.left
    (sym c.opens.ensures ∙ c.if-opens.false) (sym c.closes.ensures ∙ c.if-closes.true)

pub returns : goal.returns
returns c =
    let two : Two (left c.args.start) c.in_ok-first.first c.in_ok-second.second = record {
      first = sym c.peek.ensures ∙ c.in_ok-first.was;
      second = sym (ap first_of c.after-rest.ensures.left) ∙ sym c.peek-2.ensures ∙ c.in_ok-second.was;
    } in
    step-goes c.args.depth (left c.args.start) (left c.after-rest.result) c.in_ok-first.first c.in_ok-second.second c.requires.inside two c.after-rest.ensures.left
    (sym c.opens.ensures ∙ c.if-opens.false) (sym c.closes.ensures ∙ c.if-closes.false)
