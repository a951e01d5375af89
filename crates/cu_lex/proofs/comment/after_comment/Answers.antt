use Rattle.std.proofs.Common.{refl, arith}
use Rattle.cu_lex.proofs.ScanLemmas.{left-short}
use Rattle.cu_lex.proofs.comment.after_comment.Goals as goal

pub loop-depth-init : goal.loop-depth-init
loop-depth-init c =
    let short = left-short c.args.start in
    let bytes = c.args.start.lines in
    record { same = refl; fits = omega arith }
