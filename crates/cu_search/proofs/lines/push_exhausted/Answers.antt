use Rattle.std.proofs.lemmas.Result.{on_ok_weaker}
use Rattle.cu_search.proofs.LineLemmas.{floundered}
use Rattle.cu_search.proofs.lines.push_exhausted.Goals as goal

pub returns : goal.returns
returns c =
    on_ok_weaker c.push_str-3.result
    (floundered c.args.waits _ _ _ _ c.if-waits-eq0.false c.in_ok-push_str.ensures c.in_ok-push_number.ensures) c.push_str-3.ensures
