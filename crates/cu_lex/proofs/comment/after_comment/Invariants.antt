use Rattle.std.proofs.Common.{◌≡◌, ◌+◌, ◌<◌, length}
use Rattle.cu_lex.specs.Inside.Scanning.{comment_end, left}
use Rattle.cu_lex.proofs.comment.after_comment.Given as goal

abbrev pub invariant-loop-depth : goal.invariant-loop-depth
invariant-loop-depth l = record {
  same : comment_end l.depth (left l.rest) ≡ comment_end 1 (left l.start);
  fits : l.depth + length (left l.rest) < 4294967296;
}

abbrev pub decreases-loop-depth : goal.decreases-loop-depth
decreases-loop-depth l = length (left l.rest)
