use Rattle.std.proofs.Common.{◌≡◌, length}
use Rattle.cu_lex.specs.Inside.Items.{joined, so_far, string_items}
use Rattle.cu_lex.specs.Literals.{item}
use Rattle.cu_lex.specs.Munch.{cut_all}
use Rattle.cu_lex.specs.Pieces.{codes_of}
use Rattle.cu_lex.specs.Inside.Scanning.{left}
use Rattle.cu_lex.proofs.literal.string_literal.Given as goal

abbrev pub invariant-loop-rest : goal.invariant-loop-rest
invariant-loop-rest l = record {
  left_over : (cut_all (item 34) (left l.rest)).left ≡ (string_items (left l.start)).left;
  codes : joined (so_far l.value l.bad) (codes_of (cut_all (item 34) (left l.rest)).pieces) ≡ codes_of (string_items (left l.start)).pieces;
}

abbrev pub decreases-loop-rest : goal.decreases-loop-rest
decreases-loop-rest l = length (left l.rest)
