use Rattle.std.proofs.Common.{◌≡◌, ◌+◌, length}
use Rattle.cu_flatread.specs.Inside.Words.{after_word}
use Rattle.cu_flatread.proofs.cursor.after_word.Given as goal

abbrev pub invariant-loop-left : goal.invariant-loop-left
invariant-loop-left l = (after_word l.left l.rest ≡ after_word l.fn.word l.fn.bytes) × (length l.rest + length l.fn.word ≡ length l.fn.bytes + length l.left)

abbrev pub decreases-loop-left : goal.decreases-loop-left
decreases-loop-left l = length l.left
