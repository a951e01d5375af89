use Rattle.std.proofs.Common.{reverse, vec_len}
use Rattle.cu_layout.proofs.BlockLemmas.{UpTo}
use Rattle.cu_layout.proofs.layout.block.Given as goal

abbrev pub invariant-loop-token : goal.invariant-loop-token
invariant-loop-token l = UpTo l.whole l.fn.tokens.items l.laid.items l.stack.items l.due l.last (reverse l.left.items)

abbrev pub decreases-loop-token : goal.decreases-loop-token
decreases-loop-token l = vec_len l.left
