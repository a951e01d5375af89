use Rattle.std.proofs.Common.{◌≡◌, take}
use Rattle.cu_layout.specs.Inside.Entries.{stack_of}
use Rattle.cu_layout.specs.Rules.{block_column, block_tokens}
use Rattle.cu_layout.proofs.stack.innermost.Given as goal

abbrev pub invariant-loop-index : goal.invariant-loop-index
invariant-loop-index l = record {
  column : block_column (stack_of l.stack) ≡ block_column (stack_of (take l.index l.stack));
  tokens : block_tokens (stack_of l.stack) ≡ block_tokens (stack_of (take l.index l.stack));
}
