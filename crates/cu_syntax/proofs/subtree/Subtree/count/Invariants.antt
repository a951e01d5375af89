-- What was counted and what is left are all parts.
use Rattle.std.proofs.Common.{◌≡◌, ◌+◌, length}
use Rattle.cu_peg.specs.Parse.{spelled_all}
use Rattle.cu_peg.specs.Spelling.{read, read_all}
use Rattle.cu_syntax.specs.Subtrees.{parts_in}
use Rattle.cu_syntax.proofs.RepeatLemmas.{count_trees}
use Rattle.cu_syntax.proofs.subtree.Subtree.count.Given as goal

abbrev pub invariant-loop-left : goal.invariant-loop-left
invariant-loop-left l = record {
  spelled : spelled_all (read_all l.left) ≡ l.left;
  total : l.count + count_trees (read_all l.left) ≡ count_trees (parts_in (read l.self.nodes.now));
}

abbrev pub decreases-loop-left : goal.decreases-loop-left
decreases-loop-left l = length l.left
