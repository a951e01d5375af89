-- What is left are the nodes of the parts after those that were passed over.
use Rattle.std.proofs.Common.{◌≡◌}
use Rattle.cu_peg.specs.Parse.{spelled_all}
use Rattle.cu_peg.specs.Spelling.{read}
use Rattle.cu_syntax.specs.Subtrees.{parts_in}
use Rattle.cu_syntax.proofs.NodeLemmas.{after_trees}
use Rattle.cu_syntax.proofs.subtree.Subtree.part.Given as goal

abbrev pub invariant-loop : goal.invariant-loop
invariant-loop l = l.left ≡ spelled_all (after_trees l.counter (parts_in (read l.self.nodes.now)))
