-- The nodes so far have no token.
use Rattle.std.proofs.Common.{◌≡◌, ℕ, List, drop}
use Rattle.cu_peg.specs.Spelling.{read}
use Rattle.cu_syntax.specs.Reading.{first_token}
use Rattle.cu_syntax.specs.Subtrees.{over}
use Rattle.cu_syntax.proofs.LeafLemmas.{first_leaf}
use Rattle.cu_syntax.proofs.SplitLemmas.{lexemes}
use Rattle.cu_syntax.proofs.subtree.Subtree.first_token.Given as goal

abbrev pub invariant-loop-node : goal.invariant-loop-node
invariant-loop-node l =
    (names : List (List ℕ)) → first_token (over (lexemes names l.self.tokens.now) (read l.self.nodes.now)) ≡ first_leaf (lexemes names l.self.tokens.now) (drop l.node-index l.self.nodes.now)
