-- What was found and what is left are all parts.
use Rattle.std.proofs.Common.{◌≡◌, ℕ, List, length, map}
use Rattle.std.specs.List.{All}
use Rattle.cu_peg.specs.Parse.{spelled_all}
use Rattle.cu_peg.specs.Spelling.{read, read_all}
use Rattle.cu_names.specs.declared.names.NameId.{NameId}
use Rattle.cu_syntax.specs.Owners.{IsOf}
use Rattle.cu_syntax.specs.SubtreeMeaning.{tree_of}
use Rattle.cu_syntax.specs.Subtrees.{over}
use Rattle.cu_syntax.proofs.RepeatLemmas.{Collects}
use Rattle.cu_syntax.proofs.SplitLemmas.{lexemes}
use Rattle.cu_syntax.proofs.subtree.Subtree.repeated.Given as goal

abbrev pub invariant-loop-left : goal.invariant-loop-left
invariant-loop-left l = record {
  spelled : spelled_all (read_all l.left) ≡ l.left;
  owned : (owner : NameId) (names : List (List ℕ)) → IsOf owner names l.self → All (IsOf owner names) l.parts.items;
  symbol : All (λ part. part.symbol ≡ l.symbol) l.parts.items;
  parts : (names : List (List ℕ)) → Collects l.symbol (lexemes names l.self.tokens.now) (over (lexemes names l.self.tokens.now) (read l.self.nodes.now)) (map (tree_of names) l.parts.items) l.left;
}

abbrev pub decreases-loop-left : goal.decreases-loop-left
decreases-loop-left l = length l.left
