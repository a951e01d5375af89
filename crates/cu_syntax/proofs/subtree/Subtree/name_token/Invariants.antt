-- What is inside has the same token.
use Rattle.std.proofs.Common.{◌≡◌, ℕ, List, length, true}
use Rattle.cu_names.specs.declared.names.NameId.{NameId}
use Rattle.cu_syntax.specs.Inside.NameTokens.{has_name}
use Rattle.cu_syntax.specs.Owners.{IsOf}
use Rattle.cu_syntax.specs.Reading.{name_token}
use Rattle.cu_syntax.specs.SubtreeMeaning.{tree_of}
use Rattle.cu_syntax.proofs.subtree.Subtree.name_token.Given as goal

abbrev pub invariant-loop-name : goal.invariant-loop-name
invariant-loop-name l = record {
  name : has_name l.name.symbol ≡ true;
  owned : (owner : NameId) (names : List (List ℕ)) → IsOf owner names l.self → IsOf owner names l.name;
  token : (names : List (List ℕ)) → name_token (tree_of names l.self) ≡ name_token (tree_of names l.name);
}

abbrev pub decreases-loop-name : goal.decreases-loop-name
decreases-loop-name l = length l.name.nodes.now
