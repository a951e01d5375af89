use Rattle.std.proofs.Common.{ℕ, List, length, map}
use Rattle.std.specs.List.{All}
use Rattle.cu_lex.specs.Reading.{lexeme_of, IsTokenOf}
use Rattle.cu_names.specs.declared.names.NameId.{NameId}
use Rattle.cu_syntax.specs.Answer.{items_meaning}
use Rattle.cu_syntax.specs.Parsing.{parts}
use Rattle.cu_syntax.specs.Owners.{ItemIsOf}
use Rattle.cu_syntax.proofs.PartLemmas.{Reads}
use Rattle.cu_syntax.proofs.parsing.read_parts.Given as goal

abbrev pub invariant-parts : goal.invariant-parts
invariant-parts l = record {
  reads : (names : List (List ℕ)) → Reads l.imports (parts l.fn.last (map (lexeme_of names) l.fn.block)) (items_meaning names l.items.items) (parts l.last (map (lexeme_of names) l.left));
  left : (owner : NameId) (names : List (List ℕ)) → All (IsTokenOf owner names) l.fn.block → All (IsTokenOf owner names) l.left;
  owned : (owner : NameId) (names : List (List ℕ)) → All (IsTokenOf owner names) l.fn.block → All (ItemIsOf owner names) l.items.items;
}

abbrev pub decreases-parts : goal.decreases-parts
decreases-parts l = length l.left
