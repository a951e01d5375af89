-- The exports so far, and those left, are those of the whole.
use Rattle.std.proofs.Common.{◌≡◌, [], ℕ, List, length}
use Rattle.std.specs.List.{All}
use Rattle.std.specs.Option.{unwrap_or}
use Rattle.std.specs.Vec.Iter.{into_iter_items, into_iter_len}
use Rattle.cu_names.specs.declared.names.NameId.{NameId}
use Rattle.cu_syntax.specs.declared.symbol.Symbol.TheVariants as symbol
use Rattle.cu_syntax.specs.Items.{export_meaning}
use Rattle.cu_syntax.specs.Reading.{each, each_in, export_of, optional}
use Rattle.cu_syntax.specs.SubtreeMeaning.{tree_of}
use Rattle.cu_syntax.specs.Owners.{ExportIsOf, IsOf}
use Rattle.cu_syntax.proofs.DeclarationLemmas.{before}
use Rattle.cu_syntax.proofs.ViewLemmas.{Reads}
use Rattle.cu_syntax.proofs.item_forms.export_list.Given as goal

abbrev pub invariant-loop-part : goal.invariant-loop-part
invariant-loop-part l = record {
  reads : (names : List (List ℕ)) → Reads (before (export_meaning names)) (each export_of) names (unwrap_or (optional (each_in export_of) (tree_of names l.tree)) [])
      l.exports.items (into_iter_items l.part-iterator);
  left : (owner : NameId) (names : List (List ℕ)) → IsOf owner names l.tree → All (IsOf owner names) (into_iter_items l.part-iterator);
  owned : (owner : NameId) (names : List (List ℕ)) → IsOf owner names l.tree → All (ExportIsOf owner names) l.exports.items;
  symbols : All (λ part. part.symbol ≡ symbol.Export) (into_iter_items l.part-iterator);
  counted : into_iter_len l.part-iterator ≡ length (into_iter_items l.part-iterator);
}
