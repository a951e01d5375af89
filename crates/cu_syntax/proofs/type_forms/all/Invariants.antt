-- The trees of the types so far, and those left.
use Rattle.std.proofs.Common.{◌≡◌, ◌++◌, length, map}
use Rattle.std.specs.Vec.Iter.{into_iter_items, into_iter_len}
use Rattle.cu_syntax.proofs.TypeForms.{subtree}
use Rattle.cu_syntax.proofs.type_forms.all.Given as goal

abbrev pub invariant-loop-part : goal.invariant-loop-part
invariant-loop-part l = record {
  all : map subtree l.types.items ++ into_iter_items l.part-iterator ≡ into_iter_items l.initial.part-iterator;
  counted : into_iter_len l.part-iterator ≡ length (into_iter_items l.part-iterator);
}
