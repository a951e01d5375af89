use Rattle.std.specs.Vec.Iter.{into_iter_items}
use Rattle.cu_forms.proofs.CallLemmas.{Splits}
use Rattle.cu_forms.proofs.calls.split.Given as goal

abbrev pub invariant-loop-term : goal.invariant-loop-term
invariant-loop-term l = Splits l.count l.fn.terms.items l.first.items l.others.items (into_iter_items l.term-iterator)
