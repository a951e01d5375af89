use Rattle.std.proofs.Common.{◌≡◌, map}
use Rattle.std.specs.Vec.Iter.{into_iter_items}
use Rattle.cu_kernel.specs.LocalTermsOf.{local_term_of}
use Rattle.cu_translation.specs.Terms.{applied}
use Rattle.cu_forms.proofs.calls.applied.Given as goal

abbrev pub invariant-loop-argument : goal.invariant-loop-argument
invariant-loop-argument l =
    applied (local_term_of l.term) (map local_term_of (into_iter_items l.argument-iterator))
    ≡ applied (local_term_of l.fn.function) (map local_term_of l.fn.arguments.items)
