use Rattle.std.proofs.Common.{◌≡◌, ◌++◌, drop, map}
use Rattle.cu_kernel.specs.TermsOf.{term_of}
use Rattle.std.proofs.Common.{◌+◌, ◌*◌}
use denote.Param.Weighed.{most}
use Rattle.cu_kernel.specs.declared.term.Term.{size-Term}
use Rattle.cu_crwl.proofs.CopyLaws.{row_of}
use Rattle.cu_crwl.proofs.copy.+terms.Given as goal

abbrev pub decreases-boxed_copy : goal.decreases-boxed_copy
decreases-boxed_copy l = 2 * goal.size-boxed_copy l + 1

abbrev pub decreases-copy_alternatives : goal.decreases-copy_alternatives
decreases-copy_alternatives l = 2 * most (λ a. size-Term a.1) l.alternatives.now + 1

abbrev pub decreases-copy_term : goal.decreases-copy_term
decreases-copy_term l = 2 * goal.size-copy_term l

abbrev pub decreases-copy_terms : goal.decreases-copy_terms
decreases-copy_terms l = 2 * goal.size-copy_terms l + 1

abbrev pub invariant-copy_alternatives-loop-alternative : goal.invariant-copy_alternatives-loop-alternative
invariant-copy_alternatives-loop-alternative l = map row_of l.copies.items ++ map row_of (drop l.alternative-index l.alternatives) ≡ map row_of l.alternatives

abbrev pub invariant-copy_terms-loop-term : goal.invariant-copy_terms-loop-term
invariant-copy_terms-loop-term l = map term_of l.copies.items ++ map term_of (drop l.term-index l.terms) ≡ map term_of l.terms
