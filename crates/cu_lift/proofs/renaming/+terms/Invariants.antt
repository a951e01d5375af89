use Rattle.std.proofs.Common.{◌≡◌, ◌+◌, ◌*◌, ◌++◌, drop, map}
use denote.Param.Weighed.{most}
use Rattle.cu_kernel.specs.TermsOf.{term_of}
use Rattle.cu_kernel.specs.declared.local.LocalTerm.{size-LocalTerm}
use Rattle.cu_lift.proofs.LiftedCopies.{lifted_by, lifted_row, row_of}
use Rattle.cu_lift.specs.Inside.LiftedPlaces.{lifting_meaning}
use Rattle.cu_lift.proofs.renaming.+terms.Given as goal

abbrev pub decreases-lift_term : goal.decreases-lift_term
decreases-lift_term l = 3 * size-LocalTerm l.term.now

abbrev pub decreases-lift_boxed : goal.decreases-lift_boxed
decreases-lift_boxed l = 3 * size-LocalTerm l.term.now + 1

abbrev pub decreases-lift_arguments : goal.decreases-lift_arguments
decreases-lift_arguments l = 3 * most size-LocalTerm l.terms.now + 2

abbrev pub decreases-lift_terms : goal.decreases-lift_terms
decreases-lift_terms l = 3 * most size-LocalTerm l.terms.now + 1

abbrev pub decreases-lift_alternatives : goal.decreases-lift_alternatives
decreases-lift_alternatives l = 3 * most (λ a. size-LocalTerm a.1) l.alternatives.now + 1

-- the lifted terms and those that are left are all
abbrev pub invariant-lift_terms-loop-term : goal.invariant-lift_terms-loop-term
invariant-lift_terms-loop-term l =
    map term_of l.lifted.items ++ map (lifted_by (lifting_meaning l.renaming)) (drop l.term-index l.terms) ≡ map (lifted_by (lifting_meaning l.renaming)) l.terms

abbrev pub invariant-lift_alternatives-loop-alternative : goal.invariant-lift_alternatives-loop-alternative
invariant-lift_alternatives-loop-alternative l =
    map row_of l.lifted.items ++ map (lifted_row (lifting_meaning l.renaming)) (drop l.alternative-index l.alternatives)
    ≡ map (lifted_row (lifting_meaning l.renaming)) l.alternatives
