use Rattle.cu_kernel.specs.TermsOf.{term_of}
use Rattle.cu_lift.proofs.LiftedCopies.{all_made, lifted_by, lifted_row, row_of, rows_lifted, terms_lifted}
use Rattle.cu_lift.specs.Inside.LiftedPlaces.{lifting_meaning}
use Rattle.cu_lift.proofs.renaming.+terms.Goals as goal

pub lift_terms-returns : goal.lift_terms-returns
lift_terms-returns t c =
    terms_lifted (lifting_meaning c.args.renaming.now) c.loop-term.lifted.items c.args.terms.now
    (all_made term_of (lifted_by (lifting_meaning c.args.renaming.now)) c.loop-term.lifted.items c.args.terms.now c.loop-term.term-index
    c.loop-term-test.false c.loop-term.invariant)

pub lift_alternatives-returns : goal.lift_alternatives-returns
lift_alternatives-returns t c =
    rows_lifted (lifting_meaning c.args.renaming.now) c.loop-alternative.lifted.items c.args.alternatives.now
    (all_made row_of (lifted_row (lifting_meaning c.args.renaming.now)) c.loop-alternative.lifted.items c.args.alternatives.now
    c.loop-alternative.alternative-index c.loop-alternative-test.false c.loop-alternative.invariant)
