use Rattle.cu_kernel.specs.TermsOf.{pattern_of}
use Rattle.cu_kernel.proofs.CopyLemmas.{all_copied, same_patterns}
use Rattle.cu_kernel.proofs.copies.+patterns.Goals as goal

pub copy_patterns-returns : goal.copy_patterns-returns
copy_patterns-returns t c =
    same_patterns c.loop-pattern.copies.items c.args.patterns.now
    (all_copied pattern_of c.loop-pattern.copies.items c.args.patterns.now c.loop-pattern.pattern-index c.loop-pattern-test.false c.loop-pattern.invariant)
