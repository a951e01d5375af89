use Rattle.cu_kernel.specs.TypesOf.{type_of}
use Rattle.cu_kernel.proofs.CopyLemmas.{all_copied, same_types}
use Rattle.cu_kernel.proofs.copies.+types.Goals as goal

pub copy_types-returns-clause-each : goal.copy_types-returns-clause-each
copy_types-returns-clause-each t c =
    all_copied type_of c.loop-term.copies.items c.args.terms.now c.loop-term.term-index c.loop-term-test.false c.loop-term.invariant

pub copy_types-returns-clause-whole : goal.copy_types-returns-clause-whole
copy_types-returns-clause-whole t c =
    same_types c.loop-term.copies.items c.args.terms.now
    (all_copied type_of c.loop-term.copies.items c.args.terms.now c.loop-term.term-index c.loop-term-test.false c.loop-term.invariant)
