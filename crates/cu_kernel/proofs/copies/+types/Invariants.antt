use Rattle.std.proofs.Common.{◌≡◌, ◌+◌, ◌*◌, ◌++◌, drop, map}
use denote.Param.Weighed.{most}
use Rattle.cu_kernel.specs.TypesOf.{type_of}
use Rattle.cu_kernel.specs.declared.type_term.TypeTerm.{size-TypeTerm}
use Rattle.cu_kernel.proofs.copies.+types.Given as goal

abbrev pub decreases-copy_type : goal.decreases-copy_type
decreases-copy_type l = 2 * size-TypeTerm l.term.now

abbrev pub decreases-copy_boxed : goal.decreases-copy_boxed
decreases-copy_boxed l = 2 * size-TypeTerm l.term.now + 1

abbrev pub decreases-copy_types : goal.decreases-copy_types
decreases-copy_types l = 2 * most size-TypeTerm l.terms.now + 1

-- the copies and the types that are left are all
abbrev pub invariant-copy_types-loop-term : goal.invariant-copy_types-loop-term
invariant-copy_types-loop-term l = map type_of l.copies.items ++ map type_of (drop l.term-index l.terms) ≡ map type_of l.terms
