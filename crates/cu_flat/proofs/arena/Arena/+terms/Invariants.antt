use Rattle.std.proofs.Common.{◌+◌, ◌*◌, drop, map}
use Rattle.cu_kernel.specs.TermsOf.{alternatives_of, terms_of}
use Rattle.cu_kernel.specs.declared.term.Term.{size-Term}
use denote.Param.Weighed.{most}
use Rattle.cu_flat.specs.Meaning.{branch_meaning, entry_meaning}
use Rattle.cu_flat.proofs.Parts.{BranchesLeft, TermsLeft}
use Rattle.cu_flat.proofs.arena.Arena.+terms.Given as goal

-- the terms so far were laid out, and with those that are left they are all
abbrev pub invariant-push_terms-loop-term : goal.invariant-push_terms-loop-term
invariant-push_terms-loop-term l =
    TermsLeft l.scope (terms_of l.terms) (terms_of (drop l.term-index l.terms)) (map entry_meaning l.fn.self.entries.items)
    (map entry_meaning l.self.entries.items) l.places.items l.used.items

-- the branches so far were laid out, and with those that are left they are all
abbrev pub invariant-push_branches-loop-pattern : goal.invariant-push_branches-loop-pattern
invariant-push_branches-loop-pattern l =
    BranchesLeft l.scope (alternatives_of l.rows) (alternatives_of (drop l.pattern-index l.rows)) (map entry_meaning l.fn.self.entries.items)
    (map entry_meaning l.self.entries.items) (map branch_meaning l.branches.items) l.used.items

abbrev pub decreases-push_term : goal.decreases-push_term
decreases-push_term l = 3 * size-Term l.term.now

abbrev pub decreases-push_under : goal.decreases-push_under
decreases-push_under l = 3 * size-Term l.term.now + 1

abbrev pub decreases-push_terms : goal.decreases-push_terms
decreases-push_terms l = 3 * most size-Term l.terms.now + 1

abbrev pub decreases-push_branches : goal.decreases-push_branches
decreases-push_branches l = 3 * most (λ a. size-Term a.1) l.rows.now + 2
