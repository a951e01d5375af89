use Rattle.std.proofs.Common.{◌≡◌, length, drop}
use Rattle.cu_kernel.specs.TermsOf.{terms_of}
use Rattle.cu_crwl.specs.Environments.{all_about}
use Rattle.cu_crwl.specs.Meaning.{statements_at}
use Rattle.cu_crwl.proofs.environment.concern_all.Given as goal

abbrev pub invariant-loop-i : goal.invariant-loop-i
invariant-loop-i l =
    (length l.statements ≡ length l.terms)
    × (all_about (statements_at (drop l.i l.statements)) l.env (terms_of (drop l.i l.terms)) ≡ all_about (statements_at l.statements) l.env (terms_of l.terms))
