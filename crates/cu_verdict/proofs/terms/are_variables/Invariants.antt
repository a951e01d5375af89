use Rattle.std.proofs.Common.{◌≡◌, drop}
use Rattle.cu_kernel.specs.TermsOf.{terms_of}
use Rattle.cu_verdict.specs.Inside.Calls.{are_variables}
use Rattle.cu_verdict.proofs.terms.are_variables.Given as goal

-- the terms that are left decide as all do
abbrev pub invariant-loop-i : goal.invariant-loop-i
invariant-loop-i l = are_variables l.i (terms_of (drop l.i l.terms)) ≡ are_variables 0 (terms_of l.terms)
