use Rattle.std.proofs.Common.{◌≡◌, drop, map}
use Rattle.std.specs.List.{list_all}
use Rattle.cu_calculus.specs.Proof.{is_claim_of}
use Rattle.cu_kernel.specs.Heads.{heads_program}
use Rattle.cu_crwl.specs.Meaning.{claim_of}
use Rattle.cu_crwl.proofs.check.claims_are_of.Given as goal

abbrev pub invariant-loop-claim : goal.invariant-loop-claim
invariant-loop-claim l =
    list_all (is_claim_of (heads_program l.heads)) (map claim_of (drop l.claim-index l.claims))
    ≡ list_all (is_claim_of (heads_program l.heads)) (map claim_of l.claims)
