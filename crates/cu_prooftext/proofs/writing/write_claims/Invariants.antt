use Rattle.std.proofs.Common.{◌≡◌, ◌++◌, drop, map}
use Rattle.std.specs.List.{flat_map}
use Rattle.cu_crwl.specs.Meaning.{claim_of}
use Rattle.cu_prooftext.specs.Text.{claim_text}
use Rattle.cu_prooftext.proofs.writing.write_claims.Given as goal

-- what is written and what is left are the whole
abbrev pub invariant-loop-claim : goal.invariant-loop-claim
invariant-loop-claim l =
    l.out.items ++ flat_map claim_text (map claim_of (drop l.claim-index l.claims)) ≡ l.fn.out.items ++ flat_map claim_text (map claim_of (l.claims))
