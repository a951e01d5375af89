use Rattle.std.proofs.Common.{◌≡◌, drop, map}
use Rattle.std.specs.List.{list_any}
use Rattle.cu_calculus.specs.Value.{values_of}
use Rattle.cu_kernel.specs.Heads.{heads_program}
use Rattle.cu_crwl.specs.Meaning.{claim_of}
use Rattle.cu_crwl.specs.Table.{claim_gives}
use Rattle.cu_crwl.proofs.checker.Checker.claims_give.Given as goal

abbrev pub invariant-loop-claim : goal.invariant-loop-claim
invariant-loop-claim l =
    list_any (claim_gives (heads_program l.self.heads.now) l.constructor l.call.function (values_of l.call.arguments.now) l.value) (map claim_of (drop l.claim-index l.self.claims.now))
    ≡ list_any (claim_gives (heads_program l.self.heads.now) l.constructor l.call.function (values_of l.call.arguments.now) l.value) (map claim_of l.self.claims.now)
